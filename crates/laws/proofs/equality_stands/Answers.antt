use Rattle.laws.proofs.equality_stands.Goals as goal
use Rattle.laws.proofs.Windows.{equality}

pub returns : goal.returns
returns c = equality
