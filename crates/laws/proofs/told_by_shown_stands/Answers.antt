use Rattle.laws.proofs.told_by_shown_stands.Goals as goal
use Rattle.laws.proofs.Windows.{told}

pub returns : goal.returns
returns c = told
