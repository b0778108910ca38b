use Rattle.laws.proofs.dictionaries_heard_stands.Goals as goal
use Rattle.laws.proofs.Windows.{heard_so}

pub returns : goal.returns
returns c = heard_so
