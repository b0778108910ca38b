use Rattle.laws.proofs.shows_values_stands.Goals as goal
use Rattle.laws.proofs.Windows.{shows_values}

pub returns : goal.returns
returns c = shows_values
