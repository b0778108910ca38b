use Rattle.laws.proofs.nothing_else_counts_stands.Goals as goal
use Rattle.laws.proofs.Windows.{nothing_else}

pub returns : goal.returns
returns c = nothing_else
