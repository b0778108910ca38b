use Rattle.columns.proofs.Shows.{nothing_else_counts}
use Rattle.columns.proofs.law.nothing_else_counts_stands.Goals as goal
use Rattle.columns.proofs.law.nothing_else_counts_stands.Goals.{Start}

pub returns : goal.returns
returns c = nothing_else_counts
