use Rattle.dictionaries.proofs.Laws.{nothing_else_counts}
use Rattle.dictionaries.proofs.law.nothing_else_counts_stands.Goals as goal

pub returns : goal.returns
returns c = nothing_else_counts
