use Rattle.std.proofs.Common.{drop}
use Rattle.columns.specs.Lists.{lent}
use Rattle.columns.specs.Plans.{all_sent}
use Rattle.columns.proofs.Batches.{MessagesLeft}
use Rattle.columns.proofs.plan.write_dictionaries.Given as goal

-- there is room for what is left, and with it all is written
abbrev pub invariant-loop-id : goal.invariant-loop-id
invariant-loop-id l = MessagesLeft (all_sent l.fn.recording 0 l.fn.met) (all_sent l.fn.recording l.id (drop l.id l.fn.met)) l.fn.writer l.writer (lent l.fn.messages) (lent l.messages)
