use Rattle.std.proofs.Common.{◌≡◌, take}
use Rattle.dictionaries.specs.Walking.{updates_in}
use Rattle.columns.specs.Lists.{over}
use Rattle.stream.proofs.stream.write_updates.Given as goal

abbrev pub invariant-loop-id : goal.invariant-loop-id
invariant-loop-id l = l.updates ≡ over l.fn.updates 0 (updates_in (take l.id l.met))
