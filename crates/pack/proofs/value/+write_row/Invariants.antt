use Rattle.std.proofs.Common.{◌-◌, length, All}
use Rattle.recording.specs.NodeRefs.{table_of}
use Rattle.recording.specs.RowPlaces.{rows_left, parts_left}
use Rattle.recording.specs.Values.{StandsBelow}
use Rattle.pack.proofs.value.+write_row.Given as goal

abbrev pub decreases-write_row : goal.decreases-write_row
decreases-write_row g l = length (table_of l.row.node) - l.row.node.index

abbrev pub invariant-loop-element : goal.invariant-loop-element
invariant-loop-element g l = All (StandsBelow l.fn.row) (rows_left l.element-iterator)

abbrev pub invariant-loop-part : goal.invariant-loop-part
invariant-loop-part g l = All (StandsBelow l.fn.row) (parts_left l.part-iterator)
