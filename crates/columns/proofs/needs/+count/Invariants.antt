use Rattle.std.proofs.Common.{◌+◌, ◌*◌, All}
use Rattle.layout.specs.declared.kind.Kind.TheVariants.{Struct}
use Rattle.recording.specs.NodeRefs.{numbers_of}
use Rattle.recording.specs.Passing.{windows_left, IsSmaller}
use Rattle.columns.specs.Buffers.{windows_below}
use Rattle.columns.proofs.Counting.{CountLeft}
use Rattle.columns.proofs.needs.+count.Given as goal

-- the span falls
abbrev pub decreases-count_array_data : goal.decreases-count_array_data
decreases-count_array_data l = 3 * (numbers_of l.window.now.node).span + 2

abbrev pub decreases-needs_below : goal.decreases-needs_below
decreases-needs_below l = 3 * (numbers_of l.window.now.node).span + 1

abbrev pub decreases-count_children : goal.decreases-count_children
decreases-count_children l = 3 * (numbers_of l.window.now.node).span

-- with the needs of what is left they are those of all
abbrev pub invariant-count_children-loop-child : goal.invariant-count_children-loop-child
invariant-count_children-loop-child l =
    record {
      left : CountLeft (windows_below Struct l.fn.window) (windows_left l.child-iterator) l.needs;
      smaller : All (IsSmaller l.fn.window) (windows_left l.child-iterator);
    }
