use Rattle.std.proofs.Common.{◌+◌, ◌*◌, All}
use Rattle.recording.specs.NodeRefs.{numbers_of}
use Rattle.recording.specs.Passing.{windows_left, IsSmaller}
use Rattle.columns.specs.Buffers.{windows_below}
use Rattle.layout.specs.declared.kind.Kind.TheVariants.{Struct}
use Rattle.columns.proofs.Writing.{Left}
use Rattle.columns.proofs.writer.IpcMessageWriter.+write.Given as goal

-- the span falls
abbrev pub decreases-write_array_data : goal.decreases-write_array_data
decreases-write_array_data l = 3 * (numbers_of l.window.now.node).span + 2

abbrev pub decreases-write_contents : goal.decreases-write_contents
decreases-write_contents l = 3 * (numbers_of l.window.now.node).span + 1

abbrev pub decreases-write_children : goal.decreases-write_children
decreases-write_children l = 3 * (numbers_of l.window.now.node).span

-- there is room for what is left, and with it all is written
abbrev pub invariant-write_children-loop-child : goal.invariant-write_children-loop-child
invariant-write_children-loop-child l =
    record {
      left : Left (windows_below Struct l.fn.window) (windows_left l.child-iterator) l.fn.self l.self;
      smaller : All (IsSmaller l.fn.window) (windows_left l.child-iterator);
    }
