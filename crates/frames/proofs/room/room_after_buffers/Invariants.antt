use Rattle.std.proofs.Common.{drop}
use Rattle.frames.specs.Frames.{named}
use Rattle.frames.proofs.Rooms.{RoomLeft}
use Rattle.frames.proofs.room.room_after_buffers.Given as goal

abbrev pub invariant-loop-entry : goal.invariant-loop-entry
invariant-loop-entry l = RoomLeft l.cost l.alignment (named l.fn.sources l.fn.buffers) (named l.sources (drop l.entry-index l.buffers)) l.fn.room l.left
