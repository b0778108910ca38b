use Rattle.std.proofs.Common.{◌+◌, drop}
use Rattle.frames.specs.Writing.{messages_told}
use Rattle.frames.proofs.Sizing.{CountLeft}
use Rattle.frames.proofs.writer.room_after_frames.Given as goal

abbrev pub invariant-loop-j : goal.invariant-loop-j
invariant-loop-j g l =
    CountLeft l.fn.cost l.fn.alignment (g.F.HeaderForm.header l.fn.form) l.fn.ordinal (l.fn.ordinal + l.j) (messages_told l.fn.sources l.fn.records l.fn.messages) (messages_told l.fn.sources l.later (drop l.j l.fn.messages)) l.fn.room l.left
