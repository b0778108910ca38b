use Rattle.std.proofs.Common.{◌+◌, drop}
use Rattle.frames.specs.Writing.{messages_told}
use Rattle.frames.proofs.Framing.{Kept}
use Rattle.frames.proofs.Writing.{FramesLeft}
use Rattle.frames.proofs.writer.write_frames.Given as goal

abbrev pub invariant-loop-j : goal.invariant-loop-j
invariant-loop-j g l =
    Kept (FramesLeft g.S.IpcMessageSink.cost l.fn.alignment (g.F.HeaderForm.header l.fn.form) l.fn.ordinal (l.fn.ordinal + l.j) l.j (messages_told l.fn.sources l.fn.records l.fn.messages)
    (messages_told l.fn.sources l.later (drop l.j l.messages)) l.fn.messages l.messages l.fn.metadata l.metadata (g.S.IpcMessageSink.meaning l.fn.sink) (g.S.IpcMessageSink.meaning l.sink))
    (g.S.IpcMessageSink.memories l.fn.sink) (g.S.IpcMessageSink.memories l.sink)
