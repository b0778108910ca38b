use Rattle.std.proofs.Common.{drop}
use Rattle.frames.specs.Frames.{named}
use Rattle.frames.proofs.Framing.{Kept, BuffersLeft}
use Rattle.frames.proofs.frame.write_buffers.Given as goal

-- there is room for what is left, and with it all is written
abbrev pub invariant-loop-entry : goal.invariant-loop-entry
invariant-loop-entry g l =
    Kept (BuffersLeft g.S.IpcMessageSink.cost l.alignment (named l.fn.sources l.fn.buffers) (named l.sources (drop l.entry-index l.buffers)) (g.S.IpcMessageSink.meaning l.fn.sink) (g.S.IpcMessageSink.meaning l.sink))
    (g.S.IpcMessageSink.memories l.fn.sink) (g.S.IpcMessageSink.memories l.sink)
