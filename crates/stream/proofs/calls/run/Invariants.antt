use Rattle.std.proofs.Common.{take}
use Rattle.runs.specs.Layers.{recorded}
use Rattle.runs.specs.Turns.{new_stream}
use Rattle.stream.specs.Running.{calls_of}
use Rattle.stream.specs.Streams.{state_of}
use Rattle.stream.proofs.Running.{CallsLeft, Going}
use Rattle.stream.proofs.calls.run.Given as goal

abbrev pub invariant-loop-i : goal.invariant-loop-i
invariant-loop-i g l =
    Going l.fn.recording l.fn.options l.fn.form (g.S.IpcMessageSink.memories l.fn.sink) (g.S.IpcMessageSink.memories l.stream.sink) l.stream
    (CallsLeft (record { options = l.fn.options; form = g.F.HeaderForm.header l.fn.form; cost = g.S.IpcMessageSink.cost }) (recorded l.fn.recording) (calls_of (take l.count l.calls) (take l.count l.fn.memories))
    (new_stream (g.S.IpcMessageSink.meaning l.fn.sink)) (state_of g.S.IpcMessageSink.meaning l.stream) l.i l.fn.answers l.answers l.fn.memories l.memories l.fn.updates l.updates)
