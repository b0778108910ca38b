use Rattle.std.proofs.Common.{sym, ◌∙◌, ap, subst}
use Rattle.runs.specs.Turns.{turn}
use Rattle.stream.specs.declared.calls.Answer.TheVariants.{Refused}
use Rattle.stream.specs.declared.calls.Call.{Call}
use Rattle.stream.specs.Running.{call_of, CallTook}
use Rattle.stream.specs.Streams.{setting_of, recorded_in, state_of, finish_answer}
use Rattle.stream.proofs.Ending.{finish_leaves}
use Rattle.stream.proofs.stream.Stream.call.Goals as goal

pub returns-in-Err-finish-clause-took : goal.returns-in-Err-finish-clause-took
returns-in-Err-finish-clause-took g c =
    let took = c.finish.ensures.took in
    let e = setting_of g.F.HeaderForm.header g.S.IpcMessageSink.cost c.args.self.now in
    let r = recorded_in c.args.self.now in
    let s = state_of g.S.IpcMessageSink.meaning c.args.self.now in
    let m = c.args.memory.now in
    let us = c.args.updates.now in
    let P : Call → Type 0 = λ k. CallTook (turn e r (call_of k m) s) (Refused c.in-Err-finish.fault) (state_of g.S.IpcMessageSink.meaning c.finish.new.self) m m us us in
    subst P (sym c.in-Finish.is) record { answer = sym took.told ∙ ap finish_answer c.in-Err-finish.is; state = took.state; leaves = finish_leaves e r s m us }
