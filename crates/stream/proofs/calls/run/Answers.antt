use Rattle.std.proofs.Common.{◌≡◌, ℕ, [], take, get_or, ◌∙◌, subst, arith}
use Rattle.runs.specs.Calls.{Setting}
use Rattle.runs.specs.Layers.{recorded}
use Rattle.runs.specs.Turns.{Turn, new_stream}
use Rattle.stream.specs.declared.calls.Answer.TheVariants.{Cleared}
use Rattle.stream.specs.declared.calls.Call.TheVariants.{NextDictId}
use Rattle.stream.specs.Running.{call_of, calls_of, calls_made, CallTook, Ran, run_of}
use Rattle.stream.specs.Streams.{state_of}
use Rattle.stream.proofs.Running.{no_memory, next_call, memory_there, after_call, in_run, ran}
use Rattle.stream.proofs.calls.run.Goals as goal

pub loop-i-preserved : goal.loop-i-preserved
loop-i-preserved g c =
    let e : Setting = record { options = c.args.options; form = g.F.HeaderForm.header c.args.form; cost = g.S.IpcMessageSink.cost } in
    let rec = c.args.recording in
    let n = c.min-count.result in
    let cs = c.args.calls.now in
    let ws = c.args.answers.now in
    let ms = c.args.memories.now in
    let us = c.args.updates.now in
    let i = c.loop-i.i in
    let going = c.loop-i.invariant in
    let first = new_stream (g.S.IpcMessageSink.meaning c.args.sink) in
    let now = state_of g.S.IpcMessageSink.meaning c.loop-i.stream in
    let all = calls_of (take n cs) (take n ms) in
    let there = memory_there e (recorded rec) all first ws ms us now i c.loop-i.answers c.loop-i.memories c.loop-i.updates going.left no_memory (omega arith) (omega arith) in
    let turned = in_run g.F.HeaderForm.header g.S.IpcMessageSink.cost c.loop-i.stream rec c.args.options c.args.form going.recording going.same_options going.same_form (get_or cs i NextDictId) _ _ there now in
    let took = subst (λ (t : Turn). CallTook t c.call.result (state_of g.S.IpcMessageSink.meaning c.call.new.self) (get_or c.loop-i.memories i no_memory) c.call.new.memory (get_or c.loop-i.updates i []) c.call.new.updates) turned c.call.ensures.took in
    record {
      left =
          after_call e (recorded rec) all first ws ms us now i c.loop-i.answers c.loop-i.memories c.loop-i.updates going.left
          (call_of (get_or cs i NextDictId) (get_or ms i no_memory)) (next_call cs ms n i NextDictId no_memory (omega arith) (omega arith) (omega arith))
          c.call.result Cleared c.call.new.memory no_memory c.call.new.updates [] (state_of g.S.IpcMessageSink.meaning c.call.new.self) (omega arith) (omega arith) (omega arith) (omega arith) took;
      recording = c.call.ensures.same.recording ∙ going.recording;
      same_options = c.call.ensures.same.options ∙ going.same_options;
      same_form = c.call.ensures.same.form ∙ going.same_form;
      memories = c.call.ensures.memories ∙ going.memories;
    }

pub returns-clause-ran : goal.returns-clause-ran
returns-clause-ran g c =
    let e : Setting = record { options = c.args.options; form = g.F.HeaderForm.header c.args.form; cost = g.S.IpcMessageSink.cost } in
    let rec = c.args.recording in
    let n = c.min-count.result in
    let cs = c.args.calls.now in
    let ws = c.args.answers.now in
    let ms = c.args.memories.now in
    let us = c.args.updates.now in
    let m = g.S.IpcMessageSink.meaning c.args.sink in
    let now = state_of g.S.IpcMessageSink.meaning c.loop-i.stream in
    let counted : n ≡ calls_made cs ms us ws = cc (c.min.ensures, c.min-2.ensures, c.min-count.ensures) in
    subst (λ (k : ℕ). Ran (run_of e (recorded rec) cs ms k m) now ws c.loop-i.answers ms c.loop-i.memories us c.loop-i.updates) counted
    (ran e rec cs m n c.loop-i.i now ws c.loop-i.answers ms c.loop-i.memories us c.loop-i.updates (omega arith) c.loop-i.invariant.left)
