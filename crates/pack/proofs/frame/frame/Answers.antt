use Rattle.std.proofs.Common.{◌≡◌, List, Err, inl, inr, subst, rules}
use Rattle.layout.specs.declared.fault.Fault.{Fault}
use Rattle.recording.specs.Alignments.{alignment_number}
use Rattle.recording.specs.declared.recording.Recording.{Recording}
use Rattle.recording.specs.View.{bytes_in}
use Rattle.dictionaries.specs.declared.update.MetDictionary.{MetDictionary}
use Rattle.columns.specs.Plans.{messages_of}
use Rattle.columns.specs.Telling.{Tells}
use Rattle.frames.specs.Batches.{Written, Unwritten}
use Rattle.pack.proofs.frame.frame.Goals as goal

pub returns-in_err-met-clause-answer : goal.returns-in_err-met-clause-answer
returns-in_err-met-clause-answer g c =
    let f : Fault = c.in_err-met.field-0.0 in
    let e : c.from_residual-in_err-met.result ≡ Err f = search rules in
    rw e (record { why = inl (inr (c.in_ok-columns.columns, c.in_ok-columns.ensures, c.in_err-met.ensures.met), search rules); unchanged = c.in_err-met.ensures.kept; same_count = search rules })

pub returns-in_err-messages-clause-answer : goal.returns-in_err-messages-clause-answer
returns-in_err-messages-clause-answer g c =
    let f : Fault = c.in_err-messages.field-0.0 in
    let e : c.from_residual-in_err-messages.result ≡ Err f = search rules in
    let columns = c.in_ok-columns.columns in
    let met : c.deref.result.now ≡ c.in_ok-met.met.items = search rules in
    let U : List MetDictionary → Type 0 =
    λ ms. Unwritten g.S.IpcMessageSink.cost (alignment_number c.args.options.now.alignment) (g.F.HeaderForm.header c.args.form.now) c.args.ordinal.now (messages_of columns ms) c.args.memory.now c.write_to_sink.new.memory (g.S.IpcMessageSink.meaning c.args.sink.now) f in
    rw e (record { why = inr (record { columns = columns; met = c.in_ok-met.met.items; found = c.in_ok-columns.ensures; are_met = c.in_ok-met.ensures.met; unwritten = subst U met c.in_err-messages.ensures.answer }); unchanged = c.in_ok-met.ensures.kept; same_count = search rules })

pub returns-clause-answer : goal.returns-clause-answer
returns-clause-answer g c =
    let columns = c.in_ok-columns.columns in
    let al = alignment_number c.args.options.now.alignment in
    let n = c.in_ok-messages.messages in
    let met : c.deref.result.now ≡ c.in_ok-met.met.items = search rules in
    let W : List MetDictionary → Type 0 =
    λ ms. Written g.S.IpcMessageSink.cost al (g.F.HeaderForm.header c.args.form.now) c.args.ordinal.now (messages_of columns ms) c.args.memory.now c.write_to_sink.new.memory (g.S.IpcMessageSink.meaning c.args.sink.now) (g.S.IpcMessageSink.meaning c.write_to_sink.new.sink) n in
    let T : Recording → List MetDictionary → Type 0 =
    λ r ms. Tells al (bytes_in r) (messages_of columns ms) c.write_to_sink.new.memory n in
    record {
      columns = columns;
      found = c.in_ok-columns.ensures;
      met = c.in_ok-met.ensures.met;
      written = subst W met c.in_ok-messages.ensures.answer;
      told = subst (λ r. T r c.in_ok-met.met.items) c.in_ok-columns.ensures.1 (subst (T columns.recording) met c.in_ok-messages.ensures.told);
      kept = search rules;
      counted = search rules;
      held_before = search rules;
      pieces_before = search rules;
    }
