use Rattle.std.proofs.Common.{◌≡◌, ◌≤◌, ◌<◌, List, map, length, ◌∙◌, refl, ap, ap₂, subst, Err, arith, rules}
use Rattle.recording.specs.View.{nodes_in, bytes_in}
use Rattle.dictionaries.specs.declared.tracker.DictionaryTracker.{DictionaryTracker}
use Rattle.dictionaries.specs.Tracking.{kept_shown, kept_windows}
use Rattle.dictionaries.specs.declared.update.MetDictionary.{MetDictionary}
use Rattle.dictionaries.specs.Batches.{kept_after}
use Rattle.dictionaries.specs.Walking.{updates_in}
use Rattle.recording.specs.Alignments.{alignment_number}
use Rattle.columns.specs.Lists.{over}
use Rattle.columns.specs.Plans.{messages_of, all_entries}
use Rattle.frames.specs.Batches.{Unwritten, Written}
use Rattle.frames.specs.Sinks.{SinkMeaning}
use Rattle.runs.specs.Calls.{alignment}
use Rattle.stream.specs.Streams.{setting_of, state_of}
use Rattle.stream.proofs.Ways.{kept_there, columns_refused, met_refused, frames_unwritten, batch_accepted, few_messages}
use Rattle.stream.proofs.stream.Stream.batch.Goals as goal

pub returns-in_err-columns-clause-took : goal.returns-in_err-columns-clause-took
returns-in_err-columns-clause-took g c =
    let s = c.args.self.now in
    let e : c.from_residual.result ≡ Err c.in_err-columns.field-0.0 = search rules in
    columns_refused (setting_of g.F.HeaderForm.header g.S.IpcMessageSink.cost s) s.recording c.args.batch.first c.args.batch.columns c.args.batch.rows c.args.memory.now (state_of g.S.IpcMessageSink.meaning s)
    c.if-self.false (omega arith) c.in_err-columns.field-0.0 c.args.updates.now c.from_residual.result e c.in_err-columns.ensures

pub returns-in_err-met-clause-took : goal.returns-in_err-met-clause-took
returns-in_err-met-clause-took g c =
    let s = c.args.self.now in
    let found = c.in_ok-columns.ensures in
    let e : c.from_residual-in_err-met.result ≡ Err c.in_err-met.field-0.0 = search rules in
    met_refused (setting_of g.F.HeaderForm.header g.S.IpcMessageSink.cost s) s.recording c.args.batch.first c.args.batch.columns c.args.batch.rows c.args.memory.now (state_of g.S.IpcMessageSink.meaning s)
    c.if-self.false (omega arith) c.in_ok-columns.columns (kept_windows s.tracker) found (kept_there s.recording c.in_ok-columns.columns (kept_windows s.tracker) found.1)
    c.in_err-met.field-0.0 c.args.updates.now c.from_residual-in_err-met.result _ e (ap (λ (t : DictionaryTracker). state_of g.S.IpcMessageSink.meaning (record s { tracker = t })) c.in_err-met.ensures.kept) c.in_err-met.ensures.met

pub returns-in_err-messages-clause-took : goal.returns-in_err-messages-clause-took
returns-in_err-messages-clause-took g c =
    let s = c.args.self.now in
    let state = state_of g.S.IpcMessageSink.meaning s in
    let e = setting_of g.F.HeaderForm.header g.S.IpcMessageSink.cost s in
    let columns = c.in_ok-columns.columns in
    let found = c.in_ok-columns.ensures in
    let answer : c.from_residual-in_err-messages.result ≡ Err c.in_err-messages.field-0.0 = search rules in
    let unwritten : List MetDictionary → Type 0 =
    λ ms. Unwritten e.cost (alignment e) e.form s.messages (messages_of columns ms) c.args.memory.now c.write_to_sink.new.memory state.sink c.in_err-messages.field-0.0 in
    let same =
    ap₂ (λ (t : DictionaryTracker) (m : SinkMeaning). record state { kept = map (kept_shown (nodes_in s.recording) (bytes_in s.recording)) (kept_windows t); sink = m })
    c.in_ok-met.ensures.kept (ap g.S.IpcMessageSink.meaning c.in_err-messages.ensures.unsent) in
    frames_unwritten e s.recording c.args.batch.first c.args.batch.columns c.args.batch.rows c.args.memory.now state
    c.if-self.false (omega arith) columns (kept_windows s.tracker) found (kept_there s.recording columns (kept_windows s.tracker) found.1)
    c.in_ok-met.met.items c.in_ok-met.ensures.met c.in_err-messages.field-0.0 c.write_to_sink.new.memory c.args.updates.now c.from_residual-in_err-messages.result _ answer same
    (subst unwritten c.as_slice.ensures.value c.in_err-messages.ensures.answer)

pub overflow_cast-self : goal.overflow_cast-self
overflow_cast-self g c =
    let few : length c.as_slice.result.now ≤ 64 = c.as_slice.ensures.fits in
    omega (arith, few, c.in_ok-messages.ensures.answer.count, few_messages c.in_ok-columns.columns c.as_slice.result.now)

pub overflow_add-self : goal.overflow_add-self
overflow_add-self g c =
    let few : length c.as_slice.result.now ≤ 64 = c.as_slice.ensures.fits in
    let below : c.args.self.now.messages < 4000000000 = omega arith in
    omega (arith, below, few, c.in_ok-messages.ensures.answer.count, few_messages c.in_ok-columns.columns c.as_slice.result.now)

pub returns-clause-took : goal.returns-clause-took
returns-clause-took g c =
    let s = c.args.self.now in
    let state = state_of g.S.IpcMessageSink.meaning s in
    let e = setting_of g.F.HeaderForm.header g.S.IpcMessageSink.cost s in
    let columns = c.in_ok-columns.columns in
    let found = c.in_ok-columns.ensures in
    let items = c.in_ok-met.met.items in
    let went : List MetDictionary → Type 0 =
    λ ms. Written e.cost (alignment e) e.form s.messages (messages_of columns ms) c.args.memory.now c.write_to_sink.new.memory state.sink (g.S.IpcMessageSink.meaning c.write_to_sink.new.sink) c.in_ok-messages.messages in
    let kept_then = ap₂ (λ (t : DictionaryTracker) (ms : List MetDictionary). kept_after (kept_windows t) ms) c.in_ok-met.ensures.kept c.as_slice-2.ensures.value in
    let over_so = c.write_updates.ensures ∙ ap (λ (ms : List MetDictionary). over c.args.updates.now 0 (updates_in ms)) c.as_slice-3.ensures.value in
    batch_accepted e s.recording c.args.batch.first c.args.batch.columns c.args.batch.rows c.args.memory.now state
    c.if-self.false (omega arith) columns (kept_windows s.tracker) found (kept_there s.recording columns (kept_windows s.tracker) found.1)
    items c.in_ok-met.ensures.met c.write_to_sink.new.memory c.in_ok-messages.messages _ _ c.args.updates.now c.write_updates.new.updates c.len.ensures.value refl
    (ap (map (kept_shown (nodes_in s.recording) (bytes_in s.recording))) (c.keep.ensures ∙ kept_then) ∙ kept_there s.recording columns (kept_after (kept_windows s.tracker) items) found.1)
    refl refl over_so (subst went c.as_slice.ensures.value c.in_ok-messages.ensures.answer)

pub returns-clause-placed : goal.returns-clause-placed
returns-clause-placed g c =
    let al = alignment_number c.args.self.now.options.alignment in
    let columns = c.in_ok-columns.columns in
    let entries = λ (ms : List MetDictionary). over c.args.memory.now.buffers.now 0 (all_entries al 0 (messages_of columns ms)) in
    (columns, c.in_ok-met.met.items, c.in_ok-columns.ensures, c.in_ok-met.ensures.met, c.in_ok-messages.ensures.answer.buffers ∙ ap entries c.as_slice.ensures.value)
