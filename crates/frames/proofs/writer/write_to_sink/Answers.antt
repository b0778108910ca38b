use Rattle.std.proofs.Common.{ℕ, take, refl, subst}
use Rattle.recording.specs.Alignments.{alignment_number}
use Rattle.recording.specs.declared.recording.Recording.{Recording}
use Rattle.recording.specs.View.{bytes_in}
use Rattle.columns.specs.Plans.{messages_of}
use Rattle.columns.specs.Telling.{told_all}
use Rattle.frames.specs.Batches.{Goes}
use Rattle.frames.proofs.WholeBatch.{planned_within, told_again, written}
use Rattle.frames.proofs.writer.write_to_sink.Goals as goal

pub send_planned-requires-clause-within : goal.send_planned-requires-clause-within
send_planned-requires-clause-within g c = planned_within (alignment_number c.args.options.now.alignment) _ c.args.memory.now c.plan_batch.new.memory c.in_ok-count.count c.in_ok-count.ensures.planned

pub returns-clause-answer : goal.returns-clause-answer
returns-clause-answer g c =
    let cost = g.S.IpcMessageSink.cost in
    let al = alignment_number c.args.options.now.alignment in
    let form = g.F.HeaderForm.header c.args.form.now in
    let columns = c.args.columns.now in
    let bs = bytes_in columns.recording in
    let mid = c.plan_batch.new.memory in
    let n = c.in_ok-count.count in
    let G : ℕ → ℕ → Recording → Type 0 =
    λ a o r. Goes cost a form o (told_all (bytes_in r) mid.work.now mid.fields.now mid.buffers.now (take n mid.messages.now)) (take n mid.messages.now) (take n c.send_planned.new.messages) mid.metadata.now c.send_planned.new.metadata
    (g.S.IpcMessageSink.meaning c.args.sink.now) (g.S.IpcMessageSink.meaning c.send_planned.new.sink) in
    let goes = subst (λ (r : Recording). G al c.args.ordinal r) c.recording.ensures (subst (λ (o : ℕ). G al o c.recording.result) c.from.ensures (subst (λ (a : ℕ). G a c.from.result c.recording.result) c.alignment.ensures.value c.in_ok-send_planned.ensures.answer)) in
    written cost al form c.args.ordinal bs (messages_of columns c.args.met.now) c.args.memory.now c.plan_batch.new.memory _ c.in_ok-count.count _ _
    c.in_ok-count.ensures.planned c.in_ok-count.ensures.told goes c.in_ok-send_planned.ensures.rest
    c.in_ok-send_planned.ensures.work c.in_ok-send_planned.ensures.fields c.in_ok-send_planned.ensures.buffers refl refl refl refl refl

pub returns-clause-told : goal.returns-clause-told
returns-clause-told g c =
    let al = alignment_number c.args.options.now.alignment in
    let columns = c.args.columns.now in
    let bs = bytes_in columns.recording in
    let mid = c.plan_batch.new.memory in
    let n = c.in_ok-count.count in
    let form = g.F.HeaderForm.header c.args.form.now in
    let G : ℕ → ℕ → Recording → Type 0 =
    λ a o r. Goes g.S.IpcMessageSink.cost a form o (told_all (bytes_in r) mid.work.now mid.fields.now mid.buffers.now (take n mid.messages.now)) (take n mid.messages.now) (take n c.send_planned.new.messages) mid.metadata.now c.send_planned.new.metadata
    (g.S.IpcMessageSink.meaning c.args.sink.now) (g.S.IpcMessageSink.meaning c.send_planned.new.sink) in
    let goes = subst (λ (r : Recording). G al c.args.ordinal r) c.recording.ensures (subst (λ (o : ℕ). G al o c.recording.result) c.from.ensures (subst (λ (a : ℕ). G a c.from.result c.recording.result) c.alignment.ensures.value c.in_ok-send_planned.ensures.answer)) in
    told_again al (g.F.HeaderForm.header c.args.form.now) c.args.ordinal bs (messages_of columns c.args.met.now) c.plan_batch.new.memory _ c.in_ok-count.count c.in_ok-count.ensures.told
    c.in_ok-send_planned.ensures.work c.in_ok-send_planned.ensures.fields c.in_ok-send_planned.ensures.buffers goes.messages
