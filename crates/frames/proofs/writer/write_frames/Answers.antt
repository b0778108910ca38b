use Rattle.std.proofs.Common.{◌≡◌, ℕ, ◌+◌, List, ◌∷◌, length, map, drop, get_or, sym, ◌∙◌, ap, ap₂, subst, add_assoc, Ok, arith, rules}
use Rattle.std.proofs.lemmas.List.{drop-set-lt}
use Rattle.std.specs.Prelude.{slice_set}
use Rattle.layout.specs.Messages as sent
use Rattle.layout.specs.Messages.{body}
use Rattle.columns.specs.declared.message.Message.{Message}
use Rattle.columns.specs.declared.record.BufferEntry.{BufferEntry}
use Rattle.columns.specs.declared.record.FieldRecord.{FieldRecord}
use Rattle.columns.specs.Telling.{Told, told, told_all, field_read, buffer_read, bytes_named}
use Rattle.frames.specs.declared.form.Description.{Description}
use Rattle.frames.specs.Frames.{header_length, named, frame, frame_pieces}
use Rattle.frames.specs.Headers.{described, header_of, over_front}
use Rattle.frames.specs.Sinks.{with_pieces}
use Rattle.frames.specs.Writing.{messages_told, message_frame, message_pieces}
use Rattle.frames.proofs.Sizing.{no_message, next_message}
use Rattle.frames.proofs.Writing.{ok_same, FramesLeft, after_frame}
use Rattle.frames.proofs.writer.write_frames.Goals as goal

pub loop-j-preserved : goal.loop-j-preserved
loop-j-preserved g c =
    let form = g.F.HeaderForm.header c.args.form.now in
    let o = c.args.ordinal in
    let al = c.args.alignment in
    let cost = g.S.IpcMessageSink.cost in
    let ss = c.args.sources.now in
    let ms = c.loop-j.messages in
    let j = c.loop-j.j in
    let later = c.loop-j.later in
    let m = get_or ms j no_message in
    let t = told ss.recording.now ss.work.now later.fields.now later.buffers.now m in
    let ts = told_all ss.recording.now ss.work.now (drop m.fields later.fields.now) (drop m.buffers later.buffers.now) (drop (j + 1) ms) in
    let all = messages_told ss c.args.records c.args.messages.now in
    let sink_first = g.S.IpcMessageSink.meaning c.args.sink.now in
    let sink = g.S.IpcMessageSink.meaning c.loop-j.sink in
    let next : drop j ms ≡ m ∷ drop (j + 1) ms = next_message j ms no_message (omega arith) in
    let here = subst (λ (xs : List Told). FramesLeft cost al form o (o + j) j all xs c.args.messages.now ms c.args.metadata.now c.loop-j.metadata sink_first sink) (ap (messages_told ss later) next) c.loop-j.invariant.left in
    let told_so : described c.describe-message.result ≡ t.message =
    ap described c.describe-message.ensures
    ∙ ap₂ (λ (fs : List FieldRecord) (es : List BufferEntry). let d : sent.Message = record t.message { fields = map field_read fs; buffers = map buffer_read es } in d) c.split.ensures.own_fields c.split.ensures.own_buffers in
    let buffers : named ss c.describe-message.result.buffers.now ≡ t.buffers =
    ap (λ (d : Description). named ss d.buffers.now) c.describe-message.ensures ∙ ap (λ (es : List BufferEntry). map (bytes_named ss.recording.now ss.work.now) es) c.split.ensures.own_buffers in
    let metadata : c.write_message.new.metadata ≡ over_front (header_of (form (o + j) t.message)) c.loop-j.metadata =
    c.write_message.ensures.metadata ∙ ap (λ (d : sent.Message). over_front (header_of (form (o + j) d)) c.loop-j.metadata) told_so in
    let taken : g.S.IpcMessageSink.meaning c.write_message.new.sink ≡ with_pieces cost (frame al (form (o + j) t.message) t) (frame_pieces al (form (o + j) t.message) t) sink =
    c.write_message.ensures.taken.taken
    ∙ ap₂ (λ (d : sent.Message) (bs : List (List ℕ)). with_pieces cost (message_frame al (form (o + j) d) bs) (message_pieces al (form (o + j) d) bs) sink) told_so buffers in
    let after = after_frame cost al form o (o + j) j all t ts c.args.messages.now ms c.args.metadata.now c.loop-j.metadata sink_first sink here m (drop (j + 1) ms) next (omega arith) c.write_message.new.metadata metadata (g.S.IpcMessageSink.meaning c.write_message.new.sink) taken in
    let wrote = c.in_ok-messages.field-0 in
    let was : c.write_message.result ≡ Ok wrote = search rules in
    let answered = c.write_message.ensures.taken.answered in
    let body_len : c.describe-message.result.body_len ≡ m.lengths.1 = ap (λ (d : Description). d.body_len) c.describe-message.ensures in
    let pair : (header_length al (length (form (o + j) t.message)), m.lengths.1) ≡ wrote =
    sym (ok_same _ _ _ was answered ∙ ap₂ (λ (d : sent.Message) (b : ℕ). (header_length al (length (form (o + j) d)), b)) told_so body_len) in
    let n : Message = record m { lengths = wrote } in
    let P : ℕ → ℕ × ℕ → List Told → Type 0 =
    λ k p xs. FramesLeft cost al form o k (j + 1) all xs c.args.messages.now (slice_set ms j (record m { lengths = p })) c.args.metadata.now c.write_message.new.metadata sink_first (g.S.IpcMessageSink.meaning c.write_message.new.sink) in
    let rest : messages_told ss c.split.result.1 (drop (j + 1) (slice_set ms j n)) ≡ ts =
    ap (messages_told ss c.split.result.1) (drop-set-lt (j + 1) ms j n (omega arith))
    ∙ ap₂ (λ (fs : List FieldRecord) (es : List BufferEntry). told_all ss.recording.now ss.work.now fs es (drop (j + 1) ms)) c.split.ensures.later_fields c.split.ensures.later_buffers in
    let counted = subst (λ (k : ℕ). P k (header_length al (length (form (o + j) t.message)), m.lengths.1) ts) (add_assoc o j 1) after in
    let told_now = subst (λ (p : ℕ × ℕ). P (o + (j + 1)) p ts) pair counted in
    record { left = subst (λ (xs : List Told). P (o + (j + 1)) wrote xs) (sym rest) told_now; memories = c.write_message.ensures.memories ∙ c.loop-j.invariant.memories }
