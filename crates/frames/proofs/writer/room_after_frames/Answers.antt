use Rattle.std.proofs.Common.{◌≡◌, ℕ, ◌+◌, List, ◌++◌, length, map, drop, get_or, sym, ◌∙◌, ap, ap₂, subst, subst₂, add_assoc, Some, arith, rules}
use Rattle.layout.specs.Lists.{lengths}
use Rattle.layout.specs.Messages as sent
use Rattle.layout.specs.Messages.{body}
use Rattle.columns.specs.declared.record.BufferEntry.{BufferEntry}
use Rattle.columns.specs.declared.record.FieldRecord.{FieldRecord}
use Rattle.columns.specs.Telling.{Told, told, told_all, field_read, buffer_read, bytes_named}
use Rattle.frames.specs.declared.form.Description.{Description}
use Rattle.frames.specs.Frames.{header_length, header_pieces, body_pieces, named, frame, frame_pieces}
use Rattle.frames.specs.Headers.{described, size_of}
use Rattle.frames.specs.Sinks.{then_after}
use Rattle.frames.specs.Writing.{messages_told}
use Rattle.frames.proofs.Sizing.{CountLeft, no_message, next_message, with_header, sized, length-frame}
use Rattle.frames.proofs.writer.room_after_frames.Goals as goal

pub loop-j-preserved : goal.loop-j-preserved
loop-j-preserved g c =
    let form = g.F.HeaderForm.header c.args.form.now in
    let o = c.args.ordinal in
    let al = c.args.alignment in
    let cost = c.args.cost in
    let ss = c.args.sources.now in
    let ms = c.args.messages.now in
    let j = c.loop-j.j in
    let later = c.loop-j.later in
    let m = get_or ms j no_message in
    let t = told ss.recording.now ss.work.now later.fields.now later.buffers.now m in
    let ts = told_all ss.recording.now ss.work.now (drop m.fields later.fields.now) (drop m.buffers later.buffers.now) (drop (j + 1) ms) in
    let all = messages_told ss c.args.records ms in
    let here = subst (λ (xs : List Told). CountLeft cost al form o (o + j) all xs c.args.room c.loop-j.left) (ap (messages_told ss later) (next_message j ms no_message (omega arith))) c.loop-j.invariant in
    let told_so : described c.describe-message.result ≡ t.message =
    ap described c.describe-message.ensures
    ∙ ap₂ (λ (fs : List FieldRecord) (es : List BufferEntry). let d : sent.Message = record t.message { fields = map field_read fs; buffers = map buffer_read es } in d) c.split.ensures.own_fields c.split.ensures.own_buffers in
    let buffers : named ss c.describe-message.result.buffers.now ≡ t.buffers =
    ap (λ (d : Description). named ss d.buffers.now) c.describe-message.ensures ∙ ap (λ (es : List BufferEntry). map (bytes_named ss.recording.now ss.work.now) es) c.split.ensures.own_buffers in
    let size : c.size.result ≡ Some c.in_ok-size.size = search rules in
    let two = sized (form (o + j) t.message) c.in_ok-size.size (sym (ap (λ (d : sent.Message). size_of (form (o + j) d)) told_so) ∙ sym c.size.ensures ∙ size) in
    let step : c.left_after-left.result ≡ then_after cost (length (frame al (form (o + j) t.message) t)) (length (frame_pieces al (form (o + j) t.message) t)) c.loop-j.left =
    c.left_after-left.ensures
    ∙ ap₂ (λ (n : ℕ) (bs : List (List ℕ)). then_after cost (header_length al n + length (body al bs)) (length (header_pieces al n ++ body_pieces al (lengths bs))) c.loop-j.left) two.1 buffers
    ∙ ap (λ (n : ℕ). then_after cost n (length (frame_pieces al (form (o + j) t.message) t)) c.loop-j.left) (sym (length-frame al (form (o + j) t.message) t)) in
    let next = with_header cost al form o (o + j) all t ts c.args.room c.loop-j.left here two.0 c.left_after-left.result step in
    let rest = ap₂ (λ (fs : List FieldRecord) (es : List BufferEntry). told_all ss.recording.now ss.work.now fs es (drop (j + 1) ms)) c.split.ensures.later_fields c.split.ensures.later_buffers in
    subst₂ (λ (k : ℕ) (xs : List Told). CountLeft cost al form o k all xs c.args.room c.left_after-left.result) (add_assoc o j 1) (sym rest) next
