use Rattle.std.proofs.Common.{◌≡◌, [], length, take, map, get_or, min, sym, refl, ap, ◌∙◌, rules}
use Rattle.std.proofs.lemmas.List.{take_min}
use Rattle.recording.specs.Alignments.{alignment_number}
use Rattle.recording.specs.View.{bytes_in}
use Rattle.layout.specs.Messages.{body}
use Rattle.columns.specs.declared.message.Message.{Message}
use Rattle.columns.specs.declared.message.MessageKind.TheVariants.{Batch}
use Rattle.columns.specs.Telling.{told, told_all, bytes_named}
use Rattle.pack.specs.declared.told.ToldMessage.{ToldMessage}
use Rattle.pack.specs.Telling.{printed, printed_by}
use Rattle.pack.proofs.Telling.{tells_next, tells_all}
use Rattle.pack.proofs.told.tell_messages.Goals as goal

abbrev blank : Message
blank = record { kind = Batch; id = 0; rows = 0; fields = 0; buffers = 0; lengths = (0, 0) }

pub loop-index-init : goal.loop-index-init
loop-index-init c =
    let items : c.new-told.result.items ≡ [] = search rules in
    rw items (record { told = refl; numbered = refl; count = refl })

pub loop-index-preserved : goal.loop-index-preserved
loop-index-preserved c =
    let al = alignment_number c.args.opened.now.options.alignment in
    let bs = c.args.opened.now.bytes.now in
    let work = c.args.memory.now.work.now in
    let i = c.loop-index.index in
    let ms = take c.min.result c.args.memory.now.messages.now in
    let fs = c.loop-index.records.fields.now in
    let es = c.loop-index.records.buffers.now in
    let m = get_or ms i blank in
    let own = c.split.result.0 in
    let t : ToldMessage = record { line = record { index = i; message = m; fields = record { 0 = own.fields }; buffers = record { 0 = own.buffers } }; body = c.in_ok-body.body } in
    let own_fields : own.fields.now ≡ take m.fields fs = search rules in
    let own_buffers : own.buffers.now ≡ take m.buffers es = search rules in
    let own_body : c.in_ok-body.body.items ≡ body al (map (bytes_named bs work) own.buffers.now) = search rules in
    let as_told : printed_by t ≡ printed al (told bs work fs es m) = rw (own_body, own_fields, own_buffers) refl in
    let whole = map (printed al) (told_all bs work c.args.memory.now.fields.now c.args.memory.now.buffers.now ms) in
    tells_next al bs work whole ms i fs _ es _ c.loop-index.told.items _ blank t (search rules) c.loop-index.invariant as_told refl (search rules) (search rules) (search rules)

pub returns : goal.returns
returns c =
    let al = alignment_number c.args.opened.now.options.alignment in
    let bs = c.args.opened.now.bytes.now in
    let memory = c.args.memory.now in
    let all = memory.messages.now in
    let on = c.loop-index.invariant in
    let short : c.min.result ≡ min c.args.count (length all) = search rules in
    let ms : take c.min.result all ≡ take c.args.count all = ap (λ n. take n all) short ∙ take_min c.args.count all in
    let whole = map (printed al) (told_all bs memory.work.now memory.fields.now memory.buffers.now (take c.min.result all)) in
    let same : bytes_in c.args.opened.now.recording ≡ bs = c.args.opened.now.same in
    let done = tells_all al bs memory.work.now whole (take c.min.result all) c.loop-index.index c.loop-index.records.fields.now c.loop-index.records.buffers.now c.loop-index.told.items c.loop-index-test.false on in
    record {
      told = done ∙ ap (λ xs. map (printed al) (told_all bs memory.work.now memory.fields.now memory.buffers.now xs)) ms ∙ ap (λ xs. map (printed al) (told_all xs memory.work.now memory.fields.now memory.buffers.now (take c.args.count all))) (sym same);
      numbered = on.numbered;
    }
