use Rattle.std.proofs.Common.{length, ap, sym, refl, ◌∙◌, arith}
use Rattle.std.proofs.lemmas.List.{length-append}
use Rattle.recording.specs.Windows.{window_in}
use Rattle.recording.proofs.WindowFacts.{inside_of}
use Rattle.columns.specs.Buffers.{validity_of, own_buffers}
use Rattle.columns.specs.Needs.{made_size}
use Rattle.columns.specs.Pieces.{work_of}
use Rattle.columns.proofs.Counting.{made_long, buffers_many}
use Rattle.columns.proofs.Fields.{field_rows, field_fits}
use Rattle.columns.proofs.Sending.{work_of-append}
use Rattle.columns.proofs.needs.own_needs.Goals as goal

pub made_bytes-made-requires : goal.made_bytes-made-requires
made_bytes-made-requires c =
    let v = window_in c.args.window.now in
    omega (arith, c.rows.ensures, field_rows v, (field_fits v (inside_of c.args.window.now)).rows)

pub returns : goal.returns
returns c =
    let v = c.args.window.now in
    let k = c.args.kind in
    let made = c.made_bytes-made.ensures.value ∙ ap (made_size k) c.rows.ensures ∙ sym (made_long v k) in
    let work = ap length (work_of-append (validity_of k v) (own_buffers k v)) ∙ length-append (work_of (validity_of k v)) (work_of (own_buffers k v)) in
    record {
      fields = refl;
      buffers = omega (arith, c.buffer_count.ensures, buffers_many v k);
      work = omega (arith, work, made, c.validity_bytes.ensures.value, c.validity_bytes.ensures.few, c.made_bytes-made.ensures.few);
    }
