use Rattle.std.proofs.Common.{◌∙◌, ap, ap₂, sym, ℤ, pos, arith, w64}
use Rattle.std.proofs.lemmas.Int.{to_z_pos}
use Rattle.recording.specs.Windows.{window_in}
use Rattle.recording.proofs.WindowFacts.{inside_of}
use Rattle.columns.proofs.Fields.{field_rows, field_fits}
use Rattle.columns.proofs.writer.field_record.Goals as goal

pub overflow_cast-result : goal.overflow_cast-result
overflow_cast-result c =
    let v = window_in c.args.window.now in
    record { sfits = omega (arith, field_rows v, (field_fits v (inside_of c.args.window.now)).rows, c.rows.ensures) }

pub overflow_cast-result-2 : goal.overflow_cast-result-2
overflow_cast-result-2 c =
    let v = window_in c.args.window.now in
    let f = field_fits v (inside_of c.args.window.now) in
    record { sfits = omega (arith, f.rows, f.nulls, c.requires) }

pub returns : goal.returns
returns c =
    let v = window_in c.args.window.now in
    let f = field_fits v (inside_of c.args.window.now) in
    let rows = to_z_pos w64 c.rows.result (omega (arith, field_rows v, f.rows, c.rows.ensures)) ∙ ap pos (c.rows.ensures ∙ sym (field_rows v)) in
    let nulls = to_z_pos w64 c.args.nulls (omega (arith, f.rows, f.nulls, c.requires)) ∙ ap pos c.requires in
    ap₂ (λ (r n : ℤ). record { rows = r; nulls = n }) rows nulls
