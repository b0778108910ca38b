use Rattle.std.proofs.Common.{◌≡◌, ap, sym, refl, ◌∙◌, arith}
use Rattle.std.proofs.lemmas.Bool.{ltb-true, ltb-false, ne_eqb}
use Rattle.layout.specs.Bits.{bytes_for}
use Rattle.layout.specs.Messages.{own_field}
use Rattle.layout.specs.Windows.{shown_in}
use Rattle.recording.specs.Windows.{window_in}
use Rattle.recording.proofs.WindowFacts.{inside_of}
use Rattle.columns.proofs.Counting.{validity_long, long_some, long_null, long_none}
use Rattle.columns.proofs.Fields.{field_rows, field_fits}
use Rattle.columns.proofs.needs.validity_bytes.Goals as goal

pub returns-then-not-has_bitmap-clause-value : goal.returns-then-not-has_bitmap-clause-value
returns-then-not-has_bitmap-clause-value c =
    let v = c.args.window.now in
    sym (long_null _ (own_field (shown_in (window_in v))).nulls (bytes_for v.rows) _ (validity_long v c.args.kind c.requires _ refl) (sym c.has_bitmap.ensures ∙ c.if-not-has_bitmap.true))

pub returns-then-not-has_nulls-clause-value : goal.returns-then-not-has_nulls-clause-value
returns-then-not-has_nulls-clause-value c =
    let v = c.args.window.now in
    let nulls = (own_field (shown_in (window_in v))).nulls in
    let none : nulls ≡ 0 = omega (arith, ltb-false 0 nulls (sym c.has_nulls.ensures ∙ c.if-not-has_nulls.true)) in
    sym (long_none _ _ _ _ (validity_long v c.args.kind c.requires nulls refl) none)

pub returns-clause-value : goal.returns-clause-value
returns-clause-value c =
    let v = c.args.window.now in
    let nulls = (own_field (shown_in (window_in v))).nulls in
    let some = ltb-true 0 nulls (sym c.has_nulls.ensures ∙ c.if-not-has_nulls.false) in
    c.bytes_for.ensures ∙ ap bytes_for c.rows.ensures
    ∙ sym (long_some _ _ _ _ (validity_long v c.args.kind c.requires nulls refl) (sym c.has_bitmap.ensures ∙ c.if-not-has_bitmap.false) (ne_eqb nulls 0 (λ z. absurd (omega arith))))

pub returns-clause-few : goal.returns-clause-few
returns-clause-few c =
    let v = window_in c.args.window.now in
    omega (arith, c.bytes_for.ensures, c.rows.ensures, field_rows v, (field_fits v (inside_of c.args.window.now)).rows)
