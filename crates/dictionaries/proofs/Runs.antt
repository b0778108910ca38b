-- Windows compared run by run.
use Rattle.std.proofs.Common.{◌≡◌, ℕ, ◌+◌, ◌-◌, ◌<◌, ◌≤◌, Bool, true, false, cond, sym, refl, ap, ◌∙◌, subst, inl, inr, arith}
use Rattle.std.proofs.lemmas.Bool.{cases_eq, cases_lt, eq-eqb, ne_eqb}
use Rattle.layout.specs.declared.fault.Refusal.TheVariants.{KindOrSize}
use Rattle.layout.specs.declared.kind.Kind.TheVariants.{Dictionary}
use Rattle.layout.specs.Kinds.{kind_number}
use Rattle.layout.specs.Rows.{mark_at}
use Rattle.layout.specs.Rules.{Is, Tabled}
use Rattle.layout.specs.Shown.{null}
use Rattle.layout.specs.Windows.{value_at, Window, Inside, tree_in, top_in, value_in, rows_at}
use Rattle.layout.proofs.Opening.{kept_rule}
use Rattle.recording.specs.declared.runs.Run.{Run}
use Rattle.recording.specs.Contents.{valid_at, IsRun}
use Rattle.dictionaries.specs.Rows.{SameRows, SameMarks, Alike, Valid}
use Rattle.dictionaries.proofs.Shapes.{one_shape_kind, plain_kind}
use Rattle.dictionaries.proofs.ValidRows.{null_row, null_kind, valid_row}

-- n rows of a window, from its row a on
abbrev pub part_of : Window → ℕ → ℕ → Window
part_of w a n = rows_at w w.node (w.first + a) n

pub part_inside : (w : Window) (a n : ℕ) → Inside w → a + n ≤ w.rows → Inside (part_of w a n)
part_inside w a n g l = record { opened = g.opened; stands = g.stands; within = omega (arith, g.within) }

part_value : (w : Window) (a n r : ℕ) → value_in (part_of w a n) r ≡ value_in w (a + r)
part_value w a n r = ap (value_at w.bytes (tree_in w)) (omega arith)

tabled_at : (w : Window) → Inside w → Tabled (top_in w)
tabled_at w g = kept_rule w.nodes w.bytes g.opened w.node g.stands KindOrSize

-- validity goes by the bits, but for a Null
never_valid : (u : Window) (r : ℕ) → (top_in u).kind ≡ 0 → valid_at u r ≡ false
never_valid u r z = ap (λ (b : Bool). cond b false (mark_at u.bytes (top_in u) (u.first + r))) (eq-eqb (top_in u).kind 0 z)

by_bit : (u : Window) (r : ℕ) → ((top_in u).kind ≡ 0 → ⊥) → valid_at u r ≡ mark_at u.bytes (top_in u) (u.first + r)
by_bit u r ne = ap (λ (b : Bool). cond b false (mark_at u.bytes (top_in u) (u.first + r))) (ne_eqb (top_in u).kind 0 ne)

-- a valid row's bit is 1
valid_bit : (u : Window) (r : ℕ) → valid_at u r ≡ true → ((top_in u).kind ≡ 0 → ⊥) × (mark_at u.bytes (top_in u) (u.first + r) ≡ true)
valid_bit u r e =
    let ne : (top_in u).kind ≡ 0 → ⊥ = λ z. let both : true ≡ false = sym e ∙ never_valid u r z in cc in
    (ne, sym (by_bit u r ne) ∙ e)

-- the rows of a run
pub valid_rows : (u : Window) (from : ℕ) (run : Run) → IsRun u from run → run.valid ≡ true → Valid (part_of u from run.rows)
valid_rows u from run a e r l = ap (mark_at u.bytes (top_in u)) (omega arith) ∙ (valid_bit u (from + r) (a.alike r l ∙ e)).1

-- a valid row of any kind but Dictionary has a value, and no other row has
module _ (u : Window) (g : Inside u) where
  has_value : (Is (top_in u) Dictionary → ⊥) → (r : ℕ) → r < u.rows → valid_at u r ≡ true → value_in u r ≡ null → ⊥
  has_value nd r l e =
      let t = tabled_at u g in
      let at = valid_bit u r e in
      valid_row u t.kind g t.is (λ n. at.0 (t.is ∙ ap kind_number n)) (λ d. nd (t.is ∙ ap kind_number d)) r at.1

  no_value : (r : ℕ) → valid_at u r ≡ false → value_in u r ≡ null
  no_value r e =
      elim (cases_eq (top_in u).kind 0) [
        | inl z ↦ null_kind u z r
        | inr ne ↦ null_row u g r (sym (by_bit u r ne) ∙ e)
      ]

module _ (v w : Window) (g : Inside v) (h : Inside w) (alike : Alike v w) where
  plain : Is (top_in v) Dictionary → ⊥
  plain = plain_kind v g alike.plain

  plain_other : Is (top_in w) Dictionary → ⊥
  plain_other is = plain (one_shape_kind w v Dictionary h g (sym alike.shapes) is)

  pub part_alike : (a n : ℕ) → Alike (part_of v a n) (part_of w a n)
  part_alike a n = record { shapes = alike.shapes; rows = refl; plain = alike.plain }

  -- ---- rows that are the same are both valid, or both null

  as_by : (b c : Bool) (r : ℕ) → r < v.rows → value_in v r ≡ value_in w r → valid_at v r ≡ b → valid_at w r ≡ c → b ≡ c
  as_by true true r l e x y = refl
  as_by true false r l e x y = absurd (has_value v g plain r l x (e ∙ no_value w h r y))
  as_by false true r l e x y = absurd (has_value w h plain_other r (omega (arith, alike.rows)) y (sym e ∙ no_value v g r x))
  as_by false false r l e x y = refl

  pub marks_of_rows : SameRows v w → SameMarks v w
  marks_of_rows same r l = as_by (valid_at v r) (valid_at w r) r l (same r l) refl refl

  -- ---- a run of each

  -- where the same rows are valid, a run of one is a run of the other
  pub run_of_both : SameMarks v w → (from : ℕ) (run : Run) → IsRun v from run → IsRun w from run
  run_of_both same from run a = record {
    some = a.some;
    within = omega (arith, a.within, alike.rows);
    alike = λ r l. sym (same (from + r) (omega (arith, a.within))) ∙ a.alike r l;
    whole = λ l. sym (same (from + run.rows) (omega (arith, alike.rows))) ∙ a.whole (omega (arith, alike.rows));
  }

  pub null_rows : (from : ℕ) (run : Run) → IsRun v from run → IsRun w from run → run.valid ≡ false → (r : ℕ) → r < run.rows → value_in v (from + r) ≡ value_in w (from + r)
  null_rows from run a b e r l = no_value v g (from + r) (a.alike r l ∙ e) ∙ sym (no_value w h (from + r) (b.alike r l ∙ e))

  pub part_rows : (from n : ℕ) → SameRows (part_of v from n) (part_of w from n) → (r : ℕ) → r < n → value_in v (from + r) ≡ value_in w (from + r)
  part_rows from n same r l = sym (part_value v from n r) ∙ same r l ∙ part_value w from n r

  pub rows_part : (from n : ℕ) → from + n ≤ v.rows → SameRows v w → SameRows (part_of v from n) (part_of w from n)
  rows_part from n l same r m = part_value v from n r ∙ same (from + r) (omega arith) ∙ sym (part_value w from n r)

  -- the rows before a place, and those of a run from there on
  pub rows_more : (from n : ℕ) → ((r : ℕ) → r < from → value_in v r ≡ value_in w r) → ((r : ℕ) → r < n → value_in v (from + r) ≡ value_in w (from + r))
      → (r : ℕ) → r < from + n → value_in v r ≡ value_in w r
  rows_more from n before more r l =
      elim (cases_lt r from) [
        | inl m ↦ before r m
        | inr m ↦ (let e : from + (r - from) ≡ r = omega arith in subst (λ (x : ℕ). value_in v x ≡ value_in w x) e (more (r - from) (omega arith)))
      ]
