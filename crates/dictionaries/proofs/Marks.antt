-- Which rows of two windows are valid.
use Rattle.std.proofs.Common.{◌≡◌, ℕ, zero, suc, ◌+◌, ◌<◌, Bool, true, false, cond, ◌↔◌, eqb, sym, refl, ◌∙◌, arith}
use Rattle.std.specs.List.{range_with_len, list_all}
use Rattle.std.proofs.lemmas.Bool.{eqb-true, eq-eqb}
use Rattle.layout.specs.declared.bit.BitSlice.{BitSlice}
use Rattle.layout.specs.declared.fault.Refusal.TheVariants.{KindOrSize}
use Rattle.layout.specs.declared.kind.Kind.{Kind}
use Rattle.layout.specs.Bits.{bytes_for, zeros}
use Rattle.layout.specs.BitSlices.{bit_in, bits_in}
use Rattle.layout.specs.Lists.{rows}
use Rattle.layout.specs.Rules.{Is, Tabled}
use Rattle.layout.proofs.Bytes.{bits_by_bytes, bytes_by_bits}
use Rattle.layout.specs.Windows.{shape_in}
use Rattle.layout.proofs.Bits.{zeros_first}
use Rattle.layout.proofs.Lists.{get_or_rows, length-rows}
use Rattle.laws.proofs.Bits.{no_zeros}
use Rattle.recording.specs.declared.window.Window.{Window}
use Rattle.recording.specs.Contents.{valid_at, NoMarks, AreMarks}
use Rattle.recording.specs.NodeRefs.{numbers_of}
use Rattle.recording.specs.Windows.{window_in}
use Rattle.recording.proofs.Reading.{rules_at}
use Rattle.recording.proofs.WindowFacts.{inside_of}
use Rattle.dictionaries.specs.Rows.{SameMarks}
use Rattle.dictionaries.specs.Windows.{same_byte}
use Rattle.dictionaries.proofs.Shapes.{all_at, all_from, one_shape_kind}

-- ---- bits eight at a time

pub bits_told : (a b : BitSlice) (t : Bool) → a.len ≡ b.len → t ≡ list_all (same_byte a b) (range_with_len 0 (bytes_for a.len)) → (t ≡ true) ↔ ((i : ℕ) → i < a.len → bit_in a i ≡ bit_in b i)
bits_told a b t len e = (
  λ yes. bits_by_bytes a b len (λ i l. eqb-true _ _ (all_at (same_byte a b) 0 (bytes_for a.len) i (sym e ∙ yes) (omega arith) (omega arith))),
  λ same. e ∙ all_from (same_byte a b) 0 (bytes_for a.len) (λ i l m. eq-eqb _ _ (bytes_by_bits a b len same i)),
)

-- ---- bits that are all 1

all_ones : (n : ℕ) (f : ℕ → Bool) → ((r : ℕ) → r < n → f r ≡ true) → zeros (rows n f) ≡ 0
all_ones zero f h = refl
all_ones (suc n) f h = zeros_first (f 0) (rows n (λ r. f (suc r))) ∙ one (f 0) (h 0 (omega arith)) (all_ones n (λ r. f (suc r)) (λ r l. h (suc r) (omega arith)))
  where
    one : (b : Bool) {m : ℕ} → b ≡ true → m ≡ 0 → cond b 0 1 + m ≡ 0
    one true e z = omega arith
    one false e z = cc

pub ones_told : (a : BitSlice) (n : ℕ) → n ≡ zeros (bits_in a) → (eqb n 0 ≡ true) ↔ ((r : ℕ) → r < a.len → bit_in a r ≡ true)
ones_told a n e = (
  λ t r l. sym (get_or_rows a.len (bit_in a) r false l) ∙ no_zeros (bits_in a) r (sym e ∙ eqb-true _ _ t) (omega (arith, length-rows a.len (bit_in a))),
  λ h. eq-eqb _ _ (e ∙ all_ones a.len (bit_in a) h),
)

-- ---- windows of one shape

abbrev same_marks : Window → Window → Type 0
same_marks one other = SameMarks (window_in one) (window_in other)

module _ (one other : Window) (shapes : shape_in (window_in one) ≡ shape_in (window_in other)) (rows : one.rows ≡ other.rows) where
  pub marks_both : (a b : BitSlice) (t : Bool) → AreMarks one a → AreMarks other b → t ≡ list_all (same_byte a b) (range_with_len 0 (bytes_for a.len))
      → (t ≡ true) ↔ same_marks one other
  marks_both a b t mine others e =
      let told = bits_told a b t (omega (arith, mine.count, others.count)) e in (
        λ yes r l. sym (mine.each r l) ∙ told.0 yes r (omega (arith, mine.count)) ∙ others.each r (omega arith),
        λ same. told.1 (λ r l. mine.each r (omega (arith, mine.count)) ∙ same r (omega (arith, mine.count)) ∙ sym (others.each r (omega (arith, mine.count)))),
      )

  others_are : (k : Kind) → Is (numbers_of one.node) k → Is (numbers_of other.node) k
  others_are k = one_shape_kind (window_in one) (window_in other) k (inside_of one) (inside_of other) shapes

  kind_of : Tabled (numbers_of one.node)
  kind_of = rules_at one.node KindOrSize

  -- only one has a bitmap
  pub marks_of_one : (a : BitSlice) (n : ℕ) → AreMarks one a → NoMarks other → n ≡ zeros (bits_in a) → (eqb n 0 ≡ true) ↔ same_marks one other
  marks_of_one a n mine none e =
      let told = ones_told a n e in
      let valid : (r : ℕ) → r < other.rows → valid_at (window_in other) r ≡ true = λ r l. none.each kind_of.kind (others_are kind_of.kind kind_of.is) r l ∙ mine.kind kind_of.kind kind_of.is in (
        λ yes r l. sym (mine.each r l) ∙ told.0 yes r (omega (arith, mine.count)) ∙ sym (valid r (omega arith)),
        λ same. told.1 (λ r l. mine.each r (omega (arith, mine.count)) ∙ same r (omega (arith, mine.count)) ∙ valid r (omega (arith, mine.count))),
      )

  pub marks_of_none : NoMarks one → NoMarks other → same_marks one other
  marks_of_none mine others r l =
      mine.each kind_of.kind kind_of.is r l ∙ sym (others.each kind_of.kind (others_are kind_of.kind kind_of.is) r (omega arith))

pub marks_turned : (one other : Window) (t : Bool) → one.rows ≡ other.rows → (t ≡ true) ↔ same_marks other one → (t ≡ true) ↔ same_marks one other
marks_turned one other t rows told = (λ yes r l. sym (told.0 yes r (omega arith)), λ same. told.1 (λ r l. sym (same r (omega arith))))
