-- What the code's comparisons tell of windows of recordings.
use Rattle.std.proofs.Common.{◌≡◌, ℕ, ◌+◌, ◌-◌, ◌<◌, ◌≤◌, Bool, true, false, ◌&&◌, ◌↔◌, eqb, nat_eq, ◌⊎◌, inl, inr, List, [], ◌∷◌, map, length, Some, Option, add-zero, sym, refl, ap, ap₂, ◌∙◌, subst, arith}
use Rattle.std.specs.List.{range_with_len, list_all, fold}
use Rattle.std.specs.Option.{option_eq}
use Rattle.layout.specs.contracts.number.WidthPartialEq.TheImpl.{eq-value}
use Rattle.std.specs.Cmp.Lexicographic.{same_text, other_text}
use lib.Pointwise.{pointwise}
use Rattle.std.proofs.lemmas.Bool.{eqb-true, eq-eqb, false≢true}
use Rattle.layout.specs.declared.bit.BitSlice.{BitSlice}
use Rattle.layout.specs.declared.fault.Refusal.TheVariants.{Nesting}
use Rattle.layout.specs.declared.kind.Kind.{Kind}
use Rattle.layout.specs.declared.kind.Kind.TheVariants.{Null, Boolean, Fixed, Bytes32, Bytes64, List32, List64, Struct, Dictionary}
use Rattle.layout.specs.declared.node.Node.{Node}
use Rattle.layout.specs.declared.number.Width.{Width}
use Rattle.layout.specs.declared.number.Width.TheVariants.{Four, Eight}
use Rattle.layout.specs.Bits.{bytes_for}
use Rattle.layout.specs.Kinds.{kind_number, offset_width, has_data}
use Rattle.layout.specs.Nodes.{end_of}
use Rattle.layout.specs.Numbers.{wide}
use Rattle.layout.specs.Rows.{offset_at, count_at}
use Rattle.layout.specs.Rules.{Is, HasOffsets, Nested}
use Rattle.layout.specs.Shown.{Shape}
use Rattle.layout.specs.Trees.{tree_at}
use Rattle.layout.specs.Windows as layout
use Rattle.layout.proofs.Facts.{one_kind}
use Rattle.layout.specs.Windows.{shape_of, value_in, top_in, shape_in, rows_at, first_rows, passed_to}
use Rattle.recording.specs.declared.node.NodeRef.{NodeRef}
use Rattle.recording.specs.declared.windows.Windows.{Windows}
use Rattle.recording.specs.declared.runs.Run.{Run}
use Rattle.recording.specs.declared.window.Window.{Window}
use Rattle.recording.specs.Contents.{IsRun, AreFlags, slots_of, offset_slots, AreOffsets, AreStrings}
use Rattle.recording.specs.NodeRefs.{table_of, run_of, numbers_of}
use Rattle.recording.specs.Passing.{IsPassed, ArePassedEach, windows_left}
use Rattle.recording.specs.Places.{Place, children_of}
use Rattle.recording.specs.Windows.{window_in}
use Rattle.recording.proofs.Contents.{offset_is}
use Rattle.recording.proofs.WindowFacts.{inside_of}
use Rattle.recording.proofs.Reading.{rules_at, one_width}
use Rattle.recording.proofs.Below.{sides_are}
use Rattle.dictionaries.specs.Rows.{same_nodes, Alike, SameRows, SameMarks, Valid, slots_in, SameCounts, strings_in, elements_in, Pairwise}
use Rattle.dictionaries.specs.Windows.{SameParts, TellsCounts, same_byte, count_in}
use Rattle.dictionaries.proofs.Marks.{bits_told}
use Rattle.dictionaries.proofs.Runs.{part_of, marks_of_rows, run_of_both, valid_rows, part_alike, null_rows, part_rows, rows_part, rows_more}
use Rattle.dictionaries.proofs.Shapes.{all_at, all_from, same_shapes, same_spans, one_shape_kind, one_shape_size, plain_kind, alike_elements, alike_parts}
use Rattle.dictionaries.proofs.ValidRows.{null_kind, bits_same, slots_same, strings_same, elements_same, counts_total, parts_same}

-- ---- shapes

abbrev shape_at : NodeRef → Shape
shape_at n = shape_of (tree_at (table_of n) n.index)

pub nodes_tell : (m n : NodeRef) (b : Bool) → b ≡ same_nodes (table_of m) m.index (table_of n) n.index (numbers_of m).span → (b ≡ true) ↔ (shape_at m ≡ shape_at n)
nodes_tell m n b e =
    let same = same_shapes (table_of m) (run_of m) (table_of n) (run_of n) m.recording.opened n.recording.opened m.index n.index m.stands n.stands in
    (λ t. same.0 (sym e ∙ t), λ s. e ∙ same.1 s)

-- where spans differ neither holds
pub spans_tell : (m n : NodeRef) (x y : Node) → x ≡ numbers_of m → y ≡ numbers_of n → (x.span ≡ y.span → ⊥) → (eqb x.span y.span ≡ true) ↔ (shape_at m ≡ shape_at n)
spans_tell m n x y e f differ =
    let same = same_spans (table_of m) (run_of m) (table_of n) (run_of n) m.recording.opened n.recording.opened m.index n.index m.stands n.stands in (
      λ t. absurd (differ (eqb-true _ _ t)),
      λ s. absurd (differ (ap (λ (n : Node). n.span) e ∙ same s ∙ sym (ap (λ (n : Node). n.span) f))),
    )

-- ---- counts

and_none : (p : ℕ → Bool) (xs : List ℕ) → fold (λ ok r. ok && p r) false xs ≡ false
and_none p [] = refl
and_none p (x ∷ xs) = and_none p xs

and_more : (p : ℕ → Bool) (b : Bool) (xs : List ℕ) → fold (λ ok r. ok && p r) true xs ≡ list_all p xs → fold (λ ok r. ok && p r) b xs ≡ (b && list_all p xs)
and_more p true xs h = h
and_more p false xs h = and_none p xs

and_all : (p : ℕ → Bool) (xs : List ℕ) → fold (λ ok r. ok && p r) true xs ≡ list_all p xs
and_all p [] = refl
and_all p (x ∷ xs) = and_more p (p x) xs (and_all p xs)

-- offsets of a window say how many each of its rows has
module _ (v : Window) (bs : List ℕ) (w : Width) (has : HasOffsets (numbers_of v.node) w) (is : bs ≡ offset_slots (wide w) v) where
  abbrev m : Node
  m = numbers_of v.node

  abbrev x : ℕ
  x = wide w

  count_is : (r : ℕ) → r < v.rows → count_in bs x r ≡ count_at (run_of v.node) x m (v.first + r)
  count_is r l = ap₂ ◌-◌ (offset_is v bs w has is (r + 1) (omega arith) (omega arith) ∙ ap (offset_at (run_of v.node) x m) (omega arith)) (offset_is v bs w has is r (omega arith) (omega arith))

-- row r has as many by both
abbrev pub as_many : List ℕ → List ℕ → ℕ → ℕ → Bool
as_many bs cs x r = eqb (count_in bs x r) (count_in cs x r)

pub counts_told : (v u : Window) (bs cs : List ℕ) (w : Width) (b : Bool) → v.rows ≡ u.rows → HasOffsets (numbers_of v.node) w → AreOffsets v bs → AreOffsets u cs
    → b ≡ fold (λ ok r. ok && as_many bs cs (wide w) r) true (range_with_len 0 v.rows) → TellsCounts b v u
counts_told v u bs cs w b rows has mine others e y one other = (
  λ t r l. sym (count_is v bs y one (mine y one) r l) ∙ eqb-true _ _ (all_at (as_many bs cs (wide y)) 0 v.rows r (sym all ∙ t) (omega arith) (omega arith)) ∙ count_is u cs y other (others y other) r (omega arith),
  λ s. all ∙ all_from (as_many bs cs (wide y)) 0 v.rows (λ r a l. eq-eqb _ _ (count_is v bs y one (mine y one) r (omega arith) ∙ s r (omega arith) ∙ sym (count_is u cs y other (others y other) r (omega arith)))),
)
  where
    all : b ≡ list_all (as_many bs cs (wide y)) (range_with_len 0 v.rows)
    all = e ∙ ap (λ (w : Width). fold (λ ok r. ok && as_many bs cs (wide w) r) true (range_with_len 0 v.rows)) (one_width (numbers_of v.node) w y has one) ∙ and_all (as_many bs cs (wide y)) (range_with_len 0 v.rows)

-- offsets have four bytes or eight
abbrev pub is_four : Option Width → Bool
is_four o = option_eq eq-value.it o (Some Four)

pub four_wide : (n : Node) (k : Kind) (b : Bool) → Is n k → ((w : Width) × HasOffsets n w) → b ≡ is_four (offset_width k) → b ≡ true → HasOffsets n Four
four_wide n k b is (w, (j, at, h)) e t = (k, is, by k (subst (λ (k : Kind). offset_width k ≡ Some w) (one_kind n j k at is) h) (sym e ∙ t))
  where
    by : (k : Kind) → offset_width k ≡ Some w → is_four (offset_width k) ≡ true → offset_width k ≡ Some Four
    by Null h t = cc
    by Boolean h t = cc
    by Fixed h t = cc
    by Bytes32 h t = refl
    by Bytes64 h t = cc
    by List32 h t = refl
    by List64 h t = cc
    by Struct h t = cc
    by Dictionary h t = cc

pub eight_wide : (n : Node) (k : Kind) (b : Bool) → Is n k → ((w : Width) × HasOffsets n w) → b ≡ is_four (offset_width k) → b ≡ false → HasOffsets n Eight
eight_wide n k b is (w, (j, at, h)) e f = (k, is, by k (subst (λ (k : Kind). offset_width k ≡ Some w) (one_kind n j k at is) h) (sym e ∙ f))
  where
    by : (k : Kind) → offset_width k ≡ Some w → is_four (offset_width k) ≡ false → offset_width k ≡ Some Eight
    by Null h f = cc
    by Boolean h f = cc
    by Fixed h f = cc
    by Bytes32 h f = cc
    by Bytes64 h f = refl
    by List32 h f = cc
    by List64 h f = refl
    by Struct h f = cc
    by Dictionary h f = cc

-- ---- runs

module _ (one other : Window) (alike : Alike (window_in one) (window_in other)) where
  abbrev v : layout.Window
  v = window_in one

  abbrev w : layout.Window
  w = window_in other

  -- where rows that are valid differ, rows do
  pub marks_tell : (t : Bool) → (t ≡ true) ↔ SameMarks v w → t ≡ false → (false ≡ true) ↔ SameRows v w
  marks_tell t told e = (λ f. absurd (false≢true f), λ same. sym e ∙ told.1 (marks_of_rows v w (inside_of one) (inside_of other) alike same))

  -- a run of one, from a row on, where the same rows of both are valid
  module _ (marks : SameMarks v w) (from : ℕ) (run : Run) (a : IsRun v from run) where
    others_run : IsRun w from run
    others_run = run_of_both v w (inside_of one) (inside_of other) alike marks from run a

    -- null rows are the same; valid ones are if they are so in parts of both windows
    pub null_more : run.valid ≡ false → ((r : ℕ) → r < from → value_in v r ≡ value_in w r) → (r : ℕ) → r < from + run.rows → value_in v r ≡ value_in w r
    null_more null before =
        rows_more v w (inside_of one) (inside_of other) alike from run.rows before
        (null_rows v w (inside_of one) (inside_of other) alike from run a others_run null)

    pub both_valid : run.valid ≡ true → Valid (part_of v from run.rows) × Valid (part_of w from run.rows)
    both_valid valid = (valid_rows v from run a valid, valid_rows w from run others_run valid)

  -- parts of both windows
  module _ (from n : ℕ) (p q : Window) (e : window_in p ≡ part_of v from n) (f : window_in q ≡ part_of w from n) where
    pub parts_alike : Alike (window_in p) (window_in q)
    parts_alike = rw (e, f) (part_alike v w (inside_of one) (inside_of other) alike from n)

    pub parts_valid : Valid (part_of v from n) × Valid (part_of w from n) → Valid (window_in p) × Valid (window_in q)
    parts_valid h = (subst Valid (sym e) h.0, subst Valid (sym f) h.1)

    pub part_span : (numbers_of p.node).span ≡ (numbers_of one.node).span
    part_span = ap (λ (u : layout.Window). (top_in u).span) e

    pub part_same : from + n ≤ v.rows → SameRows v w → SameRows (window_in p) (window_in q)
    part_same l same =
        subst (λ (x : layout.Window). SameRows x (window_in q)) (sym e)
        (subst (SameRows (part_of v from n)) (sym f) (rows_part v w (inside_of one) (inside_of other) alike from n l same))

    pub part_more : SameRows (window_in p) (window_in q) → ((r : ℕ) → r < from → value_in v r ≡ value_in w r) → (r : ℕ) → r < from + n → value_in v r ≡ value_in w r
    part_more same before =
        rows_more v w (inside_of one) (inside_of other) alike from n before
        (part_rows v w (inside_of one) (inside_of other) alike from n (subst (λ (x : layout.Window). SameRows x (part_of w from n)) e (subst (SameRows (window_in p)) f same)))

-- ---- the kinds of two windows

-- the kind that was read
pub kind_read : {n m : NodeRef} {k : Kind} (j : Kind) → n ≡ m → Is (numbers_of n) k → k ≡ j → Is (numbers_of m) j
kind_read j e is f = ap (λ (n : NodeRef). (numbers_of n).kind) (sym e) ∙ is ∙ ap kind_number f

pub others_kind : (one other : Window) → Alike (window_in one) (window_in other) → (k : Kind) → Is (numbers_of one.node) k → Is (numbers_of other.node) k
others_kind one other alike k is = one_shape_kind (window_in one) (window_in other) k (inside_of one) (inside_of other) alike.shapes is

-- both are byte strings, or lists, with offsets of one width
pub record BothWide (d : Bool) (one other : Window) : Type 0 where
  pub kind : Kind
  pub width : Width
  pub mine : Is (numbers_of one.node) kind
  pub others : Is (numbers_of other.node) kind
  pub offsets : offset_width kind ≡ Some width
  pub has : has_data kind ≡ d

module _ (one other : Window) (alike : Alike (window_in one) (window_in other)) where
  pub others_offsets : (w : Width) → HasOffsets (numbers_of one.node) w → HasOffsets (numbers_of other.node) w
  others_offsets w (k, is, h) = (k, others_kind one other alike k is, h)

  wide_by : (j : Kind) (x : Width) (d : Bool) → Is (numbers_of one.node) j → offset_width j ≡ Some x → has_data j ≡ d → BothWide d one other
  wide_by j x d is o h = record { kind = j; width = x; mine = is; others = others_kind one other alike j is; offsets = o; has = h }

  pub both_strings : {n : NodeRef} {k : Kind} → n ≡ one.node → Is (numbers_of n) k → (k ≡ Bytes32) ⊎ (k ≡ Bytes64) → BothWide true one other
  both_strings at is (inl e) = wide_by Bytes32 Four true (kind_read Bytes32 at is e) refl refl
  both_strings at is (inr e) = wide_by Bytes64 Eight true (kind_read Bytes64 at is e) refl refl

  pub both_lists : {n : NodeRef} {k : Kind} → n ≡ one.node → Is (numbers_of n) k → (k ≡ List32) ⊎ (k ≡ List64) → BothWide false one other
  both_lists at is (inl e) = wide_by List32 Four false (kind_read List32 at is e) refl refl
  both_lists at is (inr e) = wide_by List64 Eight false (kind_read List64 at is e) refl refl

module _ {d : Bool} {one other : Window} (b : BothWide d one other) where
  pub others_have : (w : Width) × ((k : Kind) × Is (numbers_of other.node) k × (offset_width k ≡ Some w) × (has_data k ≡ d))
  others_have = (b.width, (b.kind, b.others, b.offsets, b.has))

  -- what their counts tell
  abbrev pub Counts : Type 0
  Counts = SameCounts (wide b.width) (window_in one) (window_in other)

  module _ {r : Bool} (tells : TellsCounts r one other) where
    counts_by : (r ≡ true) ↔ Counts
    counts_by = tells b.width (b.kind, b.mine, b.offsets) (b.kind, b.others, b.offsets)

    pub counts_same : r ≡ true → Counts
    counts_same = counts_by.0

    pub counts_differ : (SameRows (window_in one) (window_in other) → Counts) → r ≡ false → (r ≡ true) ↔ SameRows (window_in one) (window_in other)
    counts_differ of e = (λ t. absurd (false≢true (sym e ∙ t)), λ s. counts_by.1 (of s))

-- ---- valid rows

-- one equivalence, and another against it
across : {A B C : Type 0} → A ↔ B → C ↔ B → A ↔ C
across p q = (λ a. q.1 (p.0 a), λ c. p.1 (q.0 c))

-- whether bytes are the same
slices_tell : (xs ys : List ℕ) (b : Bool) → b ≡ pointwise nat_eq xs ys → (b ≡ true) ↔ (xs ≡ ys)
slices_tell xs ys true e = (λ t. same_text xs ys e, λ s. refl)
slices_tell xs ys false e = (λ t. absurd (false≢true t), λ s. absurd (other_text xs ys e s))

-- what a List passes to its child
passed_elements : (k : Kind) (x : Width) (w : layout.Window) → offset_width k ≡ Some x → has_data k ≡ false → passed_to k w (w.node + 1) ≡ elements_in (wide x) w
passed_elements Null x w o d = cc
passed_elements Boolean x w o d = cc
passed_elements Fixed x w o d = cc
passed_elements Bytes32 x w o d = cc
passed_elements Bytes64 x w o d = cc
passed_elements List32 x w o d = let s : Four ≡ x = cc in ap (λ (y : Width). elements_in (wide y) w) s
passed_elements List64 x w o d = let s : Eight ≡ x = cc in ap (λ (y : Width). elements_in (wide y) w) s
passed_elements Struct x w o d = cc
passed_elements Dictionary x w o d = cc

module _ (one other : Window) (alike : Alike (window_in one) (window_in other)) where
  abbrev mine : layout.Window
  mine = window_in one

  abbrev others : layout.Window
  others = window_in other

  -- no row of a Null has a value, and there is no Dictionary
  pub none_tell : {n : NodeRef} {k : Kind} → n ≡ one.node → Is (numbers_of n) k → (k ≡ Null) ⊎ (k ≡ Dictionary) → (true ≡ true) ↔ SameRows mine others
  none_tell at is (inl e) =
      let null = kind_read Null at is e in
      (λ t r l. null_kind mine null r ∙ sym (null_kind others (others_kind one other alike Null null) r), λ s. refl)
  none_tell at is (inr e) = absurd (plain_kind mine (inside_of one) alike.plain (kind_read Dictionary at is e))

  module _ (valid : Valid mine) (valids : Valid others) where
    pub bits_tell : (a b : BitSlice) (r : Bool) → Is (numbers_of one.node) Boolean → AreFlags one a → AreFlags other b
        → r ≡ list_all (same_byte a b) (range_with_len 0 (bytes_for a.len)) → (r ≡ true) ↔ SameRows mine others
    bits_tell a b r is f g e =
        let told = bits_told a b r (omega (arith, f.count, g.count, alike.rows)) e in
        let same = bits_same mine others (inside_of one) (inside_of other) alike.rows valid valids is (others_kind one other alike Boolean is) in
        across (
          λ t i l. sym (f.each i l) ∙ told.0 t i (omega (arith, f.count)) ∙ g.each i (omega (arith, alike.rows)),
          λ s. told.1 (λ i l. f.each i (omega (arith, f.count)) ∙ s i (omega (arith, f.count)) ∙ sym (g.each i (omega (arith, f.count, alike.rows)))),
        ) same

    pub slots_tell : (xs ys : List ℕ) (r : Bool) → Is (numbers_of one.node) Fixed → xs ≡ slots_of one → ys ≡ slots_of other → r ≡ pointwise nat_eq xs ys
        → (r ≡ true) ↔ SameRows mine others
    slots_tell xs ys r is e f t =
        across (slices_tell (slots_in mine) (slots_in others) r (t ∙ ap₂ (pointwise nat_eq) e f))
        (slots_same mine others (inside_of one) (inside_of other) alike.rows valid valids is (others_kind one other alike Fixed is)
        (one_shape_size mine others (inside_of one) (inside_of other) alike.shapes is))

    -- rows of byte strings and of lists by their counts, and by what they hold
    module _ (b : BothWide true one other) where
      strings_by : SameRows mine others ↔ (SameCounts (wide b.width) mine others × (strings_in (wide b.width) mine ≡ strings_in (wide b.width) others))
      strings_by = strings_same mine others b.kind b.width (inside_of one) (inside_of other) alike.rows valid valids b.mine b.others b.offsets b.has

      pub strings_tell : (xs ys : List ℕ) (r : Bool) → SameCounts (wide b.width) mine others → AreStrings one xs → AreStrings other ys → r ≡ pointwise nat_eq xs ys
          → (r ≡ true) ↔ SameRows mine others
      strings_tell xs ys r counts e f t =
          let same = slices_tell (strings_in (wide b.width) mine) (strings_in (wide b.width) others) r
          (t ∙ ap₂ (pointwise nat_eq) (e b.width (b.kind, b.mine, b.offsets, b.has)) (f b.width (b.kind, b.others, b.offsets, b.has))) in
          (λ h. strings_by.1 (counts, same.0 h), λ s. same.1 (strings_by.0 s).1)

      pub string_counts : SameRows mine others → SameCounts (wide b.width) mine others
      string_counts s = (strings_by.0 s).0

    module _ (b : BothWide false one other) where
      elements_by : SameRows mine others
          ↔ (SameCounts (wide b.width) mine others × SameRows (elements_in (wide b.width) mine) (elements_in (wide b.width) others))
      elements_by = elements_same mine others b.kind b.width (inside_of one) (inside_of other) alike.rows valid valids b.mine b.others b.offsets b.has

      pub element_counts : SameRows mine others → SameCounts (wide b.width) mine others
      element_counts s = (elements_by.0 s).0

      -- windows of the elements
      module _ (counts : SameCounts (wide b.width) mine others) (p q : Window) (e : IsPassed one (one.node.index + 1) p) (f : IsPassed other (other.node.index + 1) q) where
        p_is : window_in p ≡ elements_in (wide b.width) mine
        p_is = e b.kind b.mine ∙ passed_elements b.kind b.width mine b.offsets b.has

        q_is : window_in q ≡ elements_in (wide b.width) others
        q_is = f b.kind b.others ∙ passed_elements b.kind b.width others b.offsets b.has

        pub elements_alike : Alike (window_in p) (window_in q)
        elements_alike =
            let as_many = counts_total mine others b.kind b.width (inside_of one) (inside_of other) alike.rows b.mine b.others b.offsets counts in
            rw (p_is, q_is) (alike_elements mine others b.kind b.width (inside_of one) (inside_of other) alike b.mine b.offsets b.has as_many)

        pub elements_tell : (r : Bool) → (r ≡ true) ↔ SameRows (window_in p) (window_in q) → (r ≡ true) ↔ SameRows mine others
        elements_tell r same = (
          λ t. elements_by.1 (counts, subst (λ (x : layout.Window). SameRows x (elements_in (wide b.width) others)) p_is (subst (SameRows (window_in p)) q_is (same.0 t))),
          λ s.
              same.1
              (subst (λ (x : layout.Window). SameRows x (window_in q)) (sym p_is)
              (subst (SameRows (elements_in (wide b.width) mine)) (sym q_is) (elements_by.0 s).1)),
        )

-- ---- parts

-- lists side by side, by their first and the others
pairs_are : (P : layout.Window → layout.Window → Type 0) {xs us ys vs : List layout.Window} → xs ≡ us → ys ≡ vs → Pairwise P xs ys → Pairwise P us vs
pairs_are P {xs} {us} {ys} {vs} e f h = subst (λ (ws : List layout.Window). Pairwise P ws vs) e (subst (Pairwise P xs) f h)

pub pairs_next : (P : layout.Window → layout.Window → Type 0) {p q : layout.Window} {ps qs xs ys : List layout.Window} → xs ≡ p ∷ ps → ys ≡ q ∷ qs → Pairwise P xs ys
    → P p q × Pairwise P ps qs
pairs_next P e f h = pairs_are P e f h

pub pairs_more : (P : layout.Window → layout.Window → Type 0) {p q : layout.Window} {ps qs xs ys : List layout.Window} → xs ≡ p ∷ ps → ys ≡ q ∷ qs → P p q → Pairwise P ps qs
    → Pairwise P xs ys
pairs_more P e f h t = pairs_are P (sym e) (sym f) (h, t)

map_twice : {X Y Z : Type 0} (f : Y → Z) (g : X → Y) (xs : List X) → map f (map g xs) ≡ map (λ x. f (g x)) xs
map_twice f g [] = refl
map_twice f g (x ∷ xs) = ap (λ ys. f (g x) ∷ ys) (map_twice f g xs)

-- what a Struct passes to each child
abbrev parts_of : Window → List layout.Window
parts_of w = map (λ (p : Place). passed_to Struct (window_in w) p.1) (children_of w.node)

-- by the children's numbers
nest : (w : Window) → Nested (table_of w.node) w.node.index
nest w = rules_at w.node Nesting

parts_numbered : (w : Window) → parts_of w ≡ map (passed_to Struct (window_in w)) (nest w).children
parts_numbered w =
    ap (map (λ (p : Place). passed_to Struct (window_in w) p.1))
    (sides_are w.node.recording (nest w).children (w.node.index + 1) (end_of (table_of w.node) w.node.index) (nest w).fill)
    ∙ map_twice (λ (p : Place). passed_to Struct (window_in w) p.1) (λ (c : ℕ). (w.node.recording, c)) (nest w).children

module _ (one other : Window) (alike : Alike (window_in one) (window_in other)) (is : Is (numbers_of one.node) Struct) where
  parts_alike_all : (length (nest one).children ≡ length (nest other).children)
      × Pairwise Alike (map (passed_to Struct (window_in one)) (nest one).children) (map (passed_to Struct (window_in other)) (nest other).children)
  parts_alike_all =
      alike_parts (window_in one) (window_in other) (nest one).children (nest other).children (inside_of one) (inside_of other) alike is (nest one).fill (nest other).fill

  -- where both walks begin
  module _ (s t : Windows) (e : ArePassedEach one (windows_left s)) (f : ArePassedEach other (windows_left t)) where
    s_is : windows_left s ≡ parts_of one
    s_is = e Struct is

    t_is : windows_left t ≡ parts_of other
    t_is = f Struct (others_kind one other alike Struct is)

    pub walks_alike : Pairwise Alike (windows_left s) (windows_left t)
    walks_alike = pairs_are Alike (sym (s_is ∙ parts_numbered one)) (sym (t_is ∙ parts_numbered other)) parts_alike_all.1

    pub walks_left : Pairwise SameRows (windows_left s) (windows_left t) ↔ SameParts one other
    walks_left = (pairs_are SameRows s_is t_is, pairs_are SameRows (sym s_is) (sym t_is))

  pub parts_tell : Valid (window_in one) → Valid (window_in other) → (r : Bool) → (r ≡ true) ↔ SameParts one other → (r ≡ true) ↔ SameRows (window_in one) (window_in other)
  parts_tell valid valids r same =
      let by = parts_same (window_in one) (window_in other) (nest one).children (nest other).children (inside_of one) (inside_of other) alike.rows valid valids
      is (others_kind one other alike Struct is) (nest one).fill (nest other).fill parts_alike_all.0 in (
        λ t. by.1 (pairs_are SameRows (parts_numbered one) (parts_numbered other) (same.0 t)),
        λ s. same.1 (pairs_are SameRows (sym (parts_numbered one)) (sym (parts_numbered other)) (by.0 s)),
      )

-- ---- a kept window, and a new one

module _ (old new : Window) where
  pub shapes_tell : (m n : NodeRef) (r : Bool) → m ≡ new.node → n ≡ old.node → (r ≡ true) ↔ (shape_at m ≡ shape_at n)
      → (r ≡ true) ↔ (shape_in (window_in old) ≡ shape_in (window_in new))
  shapes_tell m n r e f same =
      let mine = ap shape_at e in
      let others = ap shape_at f in
      (λ t. sym others ∙ sym (same.0 t) ∙ mine, λ s. same.1 (mine ∙ sym s ∙ sym others))

  -- by the first rows of the new one
  pub front_tells : (p : Window) (n : ℕ) (r : Bool) → window_in p ≡ rows_at (window_in new) new.node.index (new.first + 0) n → n ≡ old.rows
      → (r ≡ true) ↔ SameRows (window_in p) (window_in old) → (r ≡ true) ↔ SameRows (window_in old) (first_rows old.rows (window_in new))
  front_tells p n r e f same =
      let front : window_in p ≡ first_rows old.rows (window_in new) = e ∙ ap₂ (rows_at (window_in new) new.node.index) (add-zero new.first) f in (
        λ t k l. sym (subst (λ (x : layout.Window). SameRows x (window_in old)) front (same.0 t) k l),
        λ s. same.1 (subst (λ (x : layout.Window). SameRows x (window_in old)) (sym front) (λ k l. sym (s k l))),
      )
