-- What the rows of a window hold.
use Rattle.std.proofs.lemmas.Nat.{mul-le}
use Rattle.std.proofs.Common.{◌≡◌, ℕ, zero, suc, ◌+◌, ◌-◌, ◌*◌, ◌<◌, ◌≤◌, Bool, true, false, not, cond, ◌⊎◌, List, [], ◌∷◌, length, drop, Some, None, Option, sym, refl, ap, ap₂, ◌∙◌, inl, inr, subst, add-mul, arith}
use Rattle.std.proofs.Math.Bool.{beq}
use Rattle.std.specs.List.{take_while, range_with_len}
use Rattle.std.proofs.lemmas.Bool.{false≢true, cases_eq, eq-eqb, ne_eqb}
use Rattle.std.proofs.lemmas.List.Sums.{take_while-cons}
use Rattle.layout.specs.declared.bit.BitSlice.{BitSlice}
use Rattle.layout.specs.declared.fault.Refusal.TheVariants.{KindOrSize, Nesting, Place, Offset}
use Rattle.layout.specs.declared.kind.Kind.{Kind}
use Rattle.layout.specs.declared.kind.Kind.TheVariants.{Null, Boolean, Fixed, Bytes32, Bytes64, List32, List64, Struct, Dictionary}
use Rattle.layout.specs.declared.node.Node.{Node}
use Rattle.layout.specs.declared.number.Width.{Width}
use Rattle.layout.specs.Bits.{bit_at, zeros}
use Rattle.layout.specs.BitSlices.{bit_in, bits_in, IsPart}
use Rattle.layout.specs.Kinds.{has_bitmap}
use Rattle.layout.specs.Lists.{cut, rows}
use Rattle.layout.specs.Messages.{own_field}
use Rattle.layout.specs.Nodes.{bitmap_of}
use Rattle.layout.specs.Numbers.{wide, unle}
use Rattle.layout.specs.Rows.{mark_in, mark_at, slot_at, offset_at, nulls_in}
use Rattle.layout.specs.Rules.{Is, HasOffsets, ChildrenFit, Placed}
use Rattle.layout.specs.Windows.{shown_in, passed_count}
use Rattle.layout.proofs.Facts.{one_kind, fixed_lie, keys_lie, offsets_lie}
use Rattle.layout.proofs.Kids.{one_child}
use Rattle.layout.proofs.Lists.{length_cut, cut_cut}
use Rattle.layout.proofs.Tests.{natural-number}
use Rattle.recording.specs.declared.node.NodeRef.{NodeRef}
use Rattle.recording.specs.declared.offsets.Offsets.{Offsets}
use Rattle.recording.specs.declared.window.Window.{Window}
use Rattle.recording.specs.Contents.{valid_at, IsRun, AreMarks, NoMarks, offset_in, offset_slots, slots_of, AreOffsets, AreStrings}
use Rattle.recording.specs.NodeRefs.{table_of, run_of, numbers_of, IsNode}
use Rattle.recording.specs.Passing.{IsChild, AreContents}
use Rattle.recording.specs.RowBits as bits
use Rattle.recording.specs.Windows.{window_in, HasStrings}
use Rattle.recording.proofs.Reading.{rules_at, one_width, few, placed, has_offsets}
use Rattle.recording.proofs.WindowFacts.{string_ends, nulls_of_window}

-- ---- the numbers of a range that pass, from the first on

record Leading (p : ℕ → Bool) (a n m : ℕ) : Type 0 where
  pub most : m ≤ n
  pub pass : (i : ℕ) → i < m → p (a + i) ≡ true
  pub stop : m < n → p (a + m) ≡ false

passes : (p : ℕ → Bool) (a n m : ℕ) → p a ≡ true → Leading p (a + 1) n m → (i : ℕ) → i < suc m → p (a + i) ≡ true
passes p a n m e h zero l = ap p (omega arith) ∙ e
passes p a n m e h (suc i) l = ap p (omega arith) ∙ h.pass i (omega arith)

leading : (p : ℕ → Bool) (n a : ℕ) → Leading p a n (length (take_while p (range_with_len a n)))
leading p zero a = record { most = omega arith; pass = λ i l. absurd (omega arith); stop = λ l. absurd (omega arith) }
leading p (suc n) a = by (leading p n (a + 1)) (p a) refl
  where
    xs : List ℕ
    xs = range_with_len (a + 1) n

    by : Leading p (a + 1) n (length (take_while p xs)) → (b : Bool) → p a ≡ b → Leading p a (suc n) (length (take_while p (a ∷ xs)))
    by h true e =
        let m = length (take_while p xs) in
        let is : length (take_while p (a ∷ xs)) ≡ suc m = ap length (take_while-cons p a xs ∙ ap (λ (b : Bool). cond b (a ∷ take_while p xs) []) e) in
        subst (Leading p a (suc n)) (sym is)
        (record { most = omega (arith, h.most); pass = passes p a n m e h; stop = λ l. ap p (omega arith) ∙ h.stop (omega arith) })
    by h false e =
        let is : length (take_while p (a ∷ xs)) ≡ 0 = ap length (take_while-cons p a xs ∙ ap (λ (b : Bool). cond b (a ∷ take_while p xs) []) e) in
        subst (Leading p a (suc n)) (sym is) (record { most = omega arith; pass = λ i l. absurd (omega arith); stop = λ l. ap p (omega arith) ∙ e })

-- a bit that is as the first
as_first : (x b : Bool) → beq x b ≡ true → x ≡ b
as_first true true e = refl
as_first true false e = cc
as_first false true e = cc
as_first false false e = refl

unlike_first : (x b : Bool) → beq x b ≡ false → x ≡ not b
unlike_first true true e = cc
unlike_first true false e = refl
unlike_first false true e = refl
unlike_first false false e = cc

same_first : (b : Bool) → beq b b ≡ true
same_first true = refl
same_first false = refl

-- ---- which rows are valid

module _ (w : Window) where
  abbrev n : Node
  n = numbers_of w.node

  -- validity goes by the bits, but for a Null
  null_each : (k : Kind) → Is n k → has_bitmap k ≡ false → (r : ℕ) → valid_at (window_in w) r ≡ false
  null_each Null is e r = ap (λ (b : Bool). cond b false (mark_at (run_of w.node) n (w.first + r))) (eq-eqb n.kind 0 is)
  null_each Boolean is e r = cc
  null_each Fixed is e r = cc
  null_each Bytes32 is e r = cc
  null_each Bytes64 is e r = cc
  null_each List32 is e r = cc
  null_each List64 is e r = cc
  null_each Struct is e r = cc
  null_each Dictionary is e r = cc

  pub valid_null : (k : Kind) → Is n k → has_bitmap k ≡ false → NoMarks w
  valid_null k is e = record {
    bitmap = λ j at t. absurd (false≢true (sym e ∙ ap has_bitmap (one_kind n k j is at) ∙ t));
    each = λ j at r l. null_each k is e r ∙ sym e ∙ ap has_bitmap (one_kind n k j is at);
  }

  not_null : (k : Kind) → Is n k → has_bitmap k ≡ true → n.kind ≡ 0 → ⊥
  not_null Null is e z = cc
  not_null Boolean is e z = omega arith
  not_null Fixed is e z = omega arith
  not_null Bytes32 is e z = omega arith
  not_null Bytes64 is e z = omega arith
  not_null List32 is e z = omega arith
  not_null List64 is e z = omega arith
  not_null Struct is e z = omega arith
  not_null Dictionary is e z = omega arith

  module _ (k : Kind) (is : Is n k) (e : has_bitmap k ≡ true) where
    valid_bit : (o : Option ℕ) → bitmap_of n ≡ o → (r : ℕ) → valid_at (window_in w) r ≡ mark_in (run_of w.node) o (n.from + (w.first + r))
    valid_bit o at r =
        ap (λ (b : Bool). cond b false (mark_at (run_of w.node) n (w.first + r))) (ne_eqb n.kind 0 (not_null k is e))
        ∙ ap (λ (o : Option ℕ). mark_in (run_of w.node) o (n.from + (w.first + r))) at

    pub valid_unmarked : bits.AreMarks w.node None → NoMarks w
    valid_unmarked none = record {
      bitmap = λ j at t. none;
      each = λ j at r l. valid_bit None none r ∙ sym e ∙ ap has_bitmap (one_kind n k j is at);
    }

    pub valid_marked : (all part : BitSlice) → bits.AreMarks w.node (Some all) → IsPart all w.first w.rows part → AreMarks w part
    valid_marked all part (p, place, at) (bytes, first, rows) = record {
      place = p;
      bitmap = place;
      bytes = bytes ∙ at.0;
      first = omega (arith, first, at.1);
      count = rows;
      each = λ r l.
          ap (λ (bs : List ℕ). bit_at bs (part.first + r)) (bytes ∙ at.0)
          ∙ ap (bit_at (drop p (run_of w.node))) (omega (arith, first, at.1))
          ∙ sym (valid_bit (Some p) place r);
      kind = λ j at. sym (ap has_bitmap (one_kind n k j is at)) ∙ e;
    }

-- as many are null as bits are 0
pub nulls_marked : (w : Window) (bits : BitSlice) → AreMarks w bits → zeros (bits_in bits) ≡ (own_field (shown_in (window_in w))).nulls
nulls_marked w bits h =
    let m = numbers_of w.node in
    nulls_of_window w (zeros (bits_in bits))
    (λ k is.
    ap (λ (bs : List ℕ). zeros (rows bits.len (λ i. bit_at bs (bits.first + i)))) h.bytes
    ∙ ap₂ (nulls_in (run_of w.node) (Some h.place)) h.first h.count
    ∙ ap (λ (o : Option ℕ). nulls_in (run_of w.node) o (m.from + w.first) w.rows) (sym h.bitmap)
    ∙ ap (λ (b : Bool). cond b (nulls_in (run_of w.node) (bitmap_of m) (m.from + w.first) w.rows) w.rows) (sym (h.kind k is)))

-- ---- runs of a window

module _ (w : Window) (from : ℕ) (here : from < w.rows) where
  pub run_unmarked : NoMarks w → (k : Kind) → Is (numbers_of w.node) k → IsRun (window_in w) from (record { valid = has_bitmap k; rows = w.rows - from })
  run_unmarked valid k is = record {
    some = omega arith;
    within = omega arith;
    alike = λ r l. valid.each k is (from + r) (omega arith);
    whole = λ l. absurd (omega arith);
  }

  pub run_marked : (all some : BitSlice) → AreMarks w all → IsPart all from (w.rows - from) some
      → (valid : Bool) (rows : ℕ) → valid ≡ bit_in some 0 → rows ≡ length (take_while (λ i. beq (bit_in some i) valid) (range_with_len 0 some.len))
      → IsRun (window_in w) from (record { valid = valid; rows = rows })
  run_marked all some marks part valid rows first count =
      let bit : (r : ℕ) → from + r < w.rows → bit_in some r ≡ valid_at (window_in w) (from + r) = λ r l.
      ap (λ (bs : List ℕ). bit_at bs (some.first + r)) part.0 ∙ ap (bit_at all.bytes.now) (omega (arith, part.1)) ∙ marks.each (from + r) l in
      let h = subst (Leading (λ i. beq (bit_in some i) valid) 0 some.len) (sym count) (leading (λ i. beq (bit_in some i) valid) some.len 0) in
      let start : beq (bit_in some 0) valid ≡ true = ap (beq (bit_in some 0)) first ∙ same_first (bit_in some 0) in
      let at_place : ℕ → Bool = λ x. beq (bit_in some x) valid in
      record {
        some = elim (cases_eq rows 0) [
          | inl z ↦ absurd (let stop = h.stop (omega (arith, part.2)) in let both : true ≡ false = sym start ∙ ap at_place (omega arith) ∙ stop in cc)
          | inr more ↦ omega arith
        ];
        within = omega (arith, h.most, part.2);
        alike = λ r l. sym (bit r (omega (arith, h.most, part.2))) ∙ as_first (bit_in some r) valid (ap at_place (omega arith) ∙ h.pass r l);
        whole = λ l. sym (bit rows l) ∙ unlike_first (bit_in some rows) valid (ap at_place (omega arith) ∙ h.stop (omega (arith, part.2)));
      }

-- ---- slots

-- where those of a row begin, or where they all end
pub record SlotsAt (n : NodeRef) (m : Node) (r : ℕ) : Type 0 where
  pub row : m.from + r ≤ 2147483647
  pub place : m.slots + (m.from + r) * m.size ≤ 4294967295
  pub within : m.slots + (m.from + r) * m.size ≤ length (run_of n)

slots_by : (n : NodeRef) (m : Node) → m ≡ numbers_of n → m.slots + (m.from + m.rows) * m.size ≤ length (run_of n) → (r : ℕ) → r ≤ (numbers_of n).rows → SlotsAt n m r
slots_by n m same h r l =
    let rows : m.rows ≡ (numbers_of n).rows = ap (λ (m : Node). m.rows) same in
    let few : m.from + m.rows ≤ 2147483647 = subst (λ (m : Node). m.from + m.rows ≤ 2147483647) (sym same) (rules_at n KindOrSize).rows in
    let less : (m.from + r) * m.size ≤ (m.from + m.rows) * m.size = mul-le (m.from + r) m.size (m.from + m.rows) m.size (omega arith) (omega arith) in
    record { row = omega arith; place = omega (arith, n.recording.opened.1); within = omega arith }

pub slots_at : (n : NodeRef) (m : Node) → m ≡ numbers_of n → Is (numbers_of n) Fixed ⊎ Is (numbers_of n) Dictionary → (r : ℕ) → r ≤ (numbers_of n).rows → SlotsAt n m r
slots_at n m same is r l = slots_by n m same (by is) r l
  where
    placed : Placed (run_of n) m
    placed = subst (Placed (run_of n)) (sym same) (rules_at n Place)

    by : Is (numbers_of n) Fixed ⊎ Is (numbers_of n) Dictionary → m.slots + (m.from + m.rows) * m.size ≤ length (run_of n)
    by (inl is) = fixed_lie (run_of n) m placed (subst (λ (m : Node). Is m Fixed) (sym same) is)
    by (inr is) = keys_lie (run_of n) m placed (subst (λ (m : Node). Is m Dictionary) (sym same) is)

-- from the first of a window to the end of its last are its slots
pub slots_cut : (w : Window) (m : Node) (start end : ℕ) → m ≡ numbers_of w.node → start ≡ m.slots + (m.from + w.first) * m.size → end ≡ m.slots + (m.from + (w.first + w.rows)) * m.size
    → (start ≤ end) × (cut start (end - start) (run_of w.node) ≡ slots_of w)
slots_cut w m start end same s e =
    let more : (m.from + (w.first + w.rows)) * m.size ≡ (m.from + w.first) * m.size + w.rows * m.size = ap (λ (x : ℕ). x * m.size) (omega arith) ∙ add-mul (m.from + w.first) w.rows m.size in
    let len : end - start ≡ w.rows * m.size = omega arith in
    (omega arith, ap₂ (λ (p c : ℕ). cut p c (run_of w.node)) s len ∙ ap (λ (m : Node). cut (m.slots + (m.from + w.first) * m.size) (w.rows * m.size) (run_of w.node)) same)

-- ---- offsets

-- where those of a window begin, of x bytes each, and that they end within the bytes
pub record OffsetsAt (v : Window) (m : Node) (x : ℕ) : Type 0 where
  pub row : m.from + v.first ≤ 2147483647
  pub place : m.slots + (m.from + v.first) * x ≤ 4294967295
  pub few : v.rows ≤ 2147483647
  pub within : m.slots + (m.from + v.first) * x + (v.rows + 1) * x ≤ length (run_of v.node)
  pub small : length (run_of v.node) ≤ 4294967295

module _ (v : Window) (m : Node) (o : Offsets) (x : ℕ) (same : m ≡ numbers_of v.node) (node : o.node ≡ v.node) (wide_x : x ≡ wide o.width) where
  has : HasOffsets (numbers_of v.node) o.width
  has = subst (λ (n : NodeRef). HasOffsets (numbers_of n) o.width) node (has_offsets o)

  offsets_by : m.slots + (m.from + m.rows + 1) * x ≤ length (run_of v.node) → OffsetsAt v m x
  offsets_by lie =
      let row = few v.node m same v.first v.rows v.inside in
      let rows : m.rows ≡ (numbers_of v.node).rows = ap (λ (m : Node). m.rows) same in
      let more : (m.from + v.first + (v.rows + 1)) * x ≡ (m.from + v.first) * x + (v.rows + 1) * x = add-mul (m.from + v.first) (v.rows + 1) x in
      let less : (m.from + v.first + (v.rows + 1)) * x ≤ (m.from + m.rows + 1) * x = mul-le (m.from + v.first + (v.rows + 1)) x (m.from + m.rows + 1) x (omega (arith, v.inside)) (omega arith) in
      let within : m.slots + (m.from + v.first) * x + (v.rows + 1) * x ≤ length (run_of v.node) = omega arith in
      record { row = omega (arith, row); place = omega (arith, v.node.recording.opened.1); few = omega (arith, row); within = within; small = v.node.recording.opened.1 }

  pub offsets_at : OffsetsAt v m x
  offsets_at = offsets_by (subst (λ (x : ℕ). m.slots + (m.from + m.rows + 1) * x ≤ length (run_of v.node)) (sym wide_x)
      (offsets_lie (run_of v.node) m (placed v.node m same) has.0 o.width (subst (λ (m : Node). Is m has.0) (sym same) has.1) has.2))

  pub offsets_cut : (start end : ℕ) → start ≡ m.slots + (m.from + v.first) * x → end ≡ start + (v.rows + 1) * x → AreOffsets v (cut start (end - start) (run_of v.node))
  offsets_cut start end s e w other =
      let len : end - start ≡ (v.rows + 1) * x = omega arith in
      ap₂ (λ (p c : ℕ). cut p c (run_of v.node)) s len
      ∙ ap₂ (λ (m : Node) (x : ℕ). cut (m.slots + (m.from + v.first) * x) ((v.rows + 1) * x) (run_of v.node)) same (wide_x ∙ ap wide (one_width (numbers_of v.node) o.width w has other))

  pub offsets_long : (start end : ℕ) → start ≡ m.slots + (m.from + v.first) * x → end ≡ start + (v.rows + 1) * x
      → (w : Width) → HasOffsets (numbers_of v.node) w → length (cut start (end - start) (run_of v.node)) ≡ (v.rows + 1) * wide w
  offsets_long start end s e w other =
      length_cut start (end - start) (run_of v.node) (omega (arith, offsets_at.within))
      ∙ omega arith
      ∙ ap (λ (x : ℕ). (v.rows + 1) * x) (wide_x ∙ ap wide (one_width (numbers_of v.node) o.width w has other))

-- ---- byte strings

-- they lie within the bytes
pub strings_lie : (v : Window) (m : Node) (w : Width) (x c : ℕ) → m ≡ numbers_of v.node → HasStrings (numbers_of v.node) w → AreContents v x c → m.«data» + (x + c) ≤ length (run_of v.node)
strings_lie v m w x c same has t = string_ends v.node w has m (x + c) same (t.bound has.0 has.1)

pub strings_cut : (v : Window) (m : Node) (x c : ℕ) → m ≡ numbers_of v.node → AreContents v x c → AreStrings v (cut (m.«data» + x) (m.«data» + x + c - (m.«data» + x)) (run_of v.node))
strings_cut v m x c same t w has =
    let offsets : HasOffsets (numbers_of v.node) w = (has.0, has.1, has.2) in
    let len : m.«data» + x + c - (m.«data» + x) ≡ c = omega arith in
    ap (λ (n : ℕ). cut (m.«data» + x) n (run_of v.node)) (len ∙ t.count w offsets)
    ∙ ap₂ (λ (p y : ℕ). cut (p + y) (passed_count (run_of v.node) (wide w) (numbers_of v.node) v.first v.rows) (run_of v.node)) (ap (λ (m : Node). m.«data») same) (t.first w offsets)

-- ---- the one child

pub next_child : (n child : NodeRef) (k : Kind) → Is (numbers_of n) k → ((m : ℕ) → ChildrenFit k m → m ≡ 1) → IsNode n.recording (n.index + 1) child → IsChild n child
next_child n child k is one (rec, at) =
    let t = rules_at n Nesting in
    let end = one_child (table_of n) n.index t (one (length t.children) (t.count k is)) in
    (rec, (([], sym at), omega (arith, at, end.0)))

-- ---- offsets as they stand

-- those of a window that has rows are the node's
module _ (v : Window) (bs : List ℕ) (w : Width) (has : HasOffsets (numbers_of v.node) w) (is : bs ≡ offset_slots (wide w) v) where
  abbrev m : Node
  m = numbers_of v.node

  abbrev x : ℕ
  x = wide w

  pub offset_is : (r : ℕ) → r ≤ v.rows → 0 < v.rows → offset_in bs x r ≡ offset_at (run_of v.node) x m (v.first + r)
  offset_is r l some =
      let rising = rules_at v.node Offset has.0 w has.1 has.2 in
      let less : (r + 1) * x ≤ (v.rows + 1) * x = mul-le (r + 1) x (v.rows + 1) x (omega arith) (omega arith) in
      let next : (r + 1) * x ≡ r * x + x = omega arith in
      let place : (m.from + (v.first + r)) * x ≡ (m.from + v.first) * x + r * x = ap (λ (y : ℕ). y * x) (omega arith) ∙ add-mul (m.from + v.first) r x in
      ap (λ (bs : List ℕ). offset_in bs x r) is
      ∙ ap unle (cut_cut (r * x) x (m.slots + (m.from + v.first) * x) ((v.rows + 1) * x) (run_of v.node) (omega arith) ∙ ap (λ (q : ℕ). cut q x (run_of v.node)) (omega arith))
      ∙ sym (natural-number (slot_at (run_of v.node) x m (v.first + r)) (rising.naturals (omega (arith, v.inside)) (v.first + r) (omega (arith, v.inside))))
