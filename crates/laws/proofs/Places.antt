-- What is made and what is copied, by its places.
use Rattle.std.proofs.Common.{◌≡◌, ℕ, zero, suc, ◌+◌, ◌-◌, ◌*◌, ◌/◌, ◌%◌, ◌^◌, ◌<◌, ◌≤◌, Bool, true, false, cond, eqb, ◌⊎◌, List, [], ◌∷◌, ◌++◌, length, get_or, drop, sym, refl, subst, ap, ◌∙◌, ap₂, inl, inr, le_of_suc-le-suc, not-suc-le-zero, add-zero, suc-mul, pow-suc, arith, length-append, get_or-drop, get_or-take}
use native.Mathlib.Nat.{pow-succ', div-div-eq-div-mul, zero-div}
use Rattle.std.proofs.lemmas.Bool.{eq-eqb, ne_eqb}
use Rattle.layout.specs.declared.node.Node.{Node}
use Rattle.layout.specs.Lists.{rows, cut, join_all}
use Rattle.layout.specs.Bits.{byte_of, bytes_for, pack, bit_of, bit_at}
use Rattle.layout.specs.Rows.{slot_at, offset_at, count_at, string_at}
use Rattle.layout.specs.Windows.{bits_at}
use Rattle.layout.specs.Rules.{Rising}
use Rattle.laws.specs.Places.{Below, BitsMade, Places}
use Rattle.layout.specs.Messages.{offsets}
use mir.Val.{bool_byte}
use Rattle.layout.proofs.Lists.{rows_same, get_or_rows, length-rows, length_cut}
use Rattle.laws.proofs.Lists.{cut-rows, rows_add, rows_get_or, join_cuts}
use Rattle.layout.proofs.Bits.{byte_bit}
use Rattle.laws.proofs.Bits.{length-pack}
use Rattle.laws.proofs.Round.{bits_at_lem}
use Rattle.laws.proofs.Says.{slot_rises, counts_are}

-- ---- bits

-- past the bits there are zeros
get_or_past : {X : Type 0} (xs : List X) (r : ℕ) (d : X) → length xs ≤ r → get_or xs r d ≡ d
get_or_past [] r d h = refl
get_or_past (x ∷ xs) zero d h = absurd (not-suc-le-zero h)
get_or_past (x ∷ xs) (suc r) d h = get_or_past xs r d (le_of_suc-le-suc h)

get_or_cut : {X : Type 0} (k w : ℕ) (xs : List X) (i : ℕ) (d : X) → i < w → get_or (cut k w xs) i d ≡ get_or xs (k + i) d
get_or_cut k w xs i d h = get_or-take w (drop k xs) i d h ∙ get_or-drop k xs i d

zero_bit : (i : ℕ) → bit_of 0 i ≡ false
zero_bit i = rw (zero-div (2 ^ i))

past_bit : (bs : List Bool) (r : ℕ) → length bs ≤ r → bit_at (pack bs) r ≡ false
past_bit bs r h = go (which (r / 8) (bytes_for (length bs)))
  where
    which : (x y : ℕ) → (x < y) ⊎ (y ≤ x)
    which zero zero = inr (omega arith)
    which zero (suc y) = inl (omega arith)
    which (suc x) zero = inr (omega arith)
    which (suc x) (suc y) = elim (which x y) [ inl l ↦ inl (omega arith) | inr l ↦ inr (omega arith) ]

    go : ((r / 8 < bytes_for (length bs)) ⊎ (bytes_for (length bs) ≤ r / 8)) → bit_at (pack bs) r ≡ false
    go (inl l) =
        let e : 8 * (r / 8) + r % 8 ≡ r = omega arith in
        ap (λ (x : ℕ). bit_of x (r % 8)) (get_or_rows (bytes_for (length bs)) (λ i. byte_of (cut (8 * i) 8 bs)) (r / 8) 0 l)
        ∙ byte_bit (cut (8 * (r / 8)) 8 bs) (r % 8)
        ∙ get_or_cut (8 * (r / 8)) 8 bs (r % 8) false (omega arith)
        ∙ ap (λ (k : ℕ). get_or bs k false) e ∙ get_or_past bs r false h
    go (inr l) =
        ap (λ (x : ℕ). bit_of x (r % 8)) (get_or_past (pack bs) (r / 8) 0 (omega (arith, length-pack bs))) ∙ zero_bit (r % 8)

-- a byte is its bits
bit_by : (x : ℕ) (t : Bool) → eqb (x % 2) 1 ≡ t → bool_byte t ≡ x % 2
bit_by x t e = sym (ap bool_byte e) ∙ both (x % 2) (omega arith)
  where
    both : (y : ℕ) → y < 2 → bool_byte (eqb y 1) ≡ y
    both zero h = refl
    both (suc zero) h = refl
    both (suc (suc y)) h = absurd (omega arith)

lowest : (x : ℕ) → bool_byte (bit_of x 0) ≡ x % 2
lowest x =
    let e : x / 2 ^ 0 ≡ x = omega arith in
    ap (λ (y : ℕ). bool_byte (eqb (y % 2) 1)) e ∙ bit_by x (eqb (x % 2) 1) refl

next_bit : (x i : ℕ) → bit_of x (suc i) ≡ bit_of (x / 2) i
next_bit x i = rw (pow-succ' 2 i, ← div-div-eq-div-mul x 2 (2 ^ i))

byte_is : (k x : ℕ) → x < 2 ^ k → byte_of (rows k (bit_of x)) ≡ x
byte_is zero x h = omega arith
byte_is (suc k) x h =
    let e : 2 ^ suc k ≡ 2 ^ k * 2 = pow-suc 2 k in
    let p : byte_of (rows k (λ i. bit_of x (suc i))) ≡ x / 2 =
    ap byte_of (rows_same k (λ i. bit_of x (suc i)) (bit_of (x / 2)) (λ i l. next_bit x i)) ∙ byte_is k (x / 2) (omega arith) in
    omega (arith, lowest x)

below_at : (k : ℕ) (bs : List ℕ) (i : ℕ) → 0 < k → Below k bs → get_or bs i 0 < k
below_at k [] i p h = p
below_at k (b ∷ bs) zero p h = h.0
below_at k (b ∷ bs) (suc i) p h = below_at k bs i p h.1

-- whole bytes of bits are the bytes
module _ (bs : List ℕ) (a q : ℕ) (z : a % 8 ≡ 0) (g : Below 256 (cut (a / 8) q bs)) where
  one_byte : (i : ℕ) → i < q → byte_of (cut (8 * i) 8 (rows (8 * q) (λ r. bit_at bs (a + r)))) ≡ get_or bs (a / 8 + i) 0
  one_byte i l =
      ap byte_of
      (cut-rows (8 * i) 8 (8 * q) (λ r. bit_at bs (a + r)) (omega arith)
      ∙ rows_same 8 (λ j. bit_at bs (a + (8 * i + j))) (bit_of (get_or bs (a / 8 + i) 0))
      (λ j m.
      let d : (a + (8 * i + j)) / 8 ≡ a / 8 + i = omega arith in
      let e : (a + (8 * i + j)) % 8 ≡ j = omega arith in
      ap₂ (λ (x y : ℕ). bit_of (get_or bs x 0) y) d e))
      ∙ byte_is 8 (get_or bs (a / 8 + i) 0) (subst (λ (x : ℕ). x < 256) (get_or_cut (a / 8) q bs i 0 l) (below_at 256 (cut (a / 8) q bs) i (omega arith) g))

  whole_bytes : a / 8 + q ≤ length bs → pack (rows (8 * q) (λ r. bit_at bs (a + r))) ≡ cut (a / 8) q bs
  whole_bytes l =
      let m : length (rows (8 * q) (λ r. bit_at bs (a + r))) ≡ 8 * q = length-rows (8 * q) (λ r. bit_at bs (a + r)) in
      let k : bytes_for (length (rows (8 * q) (λ r. bit_at bs (a + r)))) ≡ q = omega arith in
      let c : length (cut (a / 8) q bs) ≡ q = length_cut (a / 8) q bs l in
      ap (λ (x : ℕ). rows x (λ i. byte_of (cut (8 * i) 8 (rows (8 * q) (λ r. bit_at bs (a + r)))))) k
      ∙ rows_same q (λ i. byte_of (cut (8 * i) 8 (rows (8 * q) (λ r. bit_at bs (a + r))))) (λ i. get_or (cut (a / 8) q bs) i 0)
      (λ i h. one_byte i h ∙ sym (get_or_cut (a / 8) q bs i 0 h))
      ∙ ap (λ (x : ℕ). rows x (λ i. get_or (cut (a / 8) q bs) i 0)) (sym c)
      ∙ rows_get_or (cut (a / 8) q bs) 0

module _ (bs : List ℕ) (a c : ℕ) where
  abbrev spares : Bool → ℕ
  spares t = cond t (8 * bytes_for c - c) 0

  abbrev all_bits : Bool → List Bool
  all_bits t = rows c (λ r. bit_at bs (a + r)) ++ rows (spares t) (λ r. bit_at bs (a + c + r))

  length-bits : (t : Bool) → length (all_bits t) ≡ c + spares t
  length-bits t =
      length-append (rows c (λ r. bit_at bs (a + r))) (rows (spares t) (λ r. bit_at bs (a + c + r)))
      ∙ ap₂ (λ (x y : ℕ). x + y) (length-rows c (λ r. bit_at bs (a + r))) (length-rows (spares t) (λ r. bit_at bs (a + c + r)))

  size_by : (t : Bool) → length (pack (all_bits t)) ≡ bytes_for c
  size_by true = length-pack (all_bits true) ∙ ap bytes_for (length-bits true) ∙ omega arith
  size_by false = length-pack (all_bits false) ∙ ap bytes_for (length-bits false) ∙ omega arith

  joined : all_bits true ≡ rows (8 * bytes_for c) (λ r. bit_at bs (a + r))
  joined =
      let e : c + (8 * bytes_for c - c) ≡ 8 * bytes_for c = omega arith in
      ap (λ (x : List Bool). rows c (λ r. bit_at bs (a + r)) ++ x)
      (rows_same (8 * bytes_for c - c) (λ r. bit_at bs (a + c + r)) (λ r. bit_at bs (a + (c + r)))
      (λ r l. let d : a + c + r ≡ a + (c + r) = omega arith in ap (bit_at bs) d))
      ∙ rows_add c (8 * bytes_for c - c) (λ r. bit_at bs (a + r))
      ∙ ap (λ (x : ℕ). rows x (λ r. bit_at bs (a + r))) e

  pub bits_made : BitsMade bs a c
  bits_made = record {
    size = size_by (eqb (a % 8) 0);
    bit = λ r l. bits_at_lem (bits_at bs a c) r (omega (arith, length-rows c (λ i. bit_at bs (a + i)))) ∙ get_or_rows c (λ i. bit_at bs (a + i)) r false l;
    clear = λ p r l.
        ap (λ (t : Bool). bit_at (pack (all_bits t)) r) (ne_eqb (a % 8) 0 (λ e. omega arith))
        ∙ past_bit (all_bits false) r (omega (arith, length-bits false));
    unchanged = λ z g l.
        ap (λ (t : Bool). pack (all_bits t)) (eq-eqb (a % 8) 0 z) ∙ ap pack joined ∙ whole_bytes bs a (bytes_for c) z g l;
  }

-- ---- what is copied, and the offsets that are made

-- offsets from 0 are the old ones, each less the first
pub offsets_from : (c b : ℕ) (s : ℕ → ℕ) → b ≤ s 0 → ((i : ℕ) → i < c → s i ≤ s (suc i))
    → offsets (s 0 - b) (rows c (λ i. s (suc i) - s i)) ≡ rows (suc c) (λ i. s i - b)
offsets_from zero b s g h = refl
offsets_from (suc c) b s g h =
    let l : s 0 ≤ s 1 = h 0 (omega arith) in
    let e : s 0 - b + (s 1 - s 0) ≡ s 1 - b = omega arith in
    ap {B = List ℕ} (λ ns. (s 0 - b) ∷ ns)
    (ap (λ (n : ℕ). offsets n (rows c (λ i. s (suc (suc i)) - s (suc i)))) e ∙ offsets_from c b (λ i. s (suc i)) (omega arith) (λ i m. h (suc i) (omega arith)))

module _ (bs : List ℕ) (w : ℕ) (n : Node) (a c : ℕ) where
  pub slots_joined : join_all (rows c (λ r. slot_at bs w n (a + r))) ≡ cut (n.slots + (n.from + a) * w) (c * w) bs
  slots_joined =
      let s : ℕ → ℕ = λ i. n.slots + (n.from + (a + i)) * w in
      ap join_all (rows_same c (λ r. slot_at bs w n (a + r)) (λ i. cut (s i) (s (suc i) - s i) bs)
      (λ i l. ap (λ (x : ℕ). cut (s i) x bs) (step i)))
      ∙ join_cuts c s bs (λ i l. up i)
      ∙ ap₂ (λ (x y : ℕ). cut x y bs) first last
    where
      next : (i : ℕ) → (n.from + (a + suc i)) * w ≡ (n.from + (a + i)) * w + w
      next i =
          let e : n.from + (a + suc i) ≡ suc (n.from + (a + i)) = omega arith in
          ap (λ (x : ℕ). x * w) e ∙ suc-mul (n.from + (a + i)) w

      step : (i : ℕ) → w ≡ n.slots + (n.from + (a + suc i)) * w - (n.slots + (n.from + (a + i)) * w)
      step i = omega (arith, next i)

      up : (i : ℕ) → n.slots + (n.from + (a + i)) * w ≤ n.slots + (n.from + (a + suc i)) * w
      up i = omega (arith, next i)

      first : n.slots + (n.from + (a + 0)) * w ≡ n.slots + (n.from + a) * w
      first = ap (λ (x : ℕ). n.slots + (n.from + x) * w) (add-zero a)

      far : (k : ℕ) → (n.from + (a + k)) * w ≡ (n.from + (a + 0)) * w + k * w
      far zero = omega arith
      far (suc k) = omega (arith, next k, far k, suc-mul k w)

      last : n.slots + (n.from + (a + c)) * w - (n.slots + (n.from + (a + 0)) * w) ≡ c * w
      last = omega (arith, far c)

  module _ (most : ℕ) (h : Rising bs w n most) (l : a + c ≤ n.rows) where
    start : offset_at bs w n (a + 0) ≡ offset_at bs w n a
    start = ap (offset_at bs w n) (add-zero a)

    pub offsets_are : offsets 0 (rows c (λ r. count_at bs w n (a + r))) ≡ rows (suc c) (λ i. offset_at bs w n (a + i) - offset_at bs w n a)
    offsets_are =
        let z : 0 ≡ offset_at bs w n (a + 0) - offset_at bs w n (a + 0) = omega arith in
        ap₂ offsets z (counts_are bs w n most h a c l)
        ∙ offsets_from c (offset_at bs w n (a + 0)) (λ i. offset_at bs w n (a + i)) (omega arith) (slot_rises bs w n most h a c l)
        ∙ ap (λ (x : ℕ). rows (suc c) (λ i. offset_at bs w n (a + i) - x)) start

    pub strings_joined : join_all (rows c (λ r. string_at bs w n (a + r))) ≡ cut (n.«data» + offset_at bs w n a) (offset_at bs w n (a + c) - offset_at bs w n a) bs
    strings_joined =
        let s : ℕ → ℕ = λ i. n.«data» + offset_at bs w n (a + i) in
        ap join_all (rows_same c (λ r. string_at bs w n (a + r)) (λ i. cut (s i) (s (suc i) - s i) bs) (λ i m. ap (λ (x : ℕ). cut (s i) x bs) (step i)))
        ∙ join_cuts c s bs (λ i m. omega (arith, slot_rises bs w n most h a c l i m))
        ∙ ap₂ (λ (x y : ℕ). cut x y bs) (ap (λ (x : ℕ). n.«data» + x) start) (omega (arith, start))
      where
        step : (i : ℕ) → count_at bs w n (a + i) ≡ n.«data» + offset_at bs w n (a + suc i) - (n.«data» + offset_at bs w n (a + i))
        step i =
            let e : a + i + 1 ≡ a + suc i = omega arith in
            ap (λ (k : ℕ). offset_at bs w n k - offset_at bs w n (a + i)) e ∙ omega arith

pub places : Places
places = record { bits = bits_made; copied = λ bs w n a c. record { slots = slots_joined bs w n a c; offsets = offsets_are bs w n a c; strings = strings_joined bs w n a c } }
