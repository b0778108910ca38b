-- Bits that are alike, from the first on.
use Rattle.std.proofs.Common.{◌≡◌, ℕ, zero, suc, ◌+◌, ◌-◌, ◌/◌, ◌%◌, ◌^◌, ◌<◌, ◌≤◌, Bool, true, false, not, cond, eqb, List, [], ◌∷◌, length, get_or, take_while, sym, refl, ap, ◌∙◌, ap₂, arith, inl, inr, w8}
use native.Mathlib.Nat.{div-div-eq-div-mul}
use Rattle.std.specs.Int as int
use Rattle.std.specs.Int.{trailing_zeros, trailing_ones}
use Rattle.std.specs.Bool.{beq}
use Rattle.std.specs.Cmp.{booleans_Decides}
use Rattle.std.specs.List.{range_with_len}
use Rattle.std.proofs.lemmas.Bool.{cases_eq, cases_lt, eq-eqb}
use Rattle.std.proofs.lemmas.List.Sums.{take_while-cons}
use Rattle.std.proofs.lemmas.Nat.{pow-add}
use Rattle.std.proofs.lemmas.Nat.Bits.{bit_at-trailing_zeros, bit_at-trailing_ones, bit_at-zero, bit_at_ones}
use Rattle.layout.specs.declared.bit.BitSlice.{BitSlice}
use Rattle.layout.specs.Bits.{bit_of, bit_at}
use Rattle.layout.specs.BitSlices.{bit_in}

-- as many as pass, if one more does not or there is none
leading_is : (p : ℕ → Bool) (n a m : ℕ) → m ≤ n → ((i : ℕ) → i < m → p (a + i) ≡ true) → (m < n → p (a + m) ≡ false) → m ≡ length (take_while p (range_with_len a n))
leading_is p zero a m l pass stop = omega arith
leading_is p (suc n) a zero l pass stop =
    let e : p a ≡ false = ap p (omega arith) ∙ stop (omega arith) in
    sym (ap length (take_while-cons p a (range_with_len (a + 1) n) ∙ ap (λ (b : Bool). cond b (a ∷ take_while p (range_with_len (a + 1) n)) []) e))
leading_is p (suc n) a (suc m) l pass stop =
    let e : p a ≡ true = ap p (omega arith) ∙ pass 0 (omega arith) in
    let more = leading_is p n (a + 1) m (omega arith) (λ i h. ap p (omega arith) ∙ pass (suc i) (omega arith)) (λ h. ap p (omega arith) ∙ stop (omega arith)) in
    ap suc more ∙ sym (ap length (take_while-cons p a (range_with_len (a + 1) n) ∙ ap (λ (b : Bool). cond b (a ∷ take_while p (range_with_len (a + 1) n)) []) e))

-- as many bits are as one says, if one more is not or there is none
pub bits_leading : (s : BitSlice) (bit : Bool) (m : ℕ) → m ≤ s.len → ((i : ℕ) → i < m → bit_in s i ≡ bit) → (m < s.len → beq (bit_in s m) bit ≡ false)
    → m ≡ length (take_while (λ i. beq (bit_in s i) bit) (range_with_len 0 s.len))
bits_leading s bit m l alike stop =
    let p : ℕ → Bool = λ i. beq (bit_in s i) bit in
    leading_is p s.len 0 m l
    (λ i h. ap p (omega arith) ∙ (booleans_Decides (bit_in s i) bit).1 (alike i h))
    (λ h. ap p (omega arith) ∙ stop h)

-- and more, where those after them are so
pub alike_more : (s : BitSlice) (bit : Bool) (m n : ℕ) → ((i : ℕ) → i < m → bit_in s i ≡ bit) → ((i : ℕ) → i < n → bit_in s (m + i) ≡ bit) → (i : ℕ) → i < m + n → bit_in s i ≡ bit
alike_more s bit m n before after i h = elim (cases_lt i m) [
  | inl l ↦ before i l
  | inr g ↦ ap (bit_in s) (omega arith) ∙ after (i - m) (omega arith)
]

-- ---- the bits of a byte

none_set : trailing_zeros w8 0 ≡ 8
unfolding int.Count.count_trailing_zeros
none_set = refl

ones_alike : (b : ℕ) → b < 256 → (i : ℕ) → i < trailing_ones w8 b → int.bit_at b i ≡ 1
ones_alike b l i h = elim (cases_eq b 255) [
  | inl e ↦
      let few : i < 8 = omega (arith, ap (trailing_ones w8) e, none_set) in
      rw e (bit_at_ones 8 i few)
  | inr ne ↦ (bit_at-trailing_ones w8 b (omega arith)).2 i h
]

ones_end : (b : ℕ) → b < 256 → (trailing_ones w8 b ≤ 8) × (trailing_ones w8 b < 8 → int.bit_at b (trailing_ones w8 b) ≡ 0)
ones_end b l = elim (cases_eq b 255) [
  | inl e ↦
      let eight : trailing_ones w8 b ≡ 8 = ap (trailing_ones w8) e ∙ none_set in
      (omega (arith, eight), λ h. absurd (omega (arith, eight)))
  | inr ne ↦
      let t = bit_at-trailing_ones w8 b (omega arith) in
      (omega (arith, t.0), λ h. t.1)
]

zeros_alike : (b : ℕ) → b < 256 → (i : ℕ) → i < trailing_zeros w8 b → int.bit_at b i ≡ 0
zeros_alike b l i h = elim (cases_eq b 0) [
  | inl e ↦ rw e (bit_at-zero i)
  | inr ne ↦ (bit_at-trailing_zeros w8 b (omega arith) (omega arith)).2 i h
]

zeros_end : (b : ℕ) → b < 256 → (trailing_zeros w8 b ≤ 8) × (trailing_zeros w8 b < 8 → int.bit_at b (trailing_zeros w8 b) ≡ 1)
zeros_end b l = elim (cases_eq b 0) [
  | inl e ↦
      let eight : trailing_zeros w8 b ≡ 8 = ap (trailing_zeros w8) e ∙ none_set in
      (omega (arith, eight), λ h. absurd (omega (arith, eight)))
  | inr ne ↦
      let t = bit_at-trailing_zeros w8 b (omega arith) (omega arith) in
      (omega (arith, t.0), λ h. t.1)
]

-- as many lowest bits are as one says
pub record Trails (b : ℕ) (bit : Bool) (n : ℕ) : Type 0 where
  pub alike : (i : ℕ) → i < n → bit_of b i ≡ bit
  pub most : n ≤ 8
  pub ends : n < 8 → bit_of b n ≡ not bit

ones_trail : (b : ℕ) → b < 256 → Trails b true (trailing_ones w8 b)
ones_trail b l =
    let t = ones_end b l in
    record { alike = λ i h. eq-eqb (int.bit_at b i) 1 (ones_alike b l i h); most = t.0; ends = λ h. ap (λ (n : ℕ). eqb n 1) (t.1 h) }

zeros_trail : (b : ℕ) → b < 256 → Trails b false (trailing_zeros w8 b)
zeros_trail b l =
    let t = zeros_end b l in
    record { alike = λ i h. ap (λ (n : ℕ). eqb n 1) (zeros_alike b l i h); most = t.0; ends = λ h. ap (λ (n : ℕ). eqb n 1) (t.1 h) }

pub ones_counted : (b : ℕ) (bit : Bool) (n : ℕ) → b < 256 → bit ≡ true → n ≡ trailing_ones w8 b → Trails b bit n
ones_counted b bit n l e f = rw (e, f) (ones_trail b l)

pub zeros_counted : (b : ℕ) (bit : Bool) (n : ℕ) → b < 256 → bit ≡ false → n ≡ trailing_zeros w8 b → Trails b bit n
zeros_counted b bit n l e f = rw (e, f) (zeros_trail b l)

-- the bits of a byte from one on, up to its end
pub in_byte : (bs : List ℕ) (p i : ℕ) → i < 8 - p % 8 → bit_at bs (p + i) ≡ bit_of (get_or bs (p / 8) 0 / 2 ^ (p % 8)) i
in_byte bs p i h =
    let q : (p + i) / 8 ≡ p / 8 = omega arith in
    let r : (p + i) % 8 ≡ p % 8 + i = omega arith in
    ap₂ (λ (b k : ℕ). bit_of (get_or bs b 0) k) q r ∙ shifted (get_or bs (p / 8) 0) (p % 8) i
  where
    shifted : (b k i : ℕ) → bit_of b (k + i) ≡ bit_of (b / 2 ^ k) i
    shifted b k i = ap (λ (n : ℕ). eqb (n % 2) 1) (ap (λ (n : ℕ). b / n) (pow-add 2 k i) ∙ sym (div-div-eq-div-mul b (2 ^ k) (2 ^ i)))
