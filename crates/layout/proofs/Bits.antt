-- Bits of bytes.
use Rattle.std.proofs.Common.{◌≡◌, ℕ, zero, suc, ◌+◌, ◌*◌, ◌/◌, ◌%◌, ◌^◌, ◌<◌, ◌≤◌, Bool, true, false, cond, not, ◌&&◌, ◌||◌, eqb, List, [], ◌∷◌, count_by, sum_by, get_or, sym, refl, ap, ◌∙◌, ap₂, mod-eq_of_lt, suc-mul, add_comm, pow-suc, zero-mul, arith}
use native.Mathlib.Nat.{pow-succ', div-div-eq-div-mul, zero-div}
use lib.Bits.{bit_and}
use mir.Val.{bool_byte}
use Rattle.std.specs.List.{range_with_len}
use Rattle.std.proofs.lemmas.Nat.{pow_pos, shr_split, shr_high, mod_low, and_le_l, and_comm, and_mask, and_shr, and_mod, mul-le}
use Rattle.std.proofs.lemmas.Bool.{and_right, eq-eqb, ne_eqb}
use Rattle.std.proofs.lemmas.List.Sums.{sum_by-cons, count_by-le-length}
use Rattle.std.proofs.lemmas.List.FromFn.{length-range_with_len}
use Rattle.layout.specs.declared.bit.BitSlice.{BitSlice}
use Rattle.layout.specs.BitSlices.{bit_in}
use Rattle.layout.specs.Lists.{rows, every}
use Rattle.layout.proofs.Every.{turned}
use Rattle.layout.proofs.Lists.{rows_same}
use Rattle.layout.specs.Bits.{bit_of, byte_of, zeros}

pub zeros_first : (b : Bool) (bs : List Bool) → zeros (b ∷ bs) ≡ cond b 0 1 + zeros bs
zeros_first true bs = omega arith
zeros_first false bs = omega arith

-- they are the numbers of a range whose bit is 0
pub zeros_by : (n a : ℕ) (f : ℕ → Bool) → count_by (λ i. not (f i)) (range_with_len a n) ≡ zeros (rows n (λ i. f (a + i)))
zeros_by zero a f = refl
zeros_by (suc n) a f =
    let here : f a ≡ f (a + 0) = ap f (omega arith) in
    let later : rows n (λ i. f (a + 1 + i)) ≡ rows n (λ i. f (a + suc i)) = rows_same n (λ i. f (a + 1 + i)) (λ i. f (a + suc i)) (λ i l. ap f (omega arith)) in
    let one : ℕ → ℕ = λ i. cond (not (f i)) 1 0 in
    let flag : Bool → ℕ = λ b. cond b 0 1 in
    sum_by-cons one a (range_with_len (a + 1) n)
    ∙ ap₂ ◌+◌ (flipped (f a) ∙ ap flag here) (zeros_by n (a + 1) f ∙ ap zeros later)
    ∙ sym (zeros_first (f (a + 0)) (rows n (λ i. f (a + suc i))))
  where
    flipped : (b : Bool) → cond (not b) (suc zero) zero ≡ cond b zero (suc zero)
    flipped true = refl
    flipped false = refl

-- the sum of bits, each as a number, is how many are 1
pub counted : (n a : ℕ) (f : ℕ → Bool) → sum_by (λ i. bool_byte (not (f i))) (range_with_len a n) ≡ count_by (λ i. not (f i)) (range_with_len a n)
counted zero a f = refl
counted (suc n) a f =
    sum_by-cons (λ i. bool_byte (not (f i))) a (range_with_len (a + 1) n)
    ∙ ap₂ ◌+◌ (byte (not (f a))) (counted n (a + 1) f)
    ∙ sym (sum_by-cons (λ i. cond (not (f i)) 1 0) a (range_with_len (a + 1) n))
  where
    byte : (b : Bool) → bool_byte b ≡ cond b 1 0
    byte true = refl
    byte false = refl

pub summed_le : (b : BitSlice) → sum_by (λ i. bool_byte (not (bit_in b i))) (range_with_len 0 b.len) ≤ b.len
summed_le b = omega (arith, counted b.len 0 (bit_in b), count_by-le-length (λ i. not (bit_in b i)) (range_with_len 0 b.len), length-range_with_len 0 b.len)

pub one_at_most : (b : Bool) → bool_byte b ≤ 1
one_at_most true = omega arith
one_at_most false = omega arith

-- ---- flags against a mask

-- n flags as a number, the first the lowest bit
abbrev pub flags : ℕ → (ℕ → Bool) → ℕ
flags zero f = 0
flags (suc n) f = flags n f + bool_byte (f n) * 2 ^ n

pub flags_small : (n : ℕ) (f : ℕ → Bool) → flags n f < 2 ^ n
flags_small zero f = omega arith
flags_small (suc n) f = rw (pow-suc 2 n) (omega (arith, flags_small n f, mul-le (bool_byte (f n)) (2 ^ n) 1 (2 ^ n) (one_at_most (f n)) (omega arith)))

and_one : (b : Bool) (m : ℕ) → bit_and (bool_byte b) m ≡ bool_byte (b && eqb (m % 2) 1)
and_one false m = omega (arith, and_le_l 0 m)
and_one true m = and_comm 1 m ∙ and_mask m 1 ∙ low (m % 2) (omega arith)
  where
    low : (k : ℕ) → k < 2 → k ≡ bool_byte (eqb k 1)
    low zero h = refl
    low (suc zero) h = refl
    low (suc (suc k)) h = absurd (omega arith)

-- a number is 0 exactly if its parts are
parts_zero : (z p h l : ℕ) → z ≡ h * p + l → 0 < p → eqb z 0 ≡ (eqb l 0 && eqb h 0)
parts_zero z p zero l e s = let q : z ≡ l = e ∙ omega (arith, zero-mul p) in rw q (with_true (eqb l 0))
  where
    with_true : (b : Bool) → b ≡ (b && true)
    with_true true = refl
    with_true false = refl
parts_zero z p (suc h) l e s =
    let ne : z ≡ 0 → ⊥ = λ y. omega (arith, suc-mul h p) in
    let no : suc h ≡ 0 → ⊥ = λ y. omega arith in
    ne_eqb z 0 ne ∙ sym (and_right (eqb l 0) (eqb (suc h) 0) (ne_eqb (suc h) 0 no))

zero_byte : (b c : Bool) → eqb (bool_byte (b && c)) 0 ≡ (not c || not b)
zero_byte true true = refl
zero_byte true false = refl
zero_byte false true = refl
zero_byte false false = refl

-- no flag stands where the mask has a 1
pub flags_masked : (n : ℕ) (f : ℕ → Bool) (b : ℕ) → eqb (bit_and (flags n f) b) 0 ≡ every n (λ t. not (bit_of b t) || not (f t))
flags_masked zero f b = eq-eqb (bit_and 0 b) 0 (omega (arith, and_le_l 0 b))
flags_masked (suc n) f b =
    let x = flags (suc n) f in
    let z = bit_and x b in
    let p = 2 ^ n in
    let up : z / p ≡ bool_byte (f n && bit_of b n) = and_shr x b n ∙ ap (λ (m : ℕ). bit_and m (b / p)) (shr_high' n f) ∙ and_one (f n) (b / p) in
    let low : z % p ≡ bit_and (flags n f) b =
    and_mod x b n ∙ ap (λ (m : ℕ). bit_and m (b % p)) (low_flags n f ∙ sym (mod-eq_of_lt (flags_small n f)))
    ∙ sym (and_mod (flags n f) b n) ∙ mod-eq_of_lt (below (bit_and (flags n f) b) (flags n f) p (and_le_l (flags n f) b) (flags_small n f)) in
    let split : z ≡ bool_byte (f n && bit_of b n) * p + bit_and (flags n f) b = sym (shr_split z n) ∙ ap₂ (λ (h l : ℕ). h * p + l) up low in
    parts_zero z p (bool_byte (f n && bit_of b n)) (bit_and (flags n f) b) split (pow_pos n)
    ∙ ap₂ ◌&&◌ (flags_masked n f b) (zero_byte (f n) (bit_of b n))
    ∙ turned (every n (λ t. not (bit_of b t) || not (f t))) (not (bit_of b n) || not (f n))
  where
    below : (a b c : ℕ) → a ≤ b → b < c → a < c
    below a b c h l = omega arith

    shr_high' : (n : ℕ) (f : ℕ → Bool) → flags (suc n) f / 2 ^ n ≡ bool_byte (f n)
    shr_high' n f = ap (λ (m : ℕ). m / 2 ^ n) (add_comm (flags n f) (bool_byte (f n) * 2 ^ n)) ∙ shr_high (bool_byte (f n)) n (flags n f) (flags_small n f)

    low_flags : (n : ℕ) (f : ℕ → Bool) → flags (suc n) f % 2 ^ n ≡ flags n f
    low_flags n f = ap (λ (m : ℕ). m % 2 ^ n) (add_comm (flags n f) (bool_byte (f n) * 2 ^ n)) ∙ mod_low (bool_byte (f n)) n (flags n f) (flags_small n f)

-- ---- the bits of a byte that bits make

half : (b : Bool) (n : ℕ) → (bool_byte b + 2 * n) / 2 ≡ n
half true n = omega arith
half false n = omega arith

pub byte_bit : (bs : List Bool) (i : ℕ) → bit_of (byte_of bs) i ≡ get_or bs i false
byte_bit [] i = rw (zero-div (2 ^ i))
byte_bit (true ∷ bs) zero = eq-eqb ((1 + 2 * byte_of bs) / 1 % 2) 1 (omega arith)
byte_bit (false ∷ bs) zero = ne_eqb ((0 + 2 * byte_of bs) / 1 % 2) 1 (λ e. omega arith)
byte_bit (b ∷ bs) (suc i) = rw (pow-succ' 2 i, ← div-div-eq-div-mul (bool_byte b + 2 * byte_of bs) 2 (2 ^ i), half b (byte_of bs)) (byte_bit bs i)
