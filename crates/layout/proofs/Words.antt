-- Bits that are 0, counted by bytes and by words.
use Rattle.std.proofs.Common.{◌≡◌, ℕ, zero, suc, ◌+◌, ◌-◌, ◌*◌, ◌/◌, ◌%◌, ◌^◌, ◌<◌, ◌≤◌, min, Bool, true, false, cond, eqb, List, [], ◌∷◌, length, get_or, take, drop, not, count_by, sum_by, sym, refl, ap, ◌∙◌, ap₂, mul_comm, add_comm, pow-suc, arith, length-drop, length-take-le, get_or-drop, take_all, get_or-take, drop-drop}
use native.Mathlib.Nat.{div-div-eq-div-mul}
use lib.Count.{ones, ones_step, ones_cat}
use Rattle.std.specs.Simd.{first_chunks}
use Rattle.std.proofs.lemmas.List.Sums.{sum_by-cons, sum_by_more, sum_by-take-drop}
use Rattle.layout.specs.Lists.{rows}
use Rattle.layout.specs.Bits.{bit_of, bit_at, zeros, zeros_of, zeros_in}
use Rattle.layout.specs.Numbers.{unle}
use Rattle.layout.proofs.Lists.{rows_same, length-rows}
use Rattle.layout.proofs.Numbers.{read_8}
use Rattle.layout.proofs.Bits.{zeros_first, zeros_by}
use Rattle.layout.specs.declared.bit.BitSlice.{BitSlice}
use Rattle.layout.specs.BitSlices.{bit_in, IsPart}
use Rattle.std.specs.List.{range_with_len}

-- ---- splitting a row

pub zeros_add : (a b : ℕ) (f : ℕ → Bool) → zeros (rows (a + b) f) ≡ zeros (rows a f) + zeros (rows b (λ i. f (a + i)))
zeros_add zero b f =
    let e : zero + b ≡ b = omega arith in
    rw e (ap zeros (rows_same b f (λ i. f (0 + i)) (λ r h. ap f (omega arith))) ∙ omega arith)
zeros_add (suc a) b f =
    let e : suc a + b ≡ suc (a + b) = omega arith in
    let ih = zeros_add a b (λ i. f (suc i)) in
    let s = ap zeros (rows_same b (λ i. f (suc (a + i))) (λ i. f (suc a + i)) (λ r h. ap f (omega arith))) in
    let x = zeros_first (f 0) (rows (a + b) (λ i. f (suc i))) in
    let y = zeros_first (f 0) (rows a (λ i. f (suc i))) in
    rw e (omega arith)

-- ---- the bits of a number

-- a number's low bits that are 0 are the bits of its complement that are 1
pub zeros-ones : (k x : ℕ) → x < 2 ^ k → zeros (rows k (bit_of x)) ≡ ones (2 ^ k - 1 - x)
unfolding ones
zeros-ones zero x h = let e : 2 ^ 0 - 1 - x ≡ 0 = omega arith in rw e
zeros-ones (suc k) x h =
    let p : 2 ^ suc k ≡ 2 ^ k * 2 = pow-suc 2 k in
    let y = 2 ^ suc k - 1 - x in
    let half : y / 2 ≡ 2 ^ k - 1 - x / 2 = omega arith in
    let low : y % 2 ≡ 1 - x % 2 = omega arith in
    let ih = zeros-ones k (x / 2) (omega arith) in
    zeros_first (bit_of x 0) (rows k (λ i. bit_of x (suc i)))
    ∙ ap₂ ◌+◌ (flipped x) (ap zeros (rows_same k (λ i. bit_of x (suc i)) (bit_of (x / 2)) (λ i l. next x i)) ∙ ih)
    ∙ ap₂ (λ (a b : ℕ). a + ones b) (sym low) (sym half)
    ∙ sym (ones_step y)
  where
    low_bit : (r : ℕ) → r < 2 → cond (eqb r 1) 0 1 ≡ 1 - r
    low_bit zero h = refl
    low_bit (suc zero) h = refl
    low_bit (suc (suc r)) h = absurd (omega arith)

    flipped : (x : ℕ) → cond (bit_of x 0) 0 1 ≡ 1 - x % 2
    flipped x = let e : x / 2 ^ 0 ≡ x = omega arith in rw e (low_bit (x % 2) (omega arith))

    next : (x i : ℕ) → bit_of x (suc i) ≡ bit_of (x / 2) i
    next x i = ap (λ (q : ℕ). eqb (q % 2) 1) (ap (λ (q : ℕ). x / q) (pow-suc 2 i ∙ mul_comm (2 ^ i) 2) ∙ sym (div-div-eq-div-mul x 2 (2 ^ i)))

-- ---- the bits of bytes

bit_after : (b : ℕ) (bs : List ℕ) (i : ℕ) → bit_at (b ∷ bs) (8 + i) ≡ bit_at bs i
bit_after b bs i =
    let q : (8 + i) / 8 ≡ suc (i / 8) = omega arith in
    let r : (8 + i) % 8 ≡ i % 8 = omega arith in
    rw (q, r)

bit_first : (b : ℕ) (bs : List ℕ) (i : ℕ) → i < 8 → bit_at (b ∷ bs) i ≡ bit_of b i
bit_first b bs i h =
    let q : i / 8 ≡ 0 = omega arith in
    let r : i % 8 ≡ i = omega arith in
    rw (q, r)

zeros_cons : (b : ℕ) (bs : List ℕ) → zeros_in (b ∷ bs) ≡ zeros_of b + zeros_in bs
zeros_cons b bs =
    let m : ℕ = 8 * length bs in
    let e : 8 * length (b ∷ bs) ≡ 8 + m = omega arith in
    ap (λ (k : ℕ). zeros (rows k (bit_at (b ∷ bs)))) e
    ∙ zeros_add 8 m (bit_at (b ∷ bs))
    ∙ ap₂ ◌+◌ (ap zeros (rows_same 8 (bit_at (b ∷ bs)) (bit_of b) (bit_first b bs)))
    (ap zeros (rows_same m (λ i. bit_at (b ∷ bs) (8 + i)) (bit_at bs) (λ i h. bit_after b bs i)))

-- each byte adds its own
zeros_in_lem : (bs : List ℕ) → zeros_in bs ≡ sum_by zeros_of bs
zeros_in_lem [] = refl
zeros_in_lem (b ∷ bs) = zeros_cons b bs ∙ ap (λ (n : ℕ). zeros_of b + n) (zeros_in_lem bs) ∙ sym (sum_by-cons zeros_of b bs)

-- one byte more
pub zeros_in_more : (bs : List ℕ) (i : ℕ) → i < length bs → get_or bs i 0 < 256 → zeros_in (take (i + 1) bs) ≡ zeros_in (take i bs) + ones (255 - get_or bs i 0)
zeros_in_more bs i h l =
    zeros_in_lem (take (i + 1) bs) ∙ sum_by_more zeros_of bs i 0 h
    ∙ ap₂ ◌+◌ (sym (zeros_in_lem (take i bs))) (zeros-ones 8 (get_or bs i 0) l)

-- bytes cut in two
zeros_in_parts : (k : ℕ) (bs : List ℕ) → zeros_in (take k bs) + zeros_in (drop k bs) ≡ zeros_in bs
zeros_in_parts k bs =
    ap₂ ◌+◌ (zeros_in_lem (take k bs)) (zeros_in_lem (drop k bs)) ∙ sum_by-take-drop zeros_of bs k ∙ sym (zeros_in_lem bs)

-- the words of bytes, and what is left of the bytes
pub zeros_in_chunks : (k : ℕ) (bs : List ℕ) → sum_by zeros_in (first_chunks 8 k bs) + zeros_in (drop (k * 8) bs) ≡ zeros_in bs
zeros_in_chunks zero bs = omega arith
zeros_in_chunks (suc k) bs =
    let e : 8 + k * 8 ≡ suc k * 8 = omega arith in
    let left : drop (suc k * 8) bs ≡ drop (k * 8) (drop 8 bs) = ap (λ (m : ℕ). drop m bs) (sym e) ∙ sym (drop-drop (k * 8) 8 bs) in
    let a = sum_by-cons zeros_in (take 8 bs) (first_chunks 8 k (drop 8 bs)) in
    let b = zeros_in_chunks k (drop 8 bs) in
    let d = ap zeros_in left in
    omega (arith, zeros_in_parts 8 bs)

-- no more than there are
zeros_most : (bs : List Bool) → zeros bs ≤ length bs
zeros_most [] = omega arith
zeros_most (true ∷ bs) = omega (arith, zeros_most bs)
zeros_most (false ∷ bs) = omega (arith, zeros_most bs)

-- words, and what is left of the bytes
pub words_and_rest : (bs : List ℕ) (words : List (List ℕ)) (rest : List ℕ) → words ≡ first_chunks 8 (length bs / 8) bs → rest ≡ drop (length bs / 8 * 8) bs
    → (sum_by zeros_in words + sum_by zeros_of rest ≡ zeros_in bs) × (zeros_in bs ≤ 8 * length bs)
words_and_rest bs words rest e f = (
  ap₂ ◌+◌ (ap (sum_by zeros_in) e) (ap (sum_by zeros_of) f ∙ sym (zeros_in_lem (drop (length bs / 8 * 8) bs))) ∙ zeros_in_chunks (length bs / 8) bs,
  omega (arith, zeros_most (rows (8 * length bs) (bit_at bs)), length-rows (8 * length bs) (bit_at bs)),
)

-- ---- a word

-- bytes as one number
zeros-unle : (bs : List ℕ) → ((i : ℕ) → get_or bs i 0 < 256) → (unle bs < 256 ^ length bs) × (zeros_in bs ≡ ones (256 ^ length bs - 1 - unle bs))
unfolding ones
zeros-unle [] h = (omega arith, refl)
zeros-unle (b ∷ bs) h =
    let ih = zeros-unle bs (λ i. h (suc i)) in
    let l : b < 256 = h 0 in
    let m : ℕ = 256 ^ length bs in
    let u : ℕ = unle bs in
    let p : 256 ^ suc (length bs) ≡ m * 256 = pow-suc 256 (length bs) in
    let e : 256 ^ suc (length bs) - 1 - (b + 256 * u) ≡ (m - 1 - u) * 256 + (255 - b) = omega (arith, ih.0) in
    let s : 255 - b < 256 = omega arith in (
      omega (arith, ih.0),
      zeros_cons b bs ∙ ap₂ ◌+◌ (zeros-ones 8 b l) ih.1 ∙ add_comm (ones (255 - b)) (ones (m - 1 - u)) ∙ sym (ones_cat 8 (m - 1 - u) (255 - b) s) ∙ ap ones (sym e),
    )

-- a word of eight bytes
pub zeros_word : (bs : List ℕ) (x : ℕ) → length bs ≡ 8 → ((i : ℕ) → get_or bs i 0 < 256) → x ≡ unle bs → ones (18446744073709551615 - x) ≡ zeros_in bs
zeros_word bs x e h g = rw g (ap (λ (k : ℕ). ones (256 ^ k - 1 - unle bs)) (sym e) ∙ sym (zeros-unle bs h).1)

-- the number that eight bytes spell, as the machine sums it
pub unle_8 : (bs : List ℕ) → length bs ≡ 8
    → unle bs ≡ get_or bs 0 0 + get_or bs 1 0 * 256 + get_or bs 2 0 * 65536 + get_or bs 3 0 * 16777216 + get_or bs 4 0 * 4294967296 + get_or bs 5 0 * 1099511627776 + get_or bs 6 0 * 281474976710656 + get_or bs 7 0 * 72057594037927936
unle_8 bs e = ap unle (sym (take_all 8 bs (omega arith))) ∙ read_8 bs 0 (omega arith)

-- ---- whole bytes between bits

-- whole bytes from byte q on are the bits from a byte's edge on
zeros_whole : (bs : List ℕ) (p s q k w : ℕ) → q ≡ p + s / 8 → k ≡ w → (0 < w → s % 8 ≡ 0) → q + w ≤ length bs → zeros_in (take k (drop q bs)) ≡ zeros (rows (8 * w) (λ i. bit_at (drop p bs) (s + i)))
zeros_whole bs p s q k w e f edge h =
    let len : length (take k (drop q bs)) ≡ w = length-take-le k (drop q bs) (simp length-drop (omega arith)) ∙ f in
    ap (λ (m : ℕ). zeros (rows (8 * m) (bit_at (take k (drop q bs))))) len
    ∙ ap zeros (rows_same (8 * w) (bit_at (take k (drop q bs))) (λ i. bit_at (drop p bs) (s + i)) same)
  where
    same : (i : ℕ) → i < 8 * w → bit_at (take k (drop q bs)) i ≡ bit_at (drop p bs) (s + i)
    same i l =
        let z : s % 8 ≡ 0 = edge (omega arith) in
        let at : q + i / 8 ≡ p + (s + i) / 8 = omega arith in
        let bit : i % 8 ≡ (s + i) % 8 = omega arith in
        ap₂ bit_of
        (get_or-take k (drop q bs) (i / 8) 0 (omega arith) ∙ get_or-drop q bs (i / 8) 0 ∙ ap (λ (j : ℕ). get_or bs j 0) at ∙ sym (get_or-drop p bs ((s + i) / 8) 0))
        bit

-- bits up to a byte's edge, whole bytes, and bits after them
pub zeros_three : (bs : List ℕ) (p s n a w b q k : ℕ) → n ≡ a + 8 * w + b → q ≡ p + (s + a) / 8 → k ≡ w → (0 < w → (s + a) % 8 ≡ 0) → q + w ≤ length bs
    → zeros (rows a (λ i. bit_at (drop p bs) (s + i))) + zeros_in (take k (drop q bs)) + zeros (rows b (λ i. bit_at (drop p bs) (s + a + 8 * w + i)))
    ≡ zeros (rows n (λ i. bit_at (drop p bs) (s + i)))
zeros_three bs p s n a w b q k e at f edge h =
    let g : ℕ → Bool = λ i. bit_at (drop p bs) (s + i) in
    let one = zeros_add (a + 8 * w) b g in
    let two = zeros_add a (8 * w) g in
    let mid = zeros_whole bs p (s + a) q k w at f edge h ∙ ap zeros (rows_same (8 * w) (λ i. bit_at (drop p bs) (s + a + i)) (λ i. g (a + i)) (λ i l. ap (bit_at (drop p bs)) (omega arith))) in
    let end = ap zeros (rows_same b (λ i. bit_at (drop p bs) (s + a + 8 * w + i)) (λ i. g (a + 8 * w + i)) (λ i l. ap (bit_at (drop p bs)) (omega arith))) in
    rw e (omega arith)

-- the same of the three parts that a run is cut in, with the bits of each as those of a part
pub zeros_among : (bs : List ℕ) (s n a w b q e k : ℕ) → a ≡ min n ((8 - s % 8) % 8) → w ≡ (n - a) / 8 → a + 8 * w + b ≡ n → q ≡ (s + a) / 8 → e ≡ q + w → k ≡ e - q → e ≤ length bs
    → zeros (rows a (λ i. bit_at bs (s + (0 + i)))) + zeros_in (take k (drop q bs)) + zeros (rows b (λ i. bit_at bs (s + (a + 8 * w + i))))
    ≡ zeros (rows n (λ i. bit_at bs (s + i)))
zeros_among bs s n a w b q e k front whole all start end count h =
    let g : ℕ → Bool = λ i. bit_at bs (s + i) in
    let three = zeros_three bs 0 s n a w b q k (sym all) (omega arith) (omega arith) (λ l. omega arith) (omega arith) in
    let before = ap zeros (rows_same a (λ i. g (0 + i)) g (λ i l. ap g (omega arith))) in
    let after = ap zeros (rows_same b (λ i. g (a + 8 * w + i)) (λ i. bit_at bs (s + a + 8 * w + i)) (λ i l. ap (bit_at bs) (omega arith))) in
    omega arith

-- the bits of a part that are 0, counted one by one
pub part_zeros : (b p : BitSlice) (k n m : ℕ) → IsPart b k n p → m ≡ count_by (λ i. not (bit_in p i)) (range_with_len 0 p.len) → m ≡ zeros (rows n (λ i. bit_in b (k + i)))
part_zeros b p k n m (bytes, first, len) e =
    e
    ∙ zeros_by p.len 0 (bit_in p)
    ∙ ap (λ (n : ℕ). zeros (rows n (λ i. bit_in p (0 + i)))) len
    ∙ ap zeros (rows_same n (λ i. bit_in p (0 + i)) (λ i. bit_in b (k + i)) (λ i l. ap₂ bit_at bytes (omega arith)))
