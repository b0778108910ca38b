-- Little-endian numbers, byte by byte.
use Rattle.std.proofs.Common.{◌≡◌, ℕ, zero, suc, ◌+◌, ◌*◌, ◌/◌, ◌%◌, ◌^◌, ◌<◌, ◌≤◌, List, [], ◌∷◌, length, get_or, take, refl, mul_assoc, pow-suc, arith}
use native.Mathlib.Nat.{div-div-eq-div-mul}
use Rattle.std.proofs.lemmas.List.{drop_more}
use Rattle.layout.specs.declared.number.Width.TheVariants.{One, Two, Four, Eight}
use Rattle.layout.specs.Lists.{cut}
use Rattle.layout.specs.Numbers.{le, unle, unsigned_at}

pub read_more : (bs : List ℕ) (w p q : ℕ) → p < length bs → q ≡ p + 1 → unle (cut p (suc w) bs) ≡ get_or bs p 0 + 256 * unle (cut q w bs)
read_more bs w p q h e = rw (e, drop_more bs p 0 h)

pub read_1 : (bs : List ℕ) (p : ℕ) → p + 1 ≤ length bs → unsigned_at bs p One ≡ get_or bs p 0
read_1 bs p h = omega (arith, read_more bs 0 p (p + 1) (omega arith) (omega arith))

pub read_2 : (bs : List ℕ) (p : ℕ) → p + 2 ≤ length bs → unsigned_at bs p Two ≡ get_or bs p 0 + get_or bs (p + 1) 0 * 256
read_2 bs p h =
    omega (
      arith,
      read_more bs 1 p (p + 1) (omega arith) (omega arith),
      read_more bs 0 (p + 1) (p + 2) (omega arith) (omega arith),
    )

pub read_4 : (bs : List ℕ) (p : ℕ) → p + 4 ≤ length bs → unsigned_at bs p Four ≡ get_or bs p 0 + get_or bs (p + 1) 0 * 256 + get_or bs (p + 2) 0 * 65536 + get_or bs (p + 3) 0 * 16777216
read_4 bs p h =
    omega (
      arith,
      read_more bs 3 p (p + 1) (omega arith) (omega arith),
      read_more bs 2 (p + 1) (p + 2) (omega arith) (omega arith),
      read_more bs 1 (p + 2) (p + 3) (omega arith) (omega arith),
      read_more bs 0 (p + 3) (p + 4) (omega arith) (omega arith),
    )

pub read_8 : (bs : List ℕ) (p : ℕ) → p + 8 ≤ length bs
    → unsigned_at bs p Eight ≡ get_or bs p 0 + get_or bs (p + 1) 0 * 256 + get_or bs (p + 2) 0 * 65536 + get_or bs (p + 3) 0 * 16777216 + get_or bs (p + 4) 0 * 4294967296 + get_or bs (p + 5) 0 * 1099511627776 + get_or bs (p + 6) 0 * 281474976710656 + get_or bs (p + 7) 0 * 72057594037927936
read_8 bs p h =
    omega (
      arith,
      read_more bs 7 p (p + 1) (omega arith) (omega arith),
      read_more bs 6 (p + 1) (p + 2) (omega arith) (omega arith),
      read_more bs 5 (p + 2) (p + 3) (omega arith) (omega arith),
      read_more bs 4 (p + 3) (p + 4) (omega arith) (omega arith),
      read_more bs 3 (p + 4) (p + 5) (omega arith) (omega arith),
      read_more bs 2 (p + 5) (p + 6) (omega arith) (omega arith),
      read_more bs 1 (p + 6) (p + 7) (omega arith) (omega arith),
      read_more bs 0 (p + 7) (p + 8) (omega arith) (omega arith),
    )

-- ---- writing

-- the lowest bytes of more
pub take-le : (w k n : ℕ) → take w (le (w + k) n) ≡ le w n
take-le zero k n = refl
take-le (suc w) k n =
    let e : suc w + k ≡ suc (w + k) = omega arith in
    rw (e, take-le w k (n / 256))

pub le_8 : (n : ℕ) → le 8 n ≡ (n % 256) ∷ (n / 256 % 256) ∷ (n / 65536 % 256) ∷ (n / 16777216 % 256) ∷ (n / 4294967296 % 256) ∷ (n / 1099511627776 % 256) ∷ (n / 281474976710656 % 256) ∷ (n / 72057594037927936 % 256) ∷ []
le_8 n = simp div-div-eq-div-mul

-- a multiple of 256 ^ w is not seen in w bytes
pub le_high : (w k n : ℕ) → le w (k * 256 ^ w + n) ≡ le w n
le_high zero k n = refl
le_high (suc w) k n =
    let e : 256 ^ suc w ≡ 256 ^ w * 256 = pow-suc 256 w in
    let m : k * 256 ^ suc w ≡ 256 * (k * 256 ^ w) = rw e (omega (arith, mul_assoc k (256 ^ w) 256)) in
    let lo : (k * 256 ^ suc w + n) % 256 ≡ n % 256 = rw m (omega arith) in
    let hi : (k * 256 ^ suc w + n) / 256 ≡ k * 256 ^ w + n / 256 = rw m (omega arith) in
    rw (lo, hi, le_high w k (n / 256))
