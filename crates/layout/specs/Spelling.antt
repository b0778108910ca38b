-- What holds of numbers and the bytes that spell them.
use Rattle.std.specs.Prelude.{◌≡◌, ℕ, zero, suc, ◌-◌, ◌*◌, ◌/◌, ◌^◌, ◌<◌, true, false, List, length, ℤ, pos, negsuc}
use Rattle.std.proofs.Common.{ltb, refl, ap, pow-suc, arith}
use Rattle.std.proofs.lemmas.Bool.{lt-ltb, le-ltb}
use Rattle.layout.specs.Numbers.{le, unle, signed, twos, SignedFits}

-- every number is spelled by so many bytes, and one that fits is what they spell
pub record SpellingLaws {N : Type 0} (spelled : List ℕ → N) (spelling : ℕ → N → List ℕ) (Fits : ℕ → N → Type 0) : Type 0 where
  pub long : (w : ℕ) (n : N) → length (spelling w n) ≡ w
  pub back : (w : ℕ) (n : N) → Fits w n → spelled (spelling w n) ≡ n

pub length-le : (w n : ℕ) → length (le w n) ≡ w
length-le zero n = refl
length-le (suc w) n = ap suc (length-le w (n / 256))

pub unle-le : (w n : ℕ) → n < 256 ^ w → unle (le w n) ≡ n
unle-le zero n h = omega arith
unle-le (suc w) n h =
    let e : 256 ^ suc w ≡ 256 ^ w * 256 = pow-suc 256 w in
    rw (unle-le w (n / 256) (omega arith)) (omega arith)

pub signed_le : (w : ℕ) (z : ℤ) → SignedFits w z → signed (le w (twos w z)) ≡ z
signed_le w (pos n) h =
    let l : n < 256 ^ w = omega arith in
    let t : ltb (2 * n) (256 ^ w) ≡ true = lt-ltb _ _ h in
    rw (length-le w n, unle-le w n l, t)
signed_le w (negsuc n) h =
    let l : 256 ^ w - suc n < 256 ^ w = omega arith in
    let t : ltb (2 * (256 ^ w - suc n)) (256 ^ w) ≡ false = le-ltb _ _ (omega arith) in
    let e : 256 ^ w - suc (256 ^ w - suc n) ≡ n = omega arith in
    rw (length-le w (256 ^ w - suc n), unle-le w (256 ^ w - suc n) l, t, e)

pub unsigned_laws : SpellingLaws unle le (λ w n. n < 256 ^ w)
unsigned_laws = record { long = length-le; back = unle-le }

pub signed_laws : SpellingLaws signed (λ w z. le w (twos w z)) SignedFits
signed_laws = record { long = λ w z. length-le w (twos w z); back = signed_le }
