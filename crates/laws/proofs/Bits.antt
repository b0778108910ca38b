-- Bits and little-endian numbers.
use Rattle.std.proofs.Common.{◌≡◌, ℕ, zero, suc, ◌+◌, ◌*◌, ◌/◌, ◌%◌, ◌^◌, ◌<◌, ◌≤◌, Bool, true, false, cond, List, [], ◌∷◌, map, length, get_or, drop, refl, ap, ◌∙◌, le_of_suc-le-suc, not-suc-le-zero, arith, get_or-drop, get_or-take}
use native.Mathlib.Nat.{pow-le-pow_right}
use lib.ListN.{length-map}
use Rattle.std.proofs.lemmas.Bool.{lt-ltb, ltb-true}
use Rattle.layout.specs.Lists.{cut}
use Rattle.layout.specs.Numbers.{le, unle, le_all, natural, number}
use Rattle.layout.specs.Bits.{byte_of, bytes_for, pack, bit_at, zeros}
use Rattle.laws.proofs.Good.{Each}
use Rattle.layout.proofs.Bits.{byte_bit}
use Rattle.layout.proofs.Lists.{get_or_rows, length-rows}
use Rattle.layout.specs.Spelling.{length-le, unle-le}
use Rattle.laws.proofs.Lists.{cut_fixed}

-- ---- bits

pub pack-bit : (bs : List Bool) (r : ℕ) → r < length bs → bit_at (pack bs) r ≡ get_or bs r false
pack-bit bs r h =
    let e : 8 * (r / 8) + r % 8 ≡ r = omega arith in
    rw (get_or_rows (bytes_for (length bs)) (λ i. byte_of (cut (8 * i) 8 bs)) (r / 8) 0 (omega arith))
    (byte_bit (cut (8 * (r / 8)) 8 bs) (r % 8)
    ∙ get_or-take 8 (drop (8 * (r / 8)) bs) (r % 8) false (omega arith)
    ∙ get_or-drop (8 * (r / 8)) bs (r % 8) false
    ∙ ap (λ (k : ℕ). get_or bs k false) e)

pub length-pack : (bs : List Bool) → length (pack bs) ≡ bytes_for (length bs)
length-pack bs = length-rows (bytes_for (length bs)) (λ i. byte_of (cut (8 * i) 8 bs))

-- no bit is 0
pub no_zeros : (bs : List Bool) (r : ℕ) → zeros bs ≡ 0 → r < length bs → get_or bs r false ≡ true
no_zeros [] r z h = absurd (not-suc-le-zero h)
no_zeros (true ∷ bs) zero z h = refl
no_zeros (true ∷ bs) (suc r) z h = no_zeros bs r z (le_of_suc-le-suc h)
no_zeros (false ∷ bs) r z h = absurd (omega arith)

-- ---- numbers

-- the signed number that is written is read
pub number-le : (w n : ℕ) → 2 * n < 256 ^ w → number (le w n) ≡ n
number-le w n h =
    let e : unle (le w n) ≡ n = unle-le w n (omega arith) in
    let l : 2 * unle (le w n) < 256 ^ length (le w n) = rw (e, length-le w n) h in
    rw (lt-ltb (2 * unle (le w n)) (256 ^ length (le w n)) l) e

-- bytes of at most w hold signed numbers below half of 256 ^ w
number_by : (bs : List ℕ) (t : Bool) → natural bs ≡ t → 2 * cond t (unle bs) 0 < 256 ^ length bs
number_by bs true e = ltb-true (2 * unle bs) (256 ^ length bs) e
number_by bs false e = pow-le-pow_right {n = 256} (omega arith) {i = 0} {j = length bs} (omega arith)

pub number_small : (w : ℕ) (bs : List ℕ) → length bs ≤ w → 2 * number bs < 256 ^ w
number_small w bs h =
    let p : 2 * number bs < 256 ^ length bs = number_by bs (natural bs) refl in
    let q : 256 ^ length bs ≤ 256 ^ w = pow-le-pow_right {n = 256} (omega arith) h in
    omega arith

pub each_le : (w : ℕ) (ns : List ℕ) → Each w (map (le w) ns)
each_le w [] = tt
each_le w (n ∷ ns) = (length-le w n, each_le w ns)

le_at : (w : ℕ) (ns : List ℕ) (r : ℕ) → r < length ns → get_or (map (le w) ns) r [] ≡ le w (get_or ns r 0)
le_at w [] r h = absurd (not-suc-le-zero h)
le_at w (n ∷ ns) zero h = refl
le_at w (n ∷ ns) (suc r) h = le_at w ns r (le_of_suc-le-suc h)

pub number_at : (w : ℕ) (ns : List ℕ) (r : ℕ) → 2 * get_or ns r 0 < 256 ^ w → r < length ns → number (cut (r * w) w (le_all w ns)) ≡ get_or ns r 0
number_at w ns r g h =
    ap number (cut_fixed w (map (le w) ns) r (each_le w ns) (simp length-map h) ∙ le_at w ns r h) ∙ number-le w (get_or ns r 0) g
