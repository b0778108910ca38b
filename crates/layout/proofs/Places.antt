-- Where slots and bits lie.
use Rattle.std.proofs.Common.{◌≡◌, ℕ, ◌+◌, ◌*◌, ◌/◌, ◌<◌, ◌≤◌, suc-mul, add-one, arith}
use Rattle.std.proofs.lemmas.Nat.{mul-le}
use Rattle.layout.specs.Bits.{bytes_for}

-- slot x of y, w bytes each, from a place on
pub slot_within : (place x y w v len : ℕ) → v ≡ w → x < y → place + y * w ≤ len → place + x * v + w ≤ len
slot_within place x y w v len e l h =
    let more : (x + 1) * w ≡ x * w + w = rw (add-one, suc-mul) in
    rw e (omega (arith, mul-le (x + 1) w y w (omega arith) (omega arith)))

-- bit x of y, from a place on
pub bit_within : (place x y len : ℕ) → x < y → place + bytes_for y ≤ len → place + x / 8 < len
bit_within place x y len l h = omega arith
