-- Numbers in slots, one after another.
use Rattle.std.specs.Prelude.{ℕ, ◌*◌, ◌/◌, length}
use Rattle.layout.specs.Numbers.{wide, unsigned_at}
use Rattle.opening.specs.declared.slots.Slots.{Slots}

-- how many slots fill the bytes
abbrev pub slot_count : Slots → ℕ
slot_count s = length s.bytes.now / wide s.width

-- the number in slot k
abbrev pub slot_number : Slots → ℕ → ℕ
slot_number s k = unsigned_at s.bytes.now (k * wide s.width) s.width
