-- What a scan of keys under a bitmap tests.
use Rattle.std.specs.Prelude.{ℕ, Bool, not, ◌||◌, nat_lt}
use Rattle.layout.specs.BitSlices.{bit_in}
use Rattle.opening.specs.declared.keys.Keys.{Keys}
use Rattle.opening.specs.Slotted.{slot_number}

-- the key of row k is below the bound, or its bit is 0
abbrev pub marked_below : Keys → ℕ → Bool
marked_below keys k = not (bit_in keys.marks k) || nat_lt (slot_number keys.slots k) keys.bound
