-- What a scan tests, from the first number on.
use Rattle.std.specs.Prelude.{ℕ, ◌*◌, ◌%◌, ◌^◌, Bool, true, ◌&&◌}
use Rattle.std.specs.Int.Bits.{bit_or}
use Rattle.std.specs.List.{fold, range_with_len}
use mir.Val.{bool_byte}

-- each number below n passes
abbrev pub every_in : ℕ → (ℕ → Bool) → Bool
every_in n p = fold (λ ok k. ok && p k) true (range_with_len 0 n)

-- flag n beside those before it, as bits of a byte
abbrev pub flagged : (ℕ → Bool) → ℕ → ℕ → ℕ
flagged f over n = bit_or over ((bool_byte (f n) * 2 ^ n) % 256)
