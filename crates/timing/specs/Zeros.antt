-- The bits of a run of bytes that are 0, counted where the bytes have those bits.
use Rattle.std.specs.Prelude.{ℕ, ◌+◌, cond, List, length, nat_le}
use Rattle.layout.specs.Lists.{rows}
use Rattle.layout.specs.Bits.{bit_at, bytes_for, zeros}

-- of n bits from bit `first` on; 0 if the bytes end before them
abbrev pub zeros_from : List ℕ → ℕ → ℕ → ℕ
zeros_from bs first n = cond (nat_le (bytes_for (first + n)) (length bs)) (zeros (rows n (λ i. bit_at bs (first + i)))) 0
