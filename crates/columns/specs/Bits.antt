-- Bits that are sent.
use Rattle.std.specs.Prelude.{ℕ, ◌+◌, ◌*◌, List, slice_index}
use Rattle.layout.specs.declared.bit.BitSlice.{BitSlice}
use Rattle.layout.specs.Shown.{Bits}
use Rattle.layout.specs.Windows.{bits_at}

-- a slice of bits, with the spare bits of its last byte where it begins a byte
abbrev pub bits_of : BitSlice → Bits
bits_of b = bits_at b.bytes.now b.first b.len

-- byte i and the one after it, as one number
abbrev pub two_bytes : List ℕ → ℕ → ℕ
two_bytes bs i = slice_index bs i + slice_index bs (i + 1) * 256
