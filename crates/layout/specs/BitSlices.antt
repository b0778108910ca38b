-- So many bits of bytes, from one bit on.
use Rattle.std.specs.Prelude.{◌≡◌, ℕ, ◌+◌, Bool, List, drop}
use Rattle.layout.specs.declared.bit.BitSlice.{BitSlice}
use Rattle.layout.specs.declared.node.Node.{Node}
use Rattle.layout.specs.Bits.{bit_at}
use Rattle.layout.specs.Lists.{rows}

-- bit i of them is 1
abbrev pub bit_in : BitSlice → ℕ → Bool
bit_in b i = bit_at b.bytes.now (b.first + i)

abbrev pub bits_in : BitSlice → List Bool
bits_in b = rows b.len (bit_in b)

-- p is n of them, from bit k of them on
abbrev pub IsPart : BitSlice → ℕ → ℕ → BitSlice → Type 0
IsPart b k n p = (p.bytes.now ≡ b.bytes.now) × (p.first ≡ b.first + k) × (p.len ≡ n)

-- a bit for each row of a node, in the bytes from a place on
abbrev pub AreBits : Node → List ℕ → ℕ → BitSlice → Type 0
AreBits n bs p b = (b.bytes.now ≡ drop p bs) × (b.first ≡ n.from) × (b.len ≡ n.rows)
