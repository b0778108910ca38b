-- Bits of bytes, the lowest first.
use Rattle.std.specs.Prelude.{ℕ, suc, ◌+◌, ◌*◌, ◌/◌, ◌%◌, ◌^◌, Bool, true, false, List, [], ◌∷◌, length, ◌==◌, slice_index}
use mir.Val.{bool_byte}
use Rattle.layout.specs.Lists.{rows, cut}

-- n bits fill n / 8 bytes, rounded up
abbrev pub bytes_for : ℕ → ℕ
bytes_for n = (n + 7) / 8

-- bit i of a byte is 1
abbrev pub bit_of : ℕ → ℕ → Bool
bit_of n i = n / 2 ^ i % 2 == 1

-- bit r of a run of bytes is 1
abbrev pub bit_at : List ℕ → ℕ → Bool
bit_at buf r = bit_of (slice_index buf (r / 8)) (r % 8)

-- the byte that up to eight bits make
abbrev pub byte_of : List Bool → ℕ
byte_of [] = 0
byte_of (b ∷ bs) = bool_byte b + 2 * byte_of bs

-- the bytes that bits fill; what is left of the last byte is 0
abbrev pub pack : List Bool → List ℕ
pack bs = rows (bytes_for (length bs)) (λ i. byte_of (cut (8 * i) 8 bs))

-- how many are 0
abbrev pub zeros : List Bool → ℕ
zeros [] = 0
zeros (true ∷ bs) = zeros bs
zeros (false ∷ bs) = suc (zeros bs)

-- how many bits of a byte are 0
abbrev pub zeros_of : ℕ → ℕ
zeros_of b = zeros (rows 8 (bit_of b))

-- how many bits of whole bytes are 0
abbrev pub zeros_in : List ℕ → ℕ
zeros_in bs = zeros (rows (8 * length bs) (bit_at bs))
