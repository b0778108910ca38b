-- The table of kinds.
use Rattle.std.specs.Prelude.{ℕ, ◌+◌, ◌*◌, Bool, true, cond, not, ◌&&◌, ◌||◌, List, [], ◌∷◌, is_some, Some, None, Option, ◌==◌, nat_le}
use Rattle.layout.specs.declared.number.Width.{Width}
use Rattle.layout.specs.declared.number.Width.TheVariants.{Four, Eight}
use Rattle.layout.specs.declared.kind.Kind.{Kind}
use Rattle.layout.specs.declared.kind.Kind.TheVariants.{Null, Boolean, Fixed, Bytes32, Bytes64, List32, List64, Struct, Dictionary}
use Rattle.layout.specs.Numbers.{width_of}
use Rattle.layout.specs.Bits.{bytes_for}

abbrev pub kind_number : Kind → ℕ
kind_number Null = 0
kind_number Boolean = 1
kind_number Fixed = 2
kind_number Bytes32 = 3
kind_number Bytes64 = 4
kind_number List32 = 5
kind_number List64 = 6
kind_number Struct = 7
kind_number Dictionary = 8

-- the one of these kinds that has the number
abbrev pub kind_among : List Kind → ℕ → Option Kind
kind_among [] n = None
kind_among (k ∷ ks) n = cond (n == kind_number k) (Some k) (kind_among ks n)

abbrev pub kind_of : ℕ → Option Kind
kind_of n = kind_among (Null ∷ Boolean ∷ Fixed ∷ Bytes32 ∷ Bytes64 ∷ List32 ∷ List64 ∷ Struct ∷ Dictionary ∷ []) n

-- how wide the offsets are, where a kind has offsets
abbrev pub offset_width : Kind → Option Width
offset_width Null = None
offset_width Boolean = None
offset_width Fixed = None
offset_width Bytes32 = Some Four
offset_width Bytes64 = Some Eight
offset_width List32 = Some Four
offset_width List64 = Some Eight
offset_width Struct = None
offset_width Dictionary = None

-- a size that the kind may have; only Fixed and Dictionary use theirs
abbrev pub size_fits : Kind → ℕ → Bool
size_fits Null s = true
size_fits Boolean s = true
size_fits Fixed s = nat_le 1 s && nat_le s 256
size_fits Bytes32 s = true
size_fits Bytes64 s = true
size_fits List32 s = true
size_fits List64 s = true
size_fits Struct s = true
size_fits Dictionary s = is_some (width_of s)

-- so many children may a kind have
abbrev pub children_fit : Kind → ℕ → Bool
children_fit Null n = n == 0
children_fit Boolean n = n == 0
children_fit Fixed n = n == 0
children_fit Bytes32 n = n == 0
children_fit Bytes64 n = n == 0
children_fit List32 n = n == 1
children_fit List64 n = n == 1
children_fit Struct n = true
children_fit Dictionary n = n == 1

-- the bytes of so many slots, where a kind has slots: bits, values, keys, or offsets, of which there is one more
abbrev pub slot_bytes : Kind → ℕ → ℕ → Option ℕ
slot_bytes Null size slots = None
slot_bytes Boolean size slots = Some (bytes_for slots)
slot_bytes Fixed size slots = Some (slots * size)
slot_bytes Bytes32 size slots = Some ((slots + 1) * 4)
slot_bytes Bytes64 size slots = Some ((slots + 1) * 8)
slot_bytes List32 size slots = Some ((slots + 1) * 4)
slot_bytes List64 size slots = Some ((slots + 1) * 8)
slot_bytes Struct size slots = None
slot_bytes Dictionary size slots = Some (slots * size)

-- one kind is the other
abbrev pub same : Kind → Kind → Bool
same k l = kind_number k == kind_number l

-- Bytes have data beside their offsets
abbrev pub has_data : Kind → Bool
has_data k = same k Bytes32 || same k Bytes64

-- every kind but Null may have a bitmap
abbrev pub has_bitmap : Kind → Bool
has_bitmap k = not (same k Null)
