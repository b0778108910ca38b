-- Row r of a node uses bit and slot from + r.
use Rattle.std.specs.Prelude.{ℕ, ◌+◌, ◌-◌, ◌*◌, Bool, true, cond, List, drop, Some, None, Option}
use Rattle.layout.specs.declared.node.Node.{Node}
use Rattle.layout.specs.Lists.{rows, cut}
use Rattle.layout.specs.Numbers.{number}
use Rattle.layout.specs.Bits.{bit_at, zeros}
use Rattle.layout.specs.declared.kind.Kind.{Kind}
use Rattle.layout.specs.Kinds.{has_bitmap}
use Rattle.layout.specs.Nodes.{bitmap_of}

-- without a bitmap every row is valid
abbrev pub mark_in : List ℕ → Option ℕ → ℕ → Bool
mark_in bs None i = true
mark_in bs (Some p) i = bit_at (drop p bs) i

-- the row is valid
abbrev pub mark_at : List ℕ → Node → ℕ → Bool
mark_at bs n r = mark_in bs (bitmap_of n) (n.from + r)

-- the bit of a Boolean
abbrev pub flag_at : List ℕ → Node → ℕ → Bool
flag_at bs n r = bit_at (drop n.slots bs) (n.from + r)

-- the w bytes of a value, an offset or a key
abbrev pub slot_at : List ℕ → ℕ → Node → ℕ → List ℕ
slot_at bs w n r = cut (n.slots + (n.from + r) * w) w bs

abbrev pub offset_at : List ℕ → ℕ → Node → ℕ → ℕ
offset_at bs w n r = number (slot_at bs w n r)

-- how many bytes or elements row r has
abbrev pub count_at : List ℕ → ℕ → Node → ℕ → ℕ
count_at bs w n r = offset_at bs w n (r + 1) - offset_at bs w n r

-- the byte string of row r
abbrev pub string_at : List ℕ → ℕ → Node → ℕ → List ℕ
string_at bs w n r = cut (n.«data» + offset_at bs w n r) (count_at bs w n r) bs

abbrev pub key_at : List ℕ → Node → ℕ → List ℕ
key_at bs n r = slot_at bs n.size n r

-- how many of the first n rows are null
abbrev pub nulls_in : List ℕ → Option ℕ → ℕ → ℕ → ℕ
nulls_in bs None from n = 0
nulls_in bs (Some p) from n = zeros (rows n (λ r. bit_at (drop p bs) (from + r)))

-- how many rows of a node of a kind are null: every row of a Null
abbrev pub nulls_at : Kind → List ℕ → Node → ℕ
nulls_at k bs n = cond (has_bitmap k) (nulls_in bs (bitmap_of n) n.from n.rows) n.rows
