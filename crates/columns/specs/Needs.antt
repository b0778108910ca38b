-- How much lent memory messages need.
use Rattle.std.specs.Prelude.{◌≡◌, ℕ, ◌+◌, ◌*◌, min, List, length}
use Rattle.layout.specs.declared.kind.Kind.{Kind}
use Rattle.layout.specs.declared.kind.Kind.TheVariants.{Null, Boolean, Fixed, Bytes32, Bytes64, List32, List64, Struct, Dictionary}
use Rattle.layout.specs.Bits.{bytes_for}
use Rattle.columns.specs.declared.needs.Needs.{Needs}
use Rattle.columns.specs.declared.record.FieldRecord.{FieldRecord}
use Rattle.columns.specs.Pieces.{Piece, work_of}

-- a number, or the most that 64 bits hold
abbrev pub held : ℕ → ℕ
held n = min n 18446744073709551615

-- it counts these fields and buffers, and the bytes that are made
pub record Counts (fs : List FieldRecord) (ps : List Piece) (n : Needs) : Type 0 where
  pub fields : n.fields ≡ held (length fs)
  pub buffers : n.buffers ≡ held (length ps)
  pub work : n.work ≡ held (length (work_of ps))

abbrev pub added : Needs → Needs → Needs
added m n = record { fields = held (m.fields + n.fields); buffers = held (m.buffers + n.buffers); work = held (m.work + n.work) }

-- how many buffers a node of a kind has
abbrev pub buffer_count : Kind → ℕ
buffer_count Null = 0
buffer_count Boolean = 2
buffer_count Fixed = 2
buffer_count Bytes32 = 3
buffer_count Bytes64 = 3
buffer_count List32 = 2
buffer_count List64 = 2
buffer_count Struct = 1
buffer_count Dictionary = 2

-- how many bytes its offsets or bits are, of so many rows
abbrev pub made_size : Kind → ℕ → ℕ
made_size Null n = 0
made_size Boolean n = bytes_for n
made_size Fixed n = 0
made_size Bytes32 n = (n + 1) * 4
made_size Bytes64 n = (n + 1) * 8
made_size List32 n = (n + 1) * 4
made_size List64 n = (n + 1) * 8
made_size Struct n = 0
made_size Dictionary n = 0
