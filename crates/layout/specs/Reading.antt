-- The Arrow rules: what the records and the body of a message say, to a reader who knows kinds, used sizes and nesting.
use Rattle.std.specs.Prelude.{ℕ, ◌+◌, ◌-◌, ◌*◌, Bool, true, cond, List, [], ◌∷◌, ◌++◌, map, length, get_or, drop, replicate, ◌==◌, slice_index_or, slice_set}
use Rattle.layout.specs.Lists.{cut}
use Rattle.layout.specs.Numbers.{number}
use Rattle.layout.specs.Bits.{bit_at}
use Rattle.layout.specs.Shown.{Value, null, held, column, across, named, Shape, Shapes, nulls, bools, fixed, bytes, lists, struct, dictionary, none, more}
use Rattle.layout.specs.Messages.{FieldRecord, BufferRecord, MessageKind, Message}

-- what a reader has after a column: its values, and the values by id, field records and buffers that it has not come to
pub record Got : Type 0 where
  pub values : List Value
  pub ids : List (List Value)
  pub fields : List FieldRecord
  pub buffers : List (List ℕ)

pub record GotAll : Type 0 where
  pub columns : List (List Value)
  pub ids : List (List Value)
  pub fields : List FieldRecord
  pub buffers : List (List ℕ)

abbrev pub rows_in : List FieldRecord → ℕ
rows_in fs = (get_or fs 0 (record { rows = 0; nulls = 0 })).rows

abbrev pub buffer : ℕ → List (List ℕ) → List ℕ
buffer i bs = slice_index_or bs i []

-- a row is null where its bit is 0; an empty validity buffer means no null
abbrev pub valid : List ℕ → ℕ → Bool
valid b r = cond (length b == 0) true (bit_at b r)

-- the r-th w bytes, and the r-th offset
abbrev pub slot_in : ℕ → List ℕ → ℕ → List ℕ
slot_in w b r = cut (r * w) w b

abbrev pub offset_in : ℕ → List ℕ → ℕ → ℕ
offset_in w b r = number (slot_in w b r)

-- what stands between offsets r and r + 1
abbrev pub between : {X : Type 0} → ℕ → List ℕ → ℕ → List X → List X
between w b r xs = cut (offset_in w b r) (offset_in w b (r + 1) - offset_in w b r) xs

-- ids: the values of the ids that the dictionaries met take, in their order
unfoldable mutual
  pub decode : Shape → List (List Value) → List FieldRecord → List (List ℕ) → Got
  decode (nulls k) ds fs bs = record { values = replicate (rows_in fs) null; ids = ds; fields = drop 1 fs; buffers = bs }
  decode (bools k) ds fs bs =
      record { values = column (rows_in fs) (valid (buffer 0 bs)) (λ r. Value.bit (bit_at (buffer 1 bs) r)); ids = ds; fields = drop 1 fs; buffers = drop 2 bs }
  decode (fixed k w) ds fs bs =
      record { values = column (rows_in fs) (valid (buffer 0 bs)) (λ r. Value.bytes (slot_in w (buffer 1 bs) r)); ids = ds; fields = drop 1 fs; buffers = drop 2 bs }
  decode (bytes k w) ds fs bs =
      record { values = column (rows_in fs) (valid (buffer 0 bs)) (λ r. Value.bytes (between w (buffer 1 bs) r (buffer 2 bs))); ids = ds; fields = drop 1 fs; buffers = drop 3 bs }
  decode (lists k w s) ds fs bs =
      let g : Got = decode s ds (drop 1 fs) (drop 2 bs) in
      record { values = column (rows_in fs) (valid (buffer 0 bs)) (λ r. Value.list (held (between w (buffer 1 bs) r g.values))); ids = g.ids; fields = g.fields; buffers = g.buffers }
  decode (struct k ss) ds fs bs =
      let g : GotAll = decode_all ss ds (drop 1 fs) (drop 1 bs) in
      record { values = column (rows_in fs) (valid (buffer 0 bs)) (λ r. Value.struct (held (across r g.columns))); ids = g.ids; fields = g.fields; buffers = g.buffers }
  decode (dictionary k w s) ds fs bs =
      record { values = column (rows_in fs) (valid (buffer 0 bs)) (λ r. named (slice_index_or ds 0 []) (slot_in w (buffer 1 bs) r)); ids = drop 1 ds; fields = drop 1 fs; buffers = drop 2 bs }

  pub decode_all : Shapes → List (List Value) → List FieldRecord → List (List ℕ) → GotAll
  decode_all none ds fs bs = record { columns = []; ids = ds; fields = fs; buffers = bs }
  decode_all (more s ss) ds fs bs =
      let g : Got = decode s ds fs bs in
      let h : GotAll = decode_all ss g.ids g.fields g.buffers in
      record { columns = g.values ∷ h.columns; ids = h.ids; fields = h.fields; buffers = h.buffers }

-- a buffer stands at its offset and length
abbrev pub parts : List ℕ → List BufferRecord → List (List ℕ)
parts b rs = map (λ (r : BufferRecord). cut r.offset r.length b) rs

-- a message, from the shapes of its columns and the values by id: its j-th dictionary reads those of the j-th id
abbrev pub read : Shapes → List (List Value) → Message → List ℕ → GotAll
read ss ids m b = decode_all ss ids m.fields (parts b m.buffers)

-- the values by id after it: a dictionary, one column, sets its id's values, and a delta appends to them
abbrev pub heard_by : MessageKind → ℕ → List Value → List (List Value) → List (List Value)
heard_by MessageKind.a_batch id vs ids = ids
heard_by MessageKind.a_dictionary id vs ids = slice_set ids id vs
heard_by MessageKind.a_delta id vs ids = slice_set ids id (slice_index_or ids id [] ++ vs)

abbrev pub heard : Shape → List (List Value) → Message → List ℕ → List (List Value)
heard s ids m b = heard_by m.kind m.id (slice_index_or (read (more s none) [] m b).columns 0 []) ids
