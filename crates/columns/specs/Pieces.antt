-- The buffers of a window by where their bytes are: made in work memory, or as they lie in the recording.
use Rattle.std.specs.Prelude.{ℕ, ◌+◌, ◌*◌, List, [], ◌∷◌, ◌++◌, map, length, drop, pos}
use Rattle.layout.specs.declared.node.Node.{Node}
use Rattle.layout.specs.Lists.{rows, cut}
use Rattle.layout.specs.Messages as sent
use Rattle.layout.specs.Messages.{mark_bytes, bit_bytes, offset_bytes, padded, own_field, fields}
use Rattle.layout.specs.Rows.{count_at}
use Rattle.layout.specs.Trees.{Tree, Forest, nulls, bools, fixed, bytes, lists, struct, dictionary, none, more}
use Rattle.layout.specs.Windows.{Window, bits_at, marks_at, passed_first, passed_count, tree_in, shown_in}
use Rattle.columns.specs.declared.record.FieldRecord.{FieldRecord}
use Rattle.columns.specs.declared.record.BufferEntry.{BufferEntry}
use Rattle.columns.specs.declared.record.EncodedBuffer.{EncodedBuffer}
use Rattle.columns.specs.declared.record.EncodedBuffer.TheVariants.{Recording, Work}

-- bytes that are made, or so many bytes of the recording from a place on
pub data Piece : Type 0 where
  made : List ℕ → Piece
  lies : ℕ → ℕ → Piece

-- ---- those of a node, for its rows a .. a + c - 1

-- the values of a Fixed, or the keys of a Dictionary
abbrev pub slots_piece : Node → ℕ → ℕ → Piece
slots_piece n a c = lies (n.slots + (n.from + a) * n.size) (c * n.size)

-- the offsets of lists or byte strings, from 0 on, by how many elements or bytes each has
abbrev pub offsets_from : List ℕ → ℕ → Node → ℕ → ℕ → List ℕ
offsets_from bs w n a c = offset_bytes w (rows c (λ r. count_at bs w n (a + r)))

abbrev pub offsets_piece : List ℕ → ℕ → Node → ℕ → ℕ → Piece
offsets_piece bs w n a c = made (offsets_from bs w n a c)

-- the byte strings, from the first offset up to the last
abbrev pub strings_piece : List ℕ → ℕ → Node → ℕ → ℕ → Piece
strings_piece bs w n a c = lies (n.«data» + passed_first bs w n a c) (passed_count bs w n a c)

-- validity comes first where there is a bitmap or could be one
abbrev pub marks_piece : List ℕ → Node → ℕ → ℕ → Piece
marks_piece bs n a c = made (mark_bytes (marks_at bs n a c))

abbrev pub bits_piece : List ℕ → Node → ℕ → ℕ → Piece
bits_piece bs n a c = made (bit_bytes (bits_at (drop n.slots bs) (n.from + a) c))

-- ---- those of a tree: a node before its children, and of a Dictionary its keys alone

unfoldable mutual
  pub pieces : List ℕ → Tree → ℕ → ℕ → List Piece
  pieces bs (nulls n) a c = []
  pieces bs (bools n) a c = marks_piece bs n a c ∷ bits_piece bs n a c ∷ []
  pieces bs (fixed n) a c = marks_piece bs n a c ∷ slots_piece n a c ∷ []
  pieces bs (bytes w n) a c = marks_piece bs n a c ∷ offsets_piece bs w n a c ∷ strings_piece bs w n a c ∷ []
  pieces bs (lists w n t) a c = marks_piece bs n a c ∷ offsets_piece bs w n a c ∷ pieces bs t (passed_first bs w n a c) (passed_count bs w n a c)
  pieces bs (struct n f) a c = marks_piece bs n a c ∷ pieces_all bs f a c
  pieces bs (dictionary n t) a c = marks_piece bs n a c ∷ slots_piece n a c ∷ []

  pub pieces_all : List ℕ → Forest → ℕ → ℕ → List Piece
  pieces_all bs none a c = []
  pieces_all bs (more t f) a c = pieces bs t a c ++ pieces_all bs f a c

abbrev pub pieces_in : Window → List Piece
pieces_in w = pieces w.bytes (tree_in w) w.first w.rows

abbrev pub pieces_side : List Window → List Piece
pieces_side [] = []
pieces_side (w ∷ ws) = pieces_in w ++ pieces_side ws

-- ---- what they are

abbrev pub size_of : Piece → ℕ
size_of (made xs) = length xs
size_of (lies p n) = n

abbrev pub bytes_of : List ℕ → Piece → List ℕ
bytes_of bs (made xs) = xs
bytes_of bs (lies p n) = cut p n bs

abbrev pub made_of : Piece → List ℕ
made_of (made xs) = xs
made_of (lies p n) = []

-- what is made in work memory, one after another
abbrev pub work_of : List Piece → List ℕ
work_of [] = []
work_of (p ∷ ps) = made_of p ++ work_of ps

-- how long they are with their padding
abbrev pub body_size : ℕ → List Piece → ℕ
body_size al [] = 0
body_size al (p ∷ ps) = padded al (size_of p) + body_size al ps

-- ---- the entries of the lent memories

abbrev pub source_of : ℕ → Piece → EncodedBuffer
source_of work (made xs) = Work work
source_of work (lies p n) = Recording p

abbrev pub entry_of : ℕ → ℕ → Piece → BufferEntry
entry_of offset work p = record { buffer = record { offset = pos offset; length = pos (size_of p) }; source = source_of work p }

-- of buffers from an offset of the body and a place of the work memory on
abbrev pub entries : ℕ → ℕ → ℕ → List Piece → List BufferEntry
entries al offset work [] = []
entries al offset work (p ∷ ps) = entry_of offset work p ∷ entries al (offset + padded al (size_of p)) (work + length (made_of p)) ps

abbrev pub field_record : sent.FieldRecord → FieldRecord
field_record f = record { rows = pos f.rows; nulls = pos f.nulls }

-- the field records of a window, and of windows side by side
abbrev pub fields_in : Window → List FieldRecord
fields_in w = map field_record (fields (shown_in w))

abbrev pub fields_side : List Window → List FieldRecord
fields_side [] = []
fields_side (w ∷ ws) = fields_in w ++ fields_side ws
