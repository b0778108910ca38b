-- What is sent of windows: a record for each field, the buffers, where each stands, the body, and the message.
use Rattle.std.specs.Prelude.{ℕ, ◌+◌, ◌-◌, ◌%◌, cond, List, [], ◌∷◌, ◌++◌, length, replicate, ◌==◌}
use Rattle.layout.specs.Lists.{join_all, total, lengths}
use Rattle.layout.specs.Numbers.{le_all}
use Rattle.layout.specs.Bits.{pack, zeros}
use Rattle.layout.specs.Shown.{Bits, Marks, all, some, Shown, Showns, nulls, bools, fixed, bytes, lists, struct, dictionary, none, more}

-- a field: its rows, and how many of them are null
pub record FieldRecord : Type 0 where
  pub rows : ℕ
  pub nulls : ℕ

-- a buffer: where it stands in the body, and its length
pub record BufferRecord : Type 0 where
  pub offset : ℕ
  pub length : ℕ

-- ---- fields: a node before its children, and of a Dictionary its keys alone

abbrev pub null_count : Marks → ℕ
null_count all = 0
null_count (some b) = zeros b.bits

abbrev pub field_of : ℕ → Marks → FieldRecord
field_of n m = record { rows = n; nulls = null_count m }

-- of the node itself: every row of a Null is null
abbrev pub own_field : Shown → FieldRecord
own_field (nulls l n) = record { rows = n; nulls = n }
own_field (bools l m b) = field_of (length b.bits) m
own_field (fixed l w m vs) = field_of (length vs) m
own_field (bytes l w m vs) = field_of (length vs) m
own_field (lists l w m cs s) = field_of (length cs) m
own_field (struct l m n ss) = field_of n m
own_field (dictionary l w m ks s) = field_of (length ks) m

unfoldable mutual
  pub fields : Shown → List FieldRecord
  fields (nulls l n) = own_field (nulls l n) ∷ []
  fields (bools l m b) = own_field (bools l m b) ∷ []
  fields (fixed l w m vs) = own_field (fixed l w m vs) ∷ []
  fields (bytes l w m vs) = own_field (bytes l w m vs) ∷ []
  fields (lists l w m cs s) = own_field (lists l w m cs s) ∷ fields s
  fields (struct l m n ss) = own_field (struct l m n ss) ∷ fields_all ss
  fields (dictionary l w m ks s) = own_field (dictionary l w m ks s) ∷ []

  pub fields_all : Showns → List FieldRecord
  fields_all none = []
  fields_all (more s ss) = fields s ++ fields_all ss

-- ---- buffers

-- the bits with their spare bits, which are 0 where none are shown
abbrev pub bit_bytes : Bits → List ℕ
bit_bytes b = pack (b.bits ++ b.spare)

-- left out when no bit is 0
abbrev pub mark_bytes : Marks → List ℕ
mark_bytes all = []
mark_bytes (some b) = cond (zeros b.bits == 0) [] (bit_bytes b)

-- the running sums of the counts, from a: one more than there are counts
abbrev pub offsets : ℕ → List ℕ → List ℕ
offsets a [] = a ∷ []
offsets a (c ∷ cs) = a ∷ offsets (a + c) cs

abbrev pub offset_bytes : ℕ → List ℕ → List ℕ
offset_bytes w cs = le_all w (offsets 0 cs)

unfoldable mutual
  pub buffers : Shown → List (List ℕ)
  buffers (nulls l n) = []
  buffers (bools l m b) = mark_bytes m ∷ bit_bytes b ∷ []
  buffers (fixed l w m vs) = mark_bytes m ∷ join_all vs ∷ []
  buffers (bytes l w m vs) = mark_bytes m ∷ offset_bytes w (lengths vs) ∷ join_all vs ∷ []
  buffers (lists l w m cs s) = mark_bytes m ∷ offset_bytes w cs ∷ buffers s
  buffers (struct l m n ss) = mark_bytes m ∷ buffers_all ss
  buffers (dictionary l w m ks s) = mark_bytes m ∷ join_all ks ∷ []

  pub buffers_all : Showns → List (List ℕ)
  buffers_all none = []
  buffers_all (more s ss) = buffers s ++ buffers_all ss

-- those of them that are made in work memory: all offsets and bits
unfoldable mutual
  pub made : Shown → List (List ℕ)
  made (nulls l n) = []
  made (bools l m b) = mark_bytes m ∷ bit_bytes b ∷ []
  made (fixed l w m vs) = mark_bytes m ∷ []
  made (bytes l w m vs) = mark_bytes m ∷ offset_bytes w (lengths vs) ∷ []
  made (lists l w m cs s) = mark_bytes m ∷ offset_bytes w cs ∷ made s
  made (struct l m n ss) = mark_bytes m ∷ made_all ss
  made (dictionary l w m ks s) = mark_bytes m ∷ []

  pub made_all : Showns → List (List ℕ)
  made_all none = []
  made_all (more s ss) = made s ++ made_all ss

-- how many entries and work bytes these columns need
abbrev pub field_entries : Showns → ℕ
field_entries ss = length (fields_all ss)

abbrev pub buffer_entries : Showns → ℕ
buffer_entries ss = length (buffers_all ss)

abbrev pub work_bytes : Showns → ℕ
work_bytes ss = total (lengths (made_all ss))

-- ---- the body

-- the zeros after n bytes, up to the next multiple of the alignment
abbrev pub padding : ℕ → ℕ → ℕ
padding al n = (al - n % al) % al

abbrev pub padded : ℕ → ℕ → ℕ
padded al n = n + padding al n

-- each buffer starts where the earlier ones end with their padding
abbrev pub records : ℕ → ℕ → List (List ℕ) → List BufferRecord
records al at [] = []
records al at (b ∷ bs) = record { offset = at; length = length b } ∷ records al (at + padded al (length b)) bs

abbrev pub body : ℕ → List (List ℕ) → List ℕ
body al [] = []
body al (b ∷ bs) = (b ++ replicate (padding al (length b)) 0) ++ body al bs

-- of these columns side by side
abbrev pub records_of : ℕ → Showns → List BufferRecord
records_of al ss = records al 0 (buffers_all ss)

abbrev pub body_of : ℕ → Showns → List ℕ
body_of al ss = body al (buffers_all ss)

-- ---- a message

pub data MessageKind : Type 0 where
  a_batch a_dictionary a_delta : MessageKind

-- a batch has the id 0
pub record Message : Type 0 where
  pub kind : MessageKind
  pub id : ℕ
  pub rows : ℕ
  pub body_length : ℕ
  pub fields : List FieldRecord
  pub buffers : List BufferRecord

abbrev pub message_of : MessageKind → ℕ → ℕ → ℕ → Showns → Message
message_of kind id rows al ss =
    record { kind = kind; id = id; rows = rows; body_length = length (body_of al ss); fields = fields_all ss; buffers = records_of al ss }
