-- A description as numbers.
use Rattle.std.specs.Prelude.{◌≡◌, ℕ, ◌^◌, ◌<◌, List, [], ◌∷◌, ◌++◌, length, All}
use Rattle.layout.specs.Messages.{Message, MessageKind, FieldRecord, BufferRecord}
use Rattle.layout.specs.Messages.MessageKind.{a_batch, a_dictionary, a_delta}
use Rattle.layout.specs.Numbers.{le_all}

abbrev pub kind_number : MessageKind → ℕ
kind_number a_batch = 0
kind_number a_dictionary = 1
kind_number a_delta = 2

abbrev pub field_numbers : List FieldRecord → List ℕ
field_numbers [] = []
field_numbers (f ∷ fs) = f.rows ∷ f.nulls ∷ field_numbers fs

abbrev pub buffer_numbers : List BufferRecord → List ℕ
buffer_numbers [] = []
buffer_numbers (b ∷ bs) = b.offset ∷ b.length ∷ buffer_numbers bs

-- the kind, the id, the rows, the body's length, and each kind of record after a count
abbrev pub numbers_of : Message → List ℕ
numbers_of m =
    (kind_number m.kind ∷ m.id ∷ m.rows ∷ m.body_length ∷ length m.fields ∷ [])
    ++ (field_numbers m.fields ++ (length m.buffers ∷ buffer_numbers m.buffers))

-- each in 8 bytes, the lowest first
abbrev pub number_bytes : Message → List ℕ
number_bytes m = le_all 8 (numbers_of m)

-- 8 bytes hold every number of it
abbrev pub Spellable : Message → Type 0
Spellable m = All (λ n. n < 2 ^ 64) (numbers_of m)

-- different descriptions have different bytes
pub record NumbersTell : Type 0 where
  pub apart : (m n : Message) → Spellable m → Spellable n → number_bytes m ≡ number_bytes n → m ≡ n
