-- Windows worked out from the definitions: their rows' values, and what is sent of them at alignment 8.
use Rattle.std.specs.Prelude.{◌≡◌, ℕ, List, [], ◌∷◌}
use Rattle.layout.specs.Messages.{FieldRecord, BufferRecord, fields_all, records_of, body_of}
use Rattle.layout.specs.Nodes.{nodes_of}
use Rattle.layout.specs.Shown.{Value, Values, null}
use Rattle.layout.specs.Windows.{Window, values_in, shown_side}
use Rattle.cases.specs.Openings.{eights, strings, bytes_of_strings}

-- rows of the first node
abbrev pub window : List ℕ → List ℕ → ℕ → ℕ → Window
window nb bs a n = record { nodes = nodes_of nb; bytes = bs; node = 0; first = a; rows = n }

-- what is sent of it alone
abbrev pub fields_sent : Window → List FieldRecord
fields_sent w = fields_all (shown_side (w ∷ []))

abbrev pub records_sent : Window → List BufferRecord
records_sent w = records_of 8 (shown_side (w ∷ []))

abbrev pub body_sent : Window → List ℕ
body_sent w = body_of 8 (shown_side (w ∷ []))

abbrev pub field : ℕ → ℕ → FieldRecord
field n z = record { rows = n; nulls = z }

abbrev pub buffer : ℕ → ℕ → BufferRecord
buffer at len = record { offset = at; length = len }

-- 10, 20, 30, 40 in four bytes each, from 1, rows 2
abbrev pub numbers : Window
numbers =
    window (eights (2 ∷ 0 ∷ 4 ∷ 2 ∷ 1 ∷ 0 ∷ 0 ∷ 0 ∷ 0 ∷ 1 ∷ [])) (10 ∷ 0 ∷ 0 ∷ 0 ∷ 20 ∷ 0 ∷ 0 ∷ 0 ∷ 30 ∷ 0 ∷ 0 ∷ 0 ∷ 40 ∷ 0 ∷ 0 ∷ 0 ∷ []) 0 2

-- byte strings with offsets 3, 5, 5, 9 over abcdefghi, from 1, rows 2
abbrev pub texts : Window
texts = window strings bytes_of_strings 0 2

-- Booleans
abbrev pub bits : ℕ → ℕ → Window
bits from n = window (eights (1 ∷ 0 ∷ 0 ∷ n ∷ from ∷ 0 ∷ 0 ∷ 0 ∷ 0 ∷ 1 ∷ [])) (0xb5 ∷ 0x01 ∷ []) 0 n

-- three values of two bytes; the second is null
abbrev pub marked : Window
marked = window (eights (2 ∷ 0 ∷ 2 ∷ 3 ∷ 0 ∷ 1 ∷ 1 ∷ 0 ∷ 0 ∷ 1 ∷ [])) (0x05 ∷ 1 ∷ 0 ∷ 2 ∷ 0 ∷ 3 ∷ 0 ∷ []) 0 3

-- a list of the elements 1 and 2 of a child with four
abbrev pub listed : Window
listed =
    window (eights (5 ∷ 0 ∷ 0 ∷ 1 ∷ 0 ∷ 0 ∷ 0 ∷ 0 ∷ 0 ∷ 2 ∷ 2 ∷ 0 ∷ 1 ∷ 4 ∷ 0 ∷ 0 ∷ 8 ∷ 0 ∷ 0 ∷ 1 ∷ []))
    (1 ∷ 0 ∷ 0 ∷ 0 ∷ 3 ∷ 0 ∷ 0 ∷ 0 ∷ 0x10 ∷ 0x20 ∷ 0x30 ∷ 0x40 ∷ []) 0 1

pub record WindowCases : Type 0 where
  pub numbers_values : values_in numbers ≡ Value.bytes (20 ∷ 0 ∷ 0 ∷ 0 ∷ []) ∷ Value.bytes (30 ∷ 0 ∷ 0 ∷ 0 ∷ []) ∷ []
  pub numbers_fields : fields_sent numbers ≡ field 2 0 ∷ []
  pub numbers_records : records_sent numbers ≡ buffer 0 0 ∷ buffer 0 8 ∷ []
  -- not those that begin at the buffer's first slot
  pub numbers_body : body_sent numbers ≡ 20 ∷ 0 ∷ 0 ∷ 0 ∷ 30 ∷ 0 ∷ 0 ∷ 0 ∷ []
  pub texts_values : values_in texts ≡ Value.bytes [] ∷ Value.bytes (102 ∷ 103 ∷ 104 ∷ 105 ∷ []) ∷ []
  pub texts_fields : fields_sent texts ≡ field 2 0 ∷ []
  -- each buffer begins after the padding of those before it
  pub texts_records : records_sent texts ≡ buffer 0 0 ∷ buffer 0 12 ∷ buffer 16 4 ∷ []
  pub texts_body : body_sent texts
      ≡ 0 ∷ 0 ∷ 0 ∷ 0 ∷ 0 ∷ 0 ∷ 0 ∷ 0 ∷ 4 ∷ 0 ∷ 0 ∷ 0 ∷ 0 ∷ 0 ∷ 0 ∷ 0 ∷ 102 ∷ 103 ∷ 104 ∷ 105 ∷ 0 ∷ 0 ∷ 0 ∷ 0 ∷ []
  pub bits_fields : fields_sent (bits 3 6) ≡ field 6 0 ∷ []
  pub bits_records : records_sent (bits 3 6) ≡ buffer 0 0 ∷ buffer 0 1 ∷ []
  -- shifted down, with spare bits 0
  pub bits_shifted : body_sent (bits 3 6) ≡ 0x36 ∷ 0 ∷ 0 ∷ 0 ∷ 0 ∷ 0 ∷ 0 ∷ 0 ∷ []
  -- from a byte's first bit, as they stand, spare bits and all
  pub bits_whole : body_sent (bits 0 3) ≡ 0xb5 ∷ 0 ∷ 0 ∷ 0 ∷ 0 ∷ 0 ∷ 0 ∷ 0 ∷ []
  pub marked_values : values_in marked ≡ Value.bytes (1 ∷ 0 ∷ []) ∷ null ∷ Value.bytes (3 ∷ 0 ∷ []) ∷ []
  pub marked_fields : fields_sent marked ≡ field 3 1 ∷ []
  pub marked_records : records_sent marked ≡ buffer 0 1 ∷ buffer 8 6 ∷ []
  pub marked_body : body_sent marked ≡ 0x05 ∷ 0 ∷ 0 ∷ 0 ∷ 0 ∷ 0 ∷ 0 ∷ 0 ∷ 1 ∷ 0 ∷ 2 ∷ 0 ∷ 3 ∷ 0 ∷ 0 ∷ 0 ∷ []
  pub listed_values : values_in listed ≡ Value.list (Values.more (Value.bytes (0x20 ∷ [])) (Values.more (Value.bytes (0x30 ∷ [])) Values.none)) ∷ []
  -- of the child just the elements, and not the whole of it
  pub listed_fields : fields_sent listed ≡ field 1 0 ∷ field 2 0 ∷ []
  pub listed_records : records_sent listed ≡ buffer 0 0 ∷ buffer 0 8 ∷ buffer 8 0 ∷ buffer 8 2 ∷ []
  pub listed_body : body_sent listed ≡ 0 ∷ 0 ∷ 0 ∷ 0 ∷ 2 ∷ 0 ∷ 0 ∷ 0 ∷ 0x20 ∷ 0x30 ∷ 0 ∷ 0 ∷ 0 ∷ 0 ∷ 0 ∷ 0 ∷ []
