-- What a header form has for a message.
use Rattle.std.specs.Prelude.{ℕ, Bool, ◌&&◌, cond, List, ◌++◌, length, drop, map, Some, None, Option, nat_le}
use Rattle.layout.specs.Messages as sent
use Rattle.columns.specs.Telling.{kind_read, field_read, buffer_read}
use Rattle.frames.specs.declared.form.Description.{Description}

-- a message as a form is told it
abbrev pub described : Description → sent.Message
described d = record { kind = kind_read d.kind; id = d.id; rows = d.rows; body_length = d.body_len; fields = map field_read d.fields.now; buffers = map buffer_read d.buffers.now }

-- bytes that are none, or more than 65,536, are no header
abbrev pub is_header : List ℕ → Bool
is_header bs = nat_le 1 (length bs) && nat_le (length bs) 65536

abbrev pub header_of : List ℕ → Option (List ℕ)
header_of bs = cond (is_header bs) (Some bs) None

-- how long it is
abbrev pub size_of : List ℕ → Option ℕ
size_of bs = cond (is_header bs) (Some (length bs)) None

-- memory with a header at its front; where there is none, or no room for it, as it was
abbrev pub over_front : Option (List ℕ) → List ℕ → List ℕ
over_front None memory = memory
over_front (Some bs) memory = cond (nat_le (length bs) (length memory)) (bs ++ drop (length bs) memory) memory
