-- What the lent memories tell of messages, to a reader who takes them one after another.
use Rattle.std.specs.Prelude.{◌≡◌, ℕ, List, [], ◌∷◌, ◌++◌, map, take, drop, ℤ, pos, negsuc, Ok, Err, Result}
use Rattle.layout.specs.declared.fault.Fault.{Fault}
use Rattle.layout.specs.Lists.{cut}
use Rattle.layout.specs.Messages as sent
use Rattle.layout.specs.Messages.{message_of, body, buffers_all}
use Rattle.layout.specs.Reading.{read}
use Rattle.layout.specs.Shown.{Value, Showns}
use Rattle.layout.specs.Windows.{values_in, shapes_side, shown_side, dictionary_values}
use Rattle.columns.specs.declared.memory.Memory.{Memory}
use Rattle.columns.specs.declared.message.Message.{Message}
use Rattle.columns.specs.declared.message.MessageKind.{MessageKind}
use Rattle.columns.specs.declared.message.MessageKind.TheVariants as kind
use Rattle.columns.specs.declared.record.BufferEntry.{BufferEntry}
use Rattle.columns.specs.declared.record.EncodedBuffer.{EncodedBuffer}
use Rattle.columns.specs.declared.record.EncodedBuffer.TheVariants.{Recording, Work}
use Rattle.columns.specs.declared.record.FieldRecord.{FieldRecord}
use Rattle.columns.specs.Plans.{ToSend}

-- ---- a record, as a reader has it

-- no record has a number below 0
abbrev pub number : ℤ → ℕ
number (pos n) = n
number (negsuc n) = 0

abbrev pub field_read : FieldRecord → sent.FieldRecord
field_read f = record { rows = number f.rows; nulls = number f.nulls }

abbrev pub buffer_read : BufferEntry → sent.BufferRecord
buffer_read e = record { offset = number e.buffer.offset; length = number e.buffer.length }

abbrev pub kind_read : MessageKind → sent.MessageKind
kind_read kind.Batch = sent.MessageKind.a_batch
kind_read kind.Dictionary = sent.MessageKind.a_dictionary
kind_read kind.Delta = sent.MessageKind.a_delta

-- so many bytes from a source on, of the recording's bytes or of work memory
abbrev pub bytes_from : List ℕ → List ℕ → EncodedBuffer → ℕ → List ℕ
bytes_from bs work (Recording p) n = cut p n bs
bytes_from bs work (Work p) n = cut p n work

abbrev pub bytes_named : List ℕ → List ℕ → BufferEntry → List ℕ
bytes_named bs work e = bytes_from bs work e.source (number e.buffer.length)

-- ---- messages

-- a message and the bytes of its buffers
pub record Told : Type 0 where
  pub message : sent.Message
  pub buffers : List (List ℕ)

-- its body: each buffer with its padding
abbrev pub body_told : ℕ → Told → List ℕ
body_told al t = body al t.buffers

-- the fields and the buffers that are left are those of this message and of later ones
abbrev pub told : List ℕ → List ℕ → List FieldRecord → List BufferEntry → Message → Told
told bs work fs es m = record {
  message = record { kind = kind_read m.kind; id = m.id; rows = m.rows; body_length = m.lengths.1; fields = map field_read (take m.fields fs); buffers = map buffer_read (take m.buffers es) };
  buffers = map (bytes_named bs work) (take m.buffers es);
}

abbrev pub told_all : List ℕ → List ℕ → List FieldRecord → List BufferEntry → List Message → List Told
told_all bs work fs es [] = []
told_all bs work fs es (m ∷ ms) = told bs work fs es m ∷ told_all bs work (drop m.fields fs) (drop m.buffers es) ms

-- what a message shows: nothing else that a recording has
pub record Shows : Type 0 where
  pub kind : MessageKind
  pub id : ℕ
  pub rows : ℕ
  pub shown : Showns

abbrev pub shows : ToSend → Shows
shows m = record { kind = m.kind; id = m.id; rows = m.rows; shown = shown_side m.columns }

-- what is sent of that by the definitions
abbrev pub sent_of : ℕ → Shows → Told
sent_of al s = record { message = message_of (kind_read s.kind) s.id s.rows al s.shown; buffers = buffers_all s.shown }

abbrev pub sent_as : ℕ → ToSend → Told
sent_as al m = sent_of al (shows m)

-- read by the Arrow rules with the values of the dictionaries met, the rows and values of its columns, and nothing is left over
abbrev pub GivesBack : ℕ → ToSend → Told → Type 0
GivesBack al m t = (rest : List (List Value)) → read (shapes_side m.columns) (dictionary_values m.columns ++ rest) t.message (body_told al t)
    ≡ record { columns = map values_in m.columns; ids = rest; fields = []; buffers = [] }

abbrev pub EachGivesBack : ℕ → List ToSend → Type 0
EachGivesBack al [] = Unit {0}
EachGivesBack al (m ∷ ms) = GivesBack al m (sent_as al m) × EachGivesBack al ms

-- so many messages that stand in the memories
pub record Tells (al : ℕ) (bs : List ℕ) (ms : List ToSend) (m : Memory) (n : ℕ) : Type 0 where
  pub told : told_all bs m.work.now m.fields.now m.buffers.now (take n m.messages.now) ≡ map (sent_as al) ms
  pub given_back : EachGivesBack al ms

abbrev pub PlanTells : ℕ → List ℕ → List ToSend → Memory → Result ℕ Fault → Type 0
PlanTells al bs ms m (Ok n) = Tells al bs ms m n
PlanTells al bs ms m (Err f) = Unit {0}
