-- Messages that are printed, as what the lent memories tell.
use Rattle.std.specs.Prelude.{◌≡◌, ℕ, List, ◌++◌, map, length, take, codes}
use Rattle.layout.specs.Lists.{rows}
use Rattle.columns.specs.declared.memory.Memory.{Memory}
use Rattle.layout.specs.Messages as sent
use Rattle.columns.specs.Telling.{Told, told_all, body_told, kind_read, field_read, buffer_read}
use Rattle.pack.specs.declared.told.ToldMessage.{ToldMessage}
use Rattle.pack.specs.Bodies.{body_shown}
use Rattle.pack.specs.Shown.{message_shown}

-- a line of the message, and one of its body
abbrev pub told_shown : ToldMessage → List ℕ
told_shown t = message_shown t.line ++ (codes "\n" ++ body_shown t.body.items)

abbrev pub index_of : ToldMessage → ℕ
index_of t = t.line.index

-- a message with its body
pub record Printed : Type 0 where
  pub message : sent.Message
  pub body : List ℕ

abbrev pub printed : ℕ → Told → Printed
printed al t = record { message = t.message; body = body_told al t }

-- as a reader of its line and of its body has them
abbrev pub printed_by : ToldMessage → Printed
printed_by t = record {
  message = record { kind = kind_read t.line.message.kind; id = t.line.message.id; rows = t.line.message.rows; body_length = t.line.message.lengths.1; fields = map field_read t.line.fields.0.now; buffers = map buffer_read t.line.buffers.0.now };
  body = t.body.items;
}

-- so many messages that stand in the memories, numbered from 0
pub record AreTold (al : ℕ) (bs : List ℕ) (m : Memory) (n : ℕ) (ts : List ToldMessage) : Type 0 where
  pub told : map printed_by ts ≡ map (printed al) (told_all bs m.work.now m.fields.now m.buffers.now (take n m.messages.now))
  pub numbered : map index_of ts ≡ rows (length ts) (λ i. i)
