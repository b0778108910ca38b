-- Calls and their answers, and what does not change over a run.
use Rattle.std.specs.Prelude.{ℕ, List, []}
use Rattle.layout.specs.declared.fault.Fault.{Fault}
use Rattle.layout.specs.Messages as sent
use Rattle.recording.specs.declared.options.IpcWriteOptions.{IpcWriteOptions}
use Rattle.recording.specs.Alignments.{alignment_number}
use Rattle.dictionaries.specs.declared.update.DictionaryUpdate.{DictionaryUpdate}
use Rattle.frames.specs.Frames.{FormBytes}

-- how long the lent memories are
pub record Lent : Type 0 where
  pub fields : ℕ
  pub buffers : ℕ
  pub messages : ℕ
  pub work : ℕ
  pub metadata : ℕ

pub data Call : Type 0 where
  next_id clear finish : Call
  batch : (first columns rows : ℕ) → Lent → Call

-- a call's numbers, apart from a first node
pub data Numbers : Type 0 where
  next_id clear finish : Numbers
  batch : (columns rows : ℕ) → Lent → Numbers

abbrev pub numbers : Call → Numbers
numbers Call.next_id = Numbers.next_id
numbers Call.clear = Numbers.clear
numbers Call.finish = Numbers.finish
numbers (Call.batch first columns rows lent) = Numbers.batch columns rows lent

-- the lengths of a message's header and of its body
pub record Lengths : Type 0 where
  pub header : ℕ
  pub body : ℕ

pub data Answer : Type 0 where
  refused : Fault → Answer
  given : ℕ → Answer
  cleared : Answer
  finished : Answer
  -- the update of each dictionary met, each message's description, and its pair of lengths
  accepted : List DictionaryUpdate → List sent.Message → List Lengths → Answer

-- a message's entry: how many records it has, and its pair of lengths
pub record Entry : Type 0 where
  pub kind : sent.MessageKind
  pub id : ℕ
  pub rows : ℕ
  pub fields : ℕ
  pub buffers : ℕ
  pub lengths : Lengths

-- what a call writes at the front of each memory that it is lent; headers go to the front of the metadata memory in turn
pub record Written : Type 0 where
  pub fields : List sent.FieldRecord
  pub buffers : List sent.BufferRecord
  pub messages : List Entry
  pub work : List ℕ
  pub headers : List (List ℕ)
  pub updates : List DictionaryUpdate

abbrev pub nothing : Written
nothing = record { fields = []; buffers = []; messages = []; work = []; headers = []; updates = [] }

-- the options, what the form has for each message, and what a piece costs in the sink
pub record Setting : Type 0 where
  pub options : IpcWriteOptions
  pub form : FormBytes
  pub cost : ℕ

abbrev pub alignment : Setting → ℕ
alignment e = alignment_number e.options.alignment
