-- What a batch answers, and what it leaves in the lent memories.
use Rattle.std.specs.Prelude.{◌≡◌, ℕ, List, [], ◌∷◌, map, length, Ok, Err, Result, Some, Option}
use Rattle.layout.specs.declared.fault.Fault.{Fault}
use Rattle.layout.specs.Messages as sent
use Rattle.dictionaries.specs.declared.update.DictionaryUpdate.{DictionaryUpdate}
use Rattle.recording.specs.declared.columns.Columns.{Columns}
use Rattle.recording.specs.declared.options.IpcWriteOptions.{IpcWriteOptions}
use Rattle.recording.specs.declared.recording.Recording.{Recording}
use Rattle.recording.specs.Alignments.{alignment_number}
use Rattle.recording.specs.ColumnPlaces.{ColumnsFound}
use Rattle.dictionaries.specs.Batches.{AreMet}
use Rattle.dictionaries.specs.declared.update.DictionaryValues.{DictionaryValues}
use Rattle.dictionaries.specs.declared.update.MetDictionary.{MetDictionary}
use Rattle.columns.specs.declared.memory.Memory.{Memory}
use Rattle.columns.specs.Plans.{messages_of, all_entries}
use Rattle.columns.specs.Lists.{over}
use Rattle.columns.specs.Telling.{field_read, buffer_read}
use Rattle.frames.specs.Headers.{over_front}
use Rattle.runs.specs.Calls.{Answer, Lengths, Written}
use Rattle.runs.specs.Calls.Answer.{refused, accepted}
use Rattle.runs.specs.Layers.{entry_read}
use Rattle.runs.specs.Turns.{State, Turn}
use Rattle.stream.specs.declared.stream.Accepted.{Accepted}

-- ---- memories

-- items that read so stand at the front of a memory; its other places hold what they held
pub record Fronts {X Y : Type 0} (read : X → Y) (items : List Y) (before after : List X) : Type 0 where
  pub written : List X
  pub reads : map read written ≡ items
  pub memory : after ≡ over before 0 written

-- headers were put at the front one after another
abbrev pub with_each : List (List ℕ) → List ℕ → List ℕ
with_each [] memory = memory
with_each (h ∷ hs) memory = with_each hs (over_front (Some h) memory)

-- the five memories after a call that wrote so much, each the one that was lent, and the places for updates
pub record Leaves (w : Written) (before after : Memory) (updates_before updates_after : List DictionaryUpdate) : Type 0 where
  pub fields : Fronts field_read w.fields before.fields.now after.fields.now
  pub buffers : Fronts buffer_read w.buffers before.buffers.now after.buffers.now
  pub messages : Fronts entry_read w.messages before.messages.now after.messages.now
  pub work : after.work.now ≡ over before.work.now 0 w.work
  pub metadata : after.metadata.now ≡ with_each w.headers before.metadata.now
  pub updates : updates_after ≡ over updates_before 0 w.updates
  pub same_fields : after.fields.ghost_name ≡ before.fields.ghost_name
  pub same_buffers : after.buffers.ghost_name ≡ before.buffers.ghost_name
  pub same_messages : after.messages.ghost_name ≡ before.messages.ghost_name
  pub same_work : after.work.ghost_name ≡ before.work.ghost_name
  pub same_metadata : after.metadata.ghost_name ≡ before.metadata.ghost_name

-- ---- the answer

-- how many messages and updates there are; the memories hold them
abbrev pub Counts : Accepted → List DictionaryUpdate → List sent.Message → Type 0
Counts a us ms = (a.updates ≡ length us) × (a.messages ≡ length ms)

abbrev pub Answers : Answer → Result Accepted Fault → Type 0
Answers answer (Ok a) = (us : List DictionaryUpdate) × (ms : List sent.Message) × (ls : List Lengths) × (answer ≡ accepted us ms ls) × Counts a us ms
Answers answer (Err f) = answer ≡ refused f

pub record BatchTook (t : Turn) (r : Result Accepted Fault) (next : State) (before after : Memory) (updates_before updates_after : List DictionaryUpdate) : Type 0 where
  pub answer : Answers t.answer r
  pub state : next ≡ t.next
  pub leaves : Leaves t.written before after updates_before updates_after

-- ---- where the bytes of its buffers lie

-- an accepted batch leaves the entries of its messages: each says where in the recording, or where in work memory, its bytes are
abbrev pub Placed : Recording → IpcWriteOptions → List (Option DictionaryValues) → ℕ → ℕ → ℕ → Memory → Memory → Result Accepted Fault → Type 0
Placed rec o ks first columns rows before after (Ok a) =
    (c : Columns) × (met : List MetDictionary) × ColumnsFound rec first columns rows (Ok c) × AreMet o ks c met
    × (after.buffers.now ≡ over before.buffers.now 0 (all_entries (alignment_number o.alignment) 0 (messages_of c met)))
Placed rec o ks first columns rows before after (Err f) = Unit {0}
