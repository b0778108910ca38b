-- What framing a batch comes to.
use Rattle.std.specs.Prelude.{◌≡◌, ◌⊎◌, ℕ, ◌+◌, min, List, length, Some, None, Option, Ok, Err}
use Rattle.layout.specs.declared.fault.Fault.{Fault}
use Rattle.recording.specs.declared.columns.Columns.{Columns}
use Rattle.recording.specs.declared.options.IpcWriteOptions.{IpcWriteOptions}
use Rattle.recording.specs.declared.recording.Recording.{Recording}
use Rattle.recording.specs.Alignments.{alignment_number}
use Rattle.recording.specs.ColumnPlaces.{ColumnsFound}
use Rattle.recording.specs.View.{bytes_in}
use Rattle.dictionaries.specs.declared.tracker.DictionaryTracker.{DictionaryTracker}
use Rattle.dictionaries.specs.Batches.{AreMet, updates_of_batch, kept_after}
use Rattle.dictionaries.specs.Tracking.{kept_windows}
use Rattle.dictionaries.specs.declared.update.MetDictionary.{MetDictionary}
use Rattle.columns.specs.declared.memory.Memory.{Memory}
use Rattle.columns.specs.Plans.{messages_of}
use Rattle.columns.specs.Telling.{Tells}
use Rattle.frames.specs.Batches.{Written, Unwritten}
use Rattle.frames.specs.Frames.{FormBytes}
use Rattle.frames.specs.Sinks.{SinkMeaning}
use Rattle.orders.specs.declared.call.Batch.{Batch}
use Rattle.pack.specs.declared.frame.FramedBatch.{FramedBatch}

-- the ordinal of the message after so many; no ordinal is greater than the last
abbrev pub ordinal_after : ℕ → ℕ → ℕ
ordinal_after o n = min (o + n) 4294967295

-- how many pieces a sink has, where it keeps them
abbrev pub pieces_in : Option (List ℕ) → ℕ
pieces_in None = 0
pieces_in (Some ls) = length ls

-- its dictionaries are those that its columns meet, the sink took the frames of its messages, the memories tell what is sent,
-- the new values are kept, the next message has the ordinal after these, and what the sink held before is counted
pub record IsFramed (cost : ℕ) (form : FormBytes) (rec : Recording) (o : IpcWriteOptions) (b : Batch) (t u : DictionaryTracker) (ordinal next : ℕ) (before after : Memory) (sink_before sink_after : SinkMeaning) (p : FramedBatch) : Type 0 where
  pub columns : Columns
  pub found : ColumnsFound rec b.first b.columns b.rows (Ok columns)
  pub met : AreMet o (kept_windows t) columns p.met.items
  pub written : Written cost (alignment_number o.alignment) form ordinal (messages_of columns p.met.items) before after sink_before sink_after p.messages
  pub told : Tells (alignment_number o.alignment) (bytes_in rec) (messages_of columns p.met.items) after p.messages
  pub kept : kept_windows u ≡ kept_after (kept_windows t) p.met.items
  pub counted : next ≡ ordinal_after ordinal p.messages
  pub held_before : p.held ≡ length sink_before.held
  pub pieces_before : p.pieces ≡ pieces_in sink_before.lengths

-- its columns and the dictionaries that they meet are not written: a memory is too short, the form has no header, or the sink has
-- too little room
pub record IsUnwritten (cost : ℕ) (form : FormBytes) (rec : Recording) (o : IpcWriteOptions) (b : Batch) (t : DictionaryTracker) (ordinal : ℕ) (before after : Memory) (sink : SinkMeaning) (f : Fault) : Type 0 where
  pub columns : Columns
  pub met : List MetDictionary
  pub found : ColumnsFound rec b.first b.columns b.rows (Ok columns)
  pub are_met : AreMet o (kept_windows t) columns met
  pub unwritten : Unwritten cost (alignment_number o.alignment) form ordinal (messages_of columns met) before after sink f

-- its columns are none, or one of its dictionaries is refused; then what is lent stays too
abbrev pub IsUncollected : Recording → IpcWriteOptions → Batch → DictionaryTracker → Memory → Memory → Fault → Type 0
IsUncollected rec o b t before after f =
    (ColumnsFound rec b.first b.columns b.rows (Err f)
    ⊎ ((c : Columns) × ColumnsFound rec b.first b.columns b.rows (Ok c) × (updates_of_batch o (kept_windows t) c ≡ Err f)))
    × (after ≡ before)

-- not collected, or not written; what is kept stays, and the count of messages
pub record IsUnframed (cost : ℕ) (form : FormBytes) (rec : Recording) (o : IpcWriteOptions) (b : Batch) (t u : DictionaryTracker) (ordinal next : ℕ) (before after : Memory) (sink : SinkMeaning) (f : Fault) : Type 0 where
  pub why : IsUncollected rec o b t before after f ⊎ IsUnwritten cost form rec o b t ordinal before after sink f
  pub unchanged : u ≡ t
  pub same_count : next ≡ ordinal
