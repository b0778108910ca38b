-- What planning the messages of a batch comes to.
use Rattle.std.specs.Prelude.{◌≡◌, ◌⊎◌, List, Ok, Err}
use Rattle.layout.specs.declared.fault.Fault.{Fault}
use Rattle.recording.specs.declared.columns.Columns.{Columns}
use Rattle.recording.specs.declared.options.IpcWriteOptions.{IpcWriteOptions}
use Rattle.recording.specs.declared.recording.Recording.{Recording}
use Rattle.recording.specs.Alignments.{alignment_number}
use Rattle.recording.specs.ColumnPlaces.{ColumnsFound}
use Rattle.recording.specs.View.{bytes_in}
use Rattle.dictionaries.specs.declared.tracker.DictionaryTracker.{DictionaryTracker}
use Rattle.dictionaries.specs.Batches.{AreMet, updates_of_batch, kept_after}
use Rattle.dictionaries.specs.Tracking.{kept_windows}
use Rattle.dictionaries.specs.declared.update.MetDictionary.{MetDictionary}
use Rattle.columns.specs.declared.memory.Memory.{Memory}
use Rattle.columns.specs.Memories as memory
use Rattle.columns.specs.Plans.{messages_of}
use Rattle.columns.specs.Telling.{Tells}
use Rattle.orders.specs.declared.call.Batch.{Batch}
use Rattle.pack.specs.declared.plan.PlannedBatch.{PlannedBatch}

-- its dictionaries are those that its columns meet, the memories hold its messages and tell what is sent, and the new values
-- are kept
pub record IsPlanned (rec : Recording) (o : IpcWriteOptions) (b : Batch) (t u : DictionaryTracker) (before after : Memory) (p : PlannedBatch) : Type 0 where
  pub columns : Columns
  pub found : ColumnsFound rec b.first b.columns b.rows (Ok columns)
  pub met : AreMet o (kept_windows t) columns p.met.items
  pub planned : memory.Planned (alignment_number o.alignment) (messages_of columns p.met.items) before after p.messages
  pub told : Tells (alignment_number o.alignment) (bytes_in rec) (messages_of columns p.met.items) after p.messages
  pub kept : kept_windows u ≡ kept_after (kept_windows t) p.met.items

-- a memory is too short for the messages of its columns and of the dictionaries that they meet
pub record IsShort (rec : Recording) (o : IpcWriteOptions) (b : Batch) (t : DictionaryTracker) (before after : Memory) (f : Fault) : Type 0 where
  pub columns : Columns
  pub met : List MetDictionary
  pub found : ColumnsFound rec b.first b.columns b.rows (Ok columns)
  pub are_met : AreMet o (kept_windows t) columns met
  pub refused : memory.Refused (messages_of columns met) before after f

-- its columns are none, one of its dictionaries is refused, or a memory is too short; what is kept stays, and what is lent
pub record IsUnplanned (rec : Recording) (o : IpcWriteOptions) (b : Batch) (t u : DictionaryTracker) (before after : Memory) (f : Fault) : Type 0 where
  pub why : ColumnsFound rec b.first b.columns b.rows (Err f)
      ⊎ (((c : Columns) × ColumnsFound rec b.first b.columns b.rows (Ok c) × (updates_of_batch o (kept_windows t) c ≡ Err f))
      ⊎ IsShort rec o b t before after f)
  pub unchanged : u ≡ t
  pub same_memory : after ≡ before
