-- What collecting the dictionaries of a batch comes to.
use Rattle.std.specs.Prelude.{◌≡◌, ◌⊎◌, List, Ok, Err}
use Rattle.layout.specs.declared.fault.Fault.{Fault}
use Rattle.recording.specs.declared.columns.Columns.{Columns}
use Rattle.recording.specs.declared.options.IpcWriteOptions.{IpcWriteOptions}
use Rattle.recording.specs.declared.recording.Recording.{Recording}
use Rattle.recording.specs.ColumnPlaces.{ColumnsFound}
use Rattle.orders.specs.declared.call.Batch.{Batch}
use Rattle.dictionaries.specs.declared.tracker.DictionaryTracker.{DictionaryTracker}
use Rattle.dictionaries.specs.declared.update.MetDictionary.{MetDictionary}
use Rattle.dictionaries.specs.Batches.{AreMet, updates_of_batch, kept_after}
use Rattle.dictionaries.specs.Tracking.{kept_windows}

-- these are the dictionaries that its columns meet, and their new values are kept
pub record IsCollected (rec : Recording) (o : IpcWriteOptions) (b : Batch) (t u : DictionaryTracker) (ms : List MetDictionary) : Type 0 where
  pub columns : Columns
  pub found : ColumnsFound rec b.first b.columns b.rows (Ok columns)
  pub met : AreMet o (kept_windows t) columns ms
  pub kept : kept_windows u ≡ kept_after (kept_windows t) ms

-- its columns are none, or one of its dictionaries is refused; what is kept stays
pub record IsRefused (rec : Recording) (o : IpcWriteOptions) (b : Batch) (t u : DictionaryTracker) (f : Fault) : Type 0 where
  pub why : ColumnsFound rec b.first b.columns b.rows (Err f)
      ⊎ ((c : Columns) × ColumnsFound rec b.first b.columns b.rows (Ok c) × (updates_of_batch o (kept_windows t) c ≡ Err f))
  pub unchanged : u ≡ t
