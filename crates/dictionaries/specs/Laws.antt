-- What collecting depends on, and what it keeps.
use Rattle.std.specs.Prelude.{◌≡◌, ℕ, List, [], ◌∷◌, map, Option}
use Rattle.layout.specs.Shown.{Shown}
use Rattle.layout.specs.Windows.{shown_side}
use Rattle.recording.specs.declared.columns.Columns.{Columns}
use Rattle.recording.specs.declared.options.IpcWriteOptions.{IpcWriteOptions}
use Rattle.dictionaries.specs.declared.update.DictionaryUpdate.{DictionaryUpdate}
use Rattle.dictionaries.specs.declared.update.DictionaryUpdate.TheVariants as update
use Rattle.dictionaries.specs.declared.update.DictionaryValues.{DictionaryValues}
use Rattle.dictionaries.specs.declared.update.MetDictionary.{MetDictionary}
use Rattle.dictionaries.specs.Batches.{column_windows, met_in_batch, kept_in_batch, updates_of_batch, AreMet, kept_after}
use Rattle.dictionaries.specs.Collecting.{Met, Kept, shows}
use Rattle.dictionaries.specs.Walking.{updates_in}

-- ---- nothing that is not shown counts

-- a dictionary met apart from its node's number in the recording: where it is in the batch, its rows and its update
pub record Apart : Type 0 where
  pub column : ℕ
  pub node : ℕ
  pub rows : ℕ
  pub update : DictionaryUpdate

abbrev pub apart : MetDictionary → Apart
apart m = record { column = m.column; node = m.node; rows = m.values.rows; update = m.update }

-- the columns of two batches, of any two recordings, show the same, and so does what is kept
pub record ShowSame (c d : Columns) (ks ls : List (Option DictionaryValues)) : Type 0 where
  pub columns : shown_side (column_windows c) ≡ shown_side (column_windows d)
  pub kept : kept_in_batch c ks ≡ kept_in_batch d ls

pub record NothingElseCounts : Type 0 where
  pub updates : (o : IpcWriteOptions) (c d : Columns) (ks ls : List (Option DictionaryValues)) → ShowSame c d ks ls → updates_of_batch o ks c ≡ updates_of_batch o ls d
  pub met : (o : IpcWriteOptions) (c d : Columns) (ks ls : List (Option DictionaryValues)) (ms ns : List MetDictionary) → ShowSame c d ks ls → AreMet o ks c ms → AreMet o ls d ns
      → map apart ms ≡ map apart ns

-- ---- what is kept after a batch shows what it showed: the new values of each dictionary met whose update is not None

abbrev pub shown_by : Kept → Shown → DictionaryUpdate → Kept
shown_by k s update.None = k
shown_by k s update.New = shows s
shown_by k s update.Replaced = shows s
shown_by k s (update.Delta n) = shows s

abbrev pub shown_after : List Kept → List DictionaryUpdate → List Met → List Kept
shown_after [] us ds = []
shown_after (k ∷ ks) [] ds = k ∷ ks
shown_after (k ∷ ks) (u ∷ us) [] = k ∷ ks
shown_after (k ∷ ks) (u ∷ us) (d ∷ ds) = shown_by k d.values u ∷ shown_after ks us ds

abbrev pub KeepsShown : Type 0
KeepsShown = (o : IpcWriteOptions) (c : Columns) (ks : List (Option DictionaryValues)) (ms : List MetDictionary) → AreMet o ks c ms
    → kept_in_batch c (kept_after ks ms) ≡ shown_after (kept_in_batch c ks) (updates_in ms) (met_in_batch c)
