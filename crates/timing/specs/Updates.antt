-- The update of a dictionary after another was kept.
use Rattle.std.specs.Prelude.{◌≡◌, ◌⊎◌, ℕ, false, List, [], ◌∷◌, None, Option, Ok, Err, Result}
use Rattle.layout.specs.declared.fault.Fault.{Fault}
use Rattle.recording.specs.declared.columns.Columns.{Columns}
use Rattle.recording.specs.declared.options.DictionaryHandling.TheVariants.{Resend}
use Rattle.recording.specs.declared.options.IpcWriteOptions.{IpcWriteOptions}
use Rattle.recording.specs.declared.recording.Recording.{Recording}
use Rattle.recording.specs.ColumnPlaces.{ColumnsFound}
use Rattle.recording.specs.Options.{Sets}
use Rattle.dictionaries.specs.declared.update.DictionaryUpdate.{DictionaryUpdate}
use Rattle.dictionaries.specs.declared.update.DictionaryUpdate.TheVariants as update
use Rattle.dictionaries.specs.declared.update.DictionaryValues.{DictionaryValues}
use Rattle.dictionaries.specs.declared.update.MetDictionary.{MetDictionary}
use Rattle.dictionaries.specs.Batches.{AreMet, updates_of_batch, kept_after}

-- what collecting the column of one row at a node comes to
abbrev pub Collects : Recording → IpcWriteOptions → List (Option DictionaryValues) → ℕ → Result (List MetDictionary) Fault → Type 0
Collects rec o kept i (Ok ms) = (c : Columns) × ColumnsFound rec i 1 1 (Ok c) × AreMet o kept c ms
Collects rec o kept i (Err f) = ColumnsFound rec i 1 1 (Err f) ⊎ ((c : Columns) × ColumnsFound rec i 1 1 (Ok c) × (updates_of_batch o kept c ≡ Err f))

-- what collecting one column comes to after another was kept under one id, unless that is refused
abbrev pub Recollects : Recording → IpcWriteOptions → ℕ → ℕ → Result (List MetDictionary) Fault → Type 0
Recollects rec o kept new r =
    ((f : Fault) × (r ≡ Err f) × Collects rec o (None ∷ []) kept (Err f))
    ⊎ ((ms : List MetDictionary) × Collects rec o (None ∷ []) kept (Ok ms) × Collects rec o (kept_after (None ∷ []) ms) new r)

abbrev pub update_number : DictionaryUpdate → ℕ
update_number update.None = 0
update_number update.New = 1
update_number update.Replaced = 2
update_number (update.Delta k) = 3

-- of the first dictionary met
abbrev pub first_number : List MetDictionary → ℕ
first_number [] = 4
first_number (m ∷ ms) = update_number m.update

abbrev pub number_told : Result (List MetDictionary) Fault → ℕ
number_told (Ok ms) = first_number ms
number_told (Err f) = 4

-- n is the number of the update, by the options that are so without being set
abbrev pub TellsUpdate : Recording → ℕ → ℕ → ℕ → Type 0
TellsUpdate rec kept new n = (o : IpcWriteOptions) × Sets o 64 Resend false × (r : Result (List MetDictionary) Fault) × Recollects rec o kept new r × (n ≡ number_told r)

-- what `recollect` answers
abbrev pub AreRecollected : Recording → ℕ → ℕ → Result (List MetDictionary) Fault → Type 0
AreRecollected rec kept new r = (o : IpcWriteOptions) × Sets o 64 Resend false × Recollects rec o kept new r
