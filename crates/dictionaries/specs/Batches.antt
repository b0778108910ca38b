-- The dictionaries of a batch.
use Rattle.std.specs.Prelude.{◌≡◌, ◌+◌, ◌<◌, List, All, map, length, [], ◌∷◌, Some, Option, Ok, Err, Result}
use Rattle.layout.specs.declared.fault.Fault.{Fault}
use Rattle.layout.specs.Columns.{column_node}
use Rattle.layout.specs.Nodes.{node_at}
use Rattle.layout.specs.Windows as layout
use Rattle.layout.specs.Windows.{shown_in, shown_side}
use Rattle.recording.specs.declared.columns.Columns.{Columns}
use Rattle.recording.specs.declared.options.IpcWriteOptions.{IpcWriteOptions}
use Rattle.recording.specs.ColumnPlaces.{column_places}
use Rattle.recording.specs.Passing.{rows_of_places}
use Rattle.recording.specs.View.{nodes_in, bytes_in}
use Rattle.dictionaries.specs.declared.update.DictionaryUpdate.{DictionaryUpdate}
use Rattle.dictionaries.specs.declared.update.DictionaryUpdate.TheVariants as update
use Rattle.dictionaries.specs.declared.update.DictionaryValues.{DictionaryValues}
use Rattle.dictionaries.specs.declared.update.MetDictionary.{MetDictionary}
use Rattle.dictionaries.specs.Collecting.{Met, Kept, collected, met_columns}
use Rattle.dictionaries.specs.Tracking.{values_at, kept_shown}
use Rattle.dictionaries.specs.Walking.{updates_in}

-- the windows of the columns: all rows of each
abbrev pub column_windows : Columns → List layout.Window
column_windows c = rows_of_places 0 c.rows (column_places c)

-- the dictionaries that they meet, from what they show
abbrev pub met_in_batch : Columns → List Met
met_in_batch c = met_columns 0 (shown_side (column_windows c))

-- what a recording shows of what is kept under each id
abbrev pub kept_in_batch : Columns → List (Option DictionaryValues) → List Kept
kept_in_batch c ks = map (kept_shown (nodes_in c.recording) (bytes_in c.recording)) ks

-- their updates, or the first refusal
abbrev pub updates_of_batch : IpcWriteOptions → List (Option DictionaryValues) → Columns → Result (List DictionaryUpdate) Fault
updates_of_batch o ks c = collected o (kept_in_batch c ks) (met_in_batch c)

abbrev pub met_as : Columns → MetDictionary → Met
met_as c m = record { column = m.column; node = m.node; values = shown_in (values_at (nodes_in c.recording) (bytes_in c.recording) m.values) }

-- the values are all rows of the node after the dictionary's own, whose number counts from its column's first node
pub record IsPlacedIn (c : Columns) (m : MetDictionary) : Type 0 where
  pub node : m.values.node ≡ column_node (nodes_in c.recording) c.first m.column + m.node + 1
  pub stands : m.values.node < length (nodes_in c.recording)
  pub rows : m.values.rows ≡ (node_at (nodes_in c.recording) m.values.node).rows

-- these are the dictionaries met, each with its update
pub record AreMet (o : IpcWriteOptions) (ks : List (Option DictionaryValues)) (c : Columns) (ms : List MetDictionary) : Type 0 where
  pub updates : updates_of_batch o ks c ≡ Ok (updates_in ms)
  pub met : map (met_as c) ms ≡ met_in_batch c
  pub placed : All (IsPlacedIn c) ms

abbrev pub Collects : IpcWriteOptions → List (Option DictionaryValues) → Columns → Result (List MetDictionary) Fault → Type 0
Collects o ks c (Ok ms) = AreMet o ks c ms
Collects o ks c (Err f) = updates_of_batch o ks c ≡ Err f

-- ---- what is kept then

-- an update keeps the new values, None what was kept
abbrev pub kept_by : Option DictionaryValues → DictionaryValues → DictionaryUpdate → Option DictionaryValues
kept_by k v update.None = k
kept_by k v update.New = Some v
kept_by k v update.Replaced = Some v
kept_by k v (update.Delta n) = Some v

-- the j-th dictionary met is of the j-th id
abbrev pub kept_after : List (Option DictionaryValues) → List MetDictionary → List (Option DictionaryValues)
kept_after [] ms = []
kept_after (k ∷ ks) [] = k ∷ ks
kept_after (k ∷ ks) (m ∷ ms) = kept_by k m.values m.update ∷ kept_after ks ms
