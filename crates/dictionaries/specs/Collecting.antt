-- What is sent of the dictionaries that a batch meets, from what they show and what the kept windows showed.
use Rattle.std.specs.Prelude.{ℕ, ◌+◌, Bool, true, false, cond, List, [], ◌∷◌, ◌++◌, Ok, Err, Result}
use Rattle.layout.specs.declared.fault.Fault.{Fault}
use Rattle.layout.specs.declared.fault.Refusal.{Refusal}
use Rattle.layout.specs.declared.fault.Refusal.TheVariants.{DictionaryAboveDictionary, NoId, Replacement}
use Rattle.layout.specs.Faults.{fault_of}
use Rattle.layout.specs.Shown.{Label, Shown, Showns, nulls, bools, fixed, bytes, lists, struct, dictionary, none, more, count, met}
use Rattle.recording.specs.declared.options.DictionaryHandling.{DictionaryHandling}
use Rattle.recording.specs.declared.options.DictionaryHandling.TheVariants as handling
use Rattle.recording.specs.declared.options.IpcWriteOptions.{IpcWriteOptions}
use Rattle.dictionaries.specs.declared.comparison.DictionaryComparison.{DictionaryComparison}
use Rattle.dictionaries.specs.declared.comparison.DictionaryComparison.TheVariants as compared
use Rattle.dictionaries.specs.declared.update.DictionaryUpdate.{DictionaryUpdate}
use Rattle.dictionaries.specs.declared.update.DictionaryUpdate.TheVariants as update
use Rattle.dictionaries.specs.Comparing.{comparison}

-- ---- the dictionaries met

-- the column that one is met in, its node within the column, and what its values show
pub record Met : Type 0 where
  pub column : ℕ
  pub node : ℕ
  pub values : Shown

abbrev pub label_in : Shown → Label
label_in (nulls l n) = l
label_in (bools l m b) = l
label_in (fixed l w m vs) = l
label_in (bytes l w m vs) = l
label_in (lists l w m cs s) = l
label_in (struct l m n ss) = l
label_in (dictionary l w m ks s) = l

-- in column c, from its node i on: each node before its children, a next child span nodes further. Below a dictionary none is listed: there
-- the upper one is refused
unfoldable mutual
  pub met_from : ℕ → ℕ → Shown → List Met
  met_from c i (nulls l n) = []
  met_from c i (bools l m b) = []
  met_from c i (fixed l w m vs) = []
  met_from c i (bytes l w m vs) = []
  met_from c i (lists l w m cs s) = met_from c (i + 1) s
  met_from c i (struct l m n ss) = met_from_all c (i + 1) ss
  met_from c i (dictionary l w m ks s) = record { column = c; node = i; values = s } ∷ []

  pub met_from_all : ℕ → ℕ → Showns → List Met
  met_from_all c i none = []
  met_from_all c i (more s ss) = met_from c i s ++ met_from_all c (i + (label_in s).span) ss

-- column by column
abbrev pub met_columns : ℕ → Showns → List Met
met_columns c none = []
met_columns c (more s ss) = met_from c 0 s ++ met_columns (c + 1) ss

-- ---- updates

-- what is kept under an id: nothing, a window that the recording lacks, or what a window shows
pub data Kept : Type 0 where
  absent : Kept
  lacking : Kept
  shows : Shown → Kept

-- a window that the recording lacks is unequal
abbrev pub compared_with : Kept → Shown → DictionaryComparison
compared_with absent s = compared.NotEqual
compared_with lacking s = compared.NotEqual
compared_with (shows k) s = comparison k s

-- of k rows kept
abbrev pub update_by : DictionaryHandling → ℕ → DictionaryComparison → DictionaryUpdate
update_by h k compared.Equal = update.None
update_by h k compared.NotEqual = update.Replaced
update_by handling.Resend k compared.Delta = update.Replaced
update_by handling.Delta k compared.Delta = update.Delta k

-- a replacement is refused where that is asked
abbrev pub allowed : Bool → DictionaryUpdate → Result DictionaryUpdate Refusal
allowed refuses update.None = Ok update.None
allowed refuses update.New = Ok update.New
allowed refuses update.Replaced = cond refuses (Err Replacement) (Ok update.Replaced)
allowed refuses (update.Delta k) = Ok (update.Delta k)

-- the update of a dictionary that shows s
abbrev pub update_of : IpcWriteOptions → Kept → Shown → Result DictionaryUpdate Refusal
update_of o absent s = Ok update.New
update_of o lacking s = allowed o.error_on_replacement update.Replaced
update_of o (shows k) s = allowed o.error_on_replacement (update_by o.dictionary_handling (count k) (comparison k s))

-- ---- collecting

abbrev pub refused : Refusal → Met → Result (List DictionaryUpdate) Fault
refused r d = Err (fault_of r d.column d.node)

abbrev pub updated : Met → Result DictionaryUpdate Refusal → Result (List DictionaryUpdate) Fault → Result (List DictionaryUpdate) Fault
updated d (Err r) rest = refused r d
updated d (Ok u) (Err f) = Err f
updated d (Ok u) (Ok us) = Ok (u ∷ us)

-- no dictionary is met in its values
abbrev pub alone : List Shown → Bool
alone [] = true
alone (s ∷ ss) = false

-- the updates of the dictionaries met, or the first refusal; the j-th takes the j-th of what is kept under the ids given out
abbrev pub collected : IpcWriteOptions → List Kept → List Met → Result (List DictionaryUpdate) Fault
collected o ks [] = Ok []
collected o [] (d ∷ ds) = cond (alone (met d.values)) (refused NoId d) (refused DictionaryAboveDictionary d)
collected o (k ∷ ks) (d ∷ ds) =
    cond (alone (met d.values)) (updated d (update_of o k d.values) (collected o ks ds)) (refused DictionaryAboveDictionary d)
