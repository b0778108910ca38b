-- Dictionaries collected on a walk over windows.
use Rattle.std.specs.Prelude.{◌≡◌, ℕ, ◌+◌, ◌-◌, ◌<◌, List, All, [], ◌∷◌, ◌++◌, map, take, drop, length, Some, None, Ok, Err, Option, Result, IsSome}
use Rattle.layout.specs.declared.fault.Fault.{Fault}
use Rattle.layout.specs.declared.fault.Refusal.{Refusal}
use Rattle.layout.specs.declared.fault.Refusal.TheVariants.{DictionaryAboveDictionary}
use Rattle.layout.specs.declared.node.Node.{Node}
use Rattle.layout.specs.Faults.{fault_of}
use Rattle.layout.specs.Nodes.{node_at}
use Rattle.layout.specs.Windows as layout
use Rattle.layout.specs.Windows.{shown_in}
use Rattle.recording.specs.declared.options.IpcWriteOptions.{IpcWriteOptions}
use Rattle.dictionaries.specs.declared.update.DictionaryUpdate.{DictionaryUpdate}
use Rattle.dictionaries.specs.declared.update.MetDictionary.{MetDictionary}
use Rattle.dictionaries.specs.declared.written.Entry.{Entry}
use Rattle.dictionaries.specs.Collecting.{Met, Kept, collected, met_from}
use Rattle.dictionaries.specs.Tracking.{values_at, kept_shown}

-- ---- what is listed

abbrev pub update_in : MetDictionary → DictionaryUpdate
update_in m = m.update

abbrev pub updates_in : List MetDictionary → List DictionaryUpdate
updates_in ms = map update_in ms

-- ---- a walk over windows of nodes ns over the bytes bs, of a tracker with so many ids

pub record Walked : Type 0 where
  pub options : IpcWriteOptions
  pub nodes : List Node
  pub bytes : List ℕ
  pub ids : ℕ
  -- the column, and its first node
  pub column : ℕ
  pub first : ℕ
  -- the dictionary above, if there is one, by its node
  pub above : Option ℕ

-- what is kept, and what is listed so far
pub record State : Type 0 where
  pub entries : List Entry
  pub listed : List MetDictionary

abbrev pub met_of : Walked → MetDictionary → Met
met_of w m = record { column = m.column; node = m.node; values = shown_in (values_at w.nodes w.bytes m.values) }

-- what is kept under the ids that no dictionary has taken
abbrev pub kept_left : Walked → State → List Kept
kept_left w s = drop (length s.listed) (map (λ (e : Entry). kept_shown w.nodes w.bytes e.kept) (take w.ids s.entries))

-- below a dictionary, the first that is met refuses the one above
abbrev pub tried : Option ℕ → IpcWriteOptions → List Kept → List Met → Result (List DictionaryUpdate) Fault
tried None o ks ds = collected o ks ds
tried (Some u) o ks [] = Ok []
tried (Some u) o ks (d ∷ ds) = Err (fault_of DictionaryAboveDictionary d.column u)

abbrev pub after : List DictionaryUpdate → Result (List DictionaryUpdate) Fault → Result (List DictionaryUpdate) Fault
after us (Ok vs) = Ok (us ++ vs)
after us (Err f) = Err f

-- what the whole comes to, where these are still to be met
abbrev pub outcome : Walked → State → List Met → Result (List DictionaryUpdate) Fault
outcome w s ds = after (updates_in s.listed) (tried w.above w.options (kept_left w s) ds)

-- the values are all rows of the node after its own, and it is of the column
pub record IsPlaced (w : Walked) (m : MetDictionary) : Type 0 where
  pub column : m.column ≡ w.column
  pub node : m.values.node ≡ w.first + m.node + 1
  pub stands : m.values.node < length w.nodes
  pub rows : m.values.rows ≡ (node_at w.nodes m.values.node).rows

-- from one state to another these are met: they are listed, and the outcome stays the same, whatever follows
pub record Steps (w : Walked) (ds : List Met) (s t : State) : Type 0 where
  pub outcome : (rest : List Met) → outcome w s (ds ++ rest) ≡ outcome w t rest
  pub more : List MetDictionary
  pub listed : t.listed ≡ s.listed ++ more
  pub met : map (met_of w) more ≡ ds
  pub placed : All (IsPlaced w) more
  pub unchanged : IsSome w.above → t ≡ s

abbrev pub Refuses : Walked → List Met → State → Fault → Type 0
Refuses w ds s f = (rest : List Met) → outcome w s (ds ++ rest) ≡ Err f

abbrev pub Told : Walked → List Met → State → State → Result (Unit {0}) Fault → Type 0
Told w ds s t (Ok _) = Steps w ds s t
Told w ds s t (Err f) = Refuses w ds s f

-- ---- windows one after another, in a column that starts at a node

abbrev pub met_in_window : ℕ → ℕ → layout.Window → List Met
met_in_window c first w = met_from c (w.node - first) (shown_in w)

abbrev pub met_in_windows : ℕ → ℕ → List layout.Window → List Met
met_in_windows c first [] = []
met_in_windows c first (w ∷ ws) = met_in_window c first w ++ met_in_windows c first ws

-- ---- a refusal at its place

abbrev pub placed : ℕ → ℕ → Result DictionaryUpdate Refusal → Result DictionaryUpdate Fault
placed c k (Ok u) = Ok u
placed c k (Err r) = Err (fault_of r c k)
