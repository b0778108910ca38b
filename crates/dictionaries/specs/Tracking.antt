-- What a tracker keeps.
use Rattle.std.specs.Prelude.{ℕ, Bool, cond, ◌&&◌, List, map, take, length, Some, None, Option, Ok, Err, Result, nat_lt, nat_le, slice_index_or, slice_set}
use Rattle.layout.specs.declared.fault.Refusal.{Refusal}
use Rattle.layout.specs.Windows as layout
use Rattle.layout.specs.Windows.{shown_in}
use Rattle.layout.specs.declared.node.Node.{Node}
use Rattle.recording.specs.declared.window.Window.{Window}
use Rattle.layout.specs.Nodes.{node_at}
use Rattle.dictionaries.specs.declared.tracker.DictionaryTracker.{DictionaryTracker}
use Rattle.dictionaries.specs.declared.written.Entry.{Entry}
use Rattle.dictionaries.specs.declared.update.DictionaryUpdate.{DictionaryUpdate}
use Rattle.dictionaries.specs.declared.update.DictionaryUpdate.TheVariants as update
use Rattle.dictionaries.specs.declared.update.DictionaryValues.{DictionaryValues}
use Rattle.dictionaries.specs.Collecting.{Kept, absent, lacking, shows}

abbrev pub nothing_kept : Entry
nothing_kept = record { kept = None }

abbrev pub entry_of : DictionaryValues → Entry
entry_of v = record { kept = Some v }

abbrev pub kept_at : List Entry → ℕ → Option DictionaryValues
kept_at es id = (slice_index_or es id nothing_kept).kept

-- of so many ids
abbrev pub kept_of_entries : ℕ → List Entry → List (Option DictionaryValues)
kept_of_entries n es = map (λ (e : Entry). e.kept) (take n es)

-- of each id that is given out, what is kept, if anything is
abbrev pub kept_windows : DictionaryTracker → List (Option DictionaryValues)
kept_windows t = kept_of_entries t.dict_ids t.written.entries

-- ---- what a recording shows of it

-- of nodes ns over the bytes bs
abbrev pub values_at : List Node → List ℕ → DictionaryValues → layout.Window
values_at ns bs v = record { nodes = ns; bytes = bs; node = v.node; first = 0; rows = v.rows }

-- the node and the rows are there
abbrev pub has_values : List Node → DictionaryValues → Bool
has_values ns v = nat_lt v.node (length ns) && nat_le v.rows (node_at ns v.node).rows

abbrev pub kept_shown : List Node → List ℕ → Option DictionaryValues → Kept
kept_shown ns bs None = absent
kept_shown ns bs (Some v) = cond (has_values ns v) (shows (shown_in (values_at ns bs v))) lacking

-- ---- how it changes

-- the values that a window has, if they are all rows of a node
abbrev pub values_of : Window → DictionaryValues
values_of w = record { node = w.node.index; rows = w.rows }

-- an update keeps the new values, None what was kept
abbrev pub entered : ℕ → DictionaryValues → Result DictionaryUpdate Refusal → List Entry → List Entry
entered id v (Err r) es = es
entered id v (Ok update.None) es = es
entered id v (Ok update.New) es = slice_set es id (entry_of v)
entered id v (Ok update.Replaced) es = slice_set es id (entry_of v)
entered id v (Ok (update.Delta k)) es = slice_set es id (entry_of v)
