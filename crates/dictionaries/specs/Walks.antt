-- The walks of the code.
use Rattle.std.specs.Prelude.{ℕ, ◌+◌, ◌-◌, List, Option}
use Rattle.layout.specs.Shown.{below}
use Rattle.layout.specs.Windows as layout
use Rattle.layout.specs.Windows.{shown_in}
use Rattle.recording.specs.declared.window.Window.{Window}
use Rattle.recording.specs.NodeRefs.{table_of, run_of}
use Rattle.dictionaries.specs.declared.collect.Walk.{Walk}
use Rattle.dictionaries.specs.declared.update.MetDictionary.{MetDictionary}
use Rattle.dictionaries.specs.declared.written.Written.{Written}
use Rattle.dictionaries.specs.Collecting.{Met, met_from_all}
use Rattle.dictionaries.specs.Walking.{Walked, State}

abbrev pub walk_of : Walk → Window → Option ℕ → Walked
walk_of k w above = record { options = k.options.now; nodes = table_of w.node; bytes = run_of w.node; ids = k.ids; column = k.column; first = k.first; above = above }

abbrev pub state_of : Written → List MetDictionary → State
state_of t ms = record { entries = t.entries; listed = ms }

-- below a window, in a column that starts at a node
abbrev pub below_window : ℕ → ℕ → layout.Window → List Met
below_window c first w = met_from_all c (w.node - first + 1) (below (shown_in w))
