-- The nodes of columns.
use Rattle.std.specs.Prelude.{◌≡◌, ℕ, ◌<◌, List, [], Ok, Err, Result}
use Rattle.layout.specs.declared.fault.Fault.{Fault}
use Rattle.layout.specs.Columns.{column_node, ColumnsAnswer}
use Rattle.recording.specs.declared.columns.Columns.{Columns}
use Rattle.recording.specs.declared.recording.Recording.{Recording}
use Rattle.recording.specs.Places.{Place, places_between}
use Rattle.recording.specs.View.{nodes_in}

abbrev pub column_places : Columns → List Place
column_places c = places_between c.recording c.first c.end

-- so many columns of these rows, from a node of a recording on, or why they are none
abbrev pub ColumnsFound : Recording → ℕ → ℕ → ℕ → Result Columns Fault → Type 0
ColumnsFound rec first count rows (Ok c) =
    ColumnsAnswer (nodes_in rec) first count rows (Ok tt) × (c.recording ≡ rec) × (c.first ≡ first) × (c.rows ≡ rows) × (0 < count → c.end ≡ column_node (nodes_in rec) first count)
    × (count ≡ 0 → column_places c ≡ [])
ColumnsFound rec first count rows (Err f) = ColumnsAnswer (nodes_in rec) first count rows (Err f)
