-- Rows, by the places of their nodes.
use Rattle.std.specs.Prelude.{ℕ, ◌-◌, List, map}
use Rattle.std.specs.List.{range_with_len}
use Rattle.recording.specs.declared.row.Row.{Row}
use Rattle.recording.specs.declared.rows.Parts.{Parts}
use Rattle.recording.specs.declared.rows.Rows.{Rows}
use Rattle.recording.specs.declared.window.Window.{Window}
use Rattle.recording.specs.Places.{Place, place_of}
use Rattle.recording.specs.Trees.{places_left}

abbrev pub RowPlace : Type 0
RowPlace = Place × ℕ

abbrev pub row_place : Row → RowPlace
row_place r = (place_of r.node, r.index)

-- so many rows of a node, from one on
abbrev pub rows_from : Place → ℕ → ℕ → List RowPlace
rows_from p a n = map (λ (r : ℕ). (p, r)) (range_with_len a n)

abbrev pub rows_left : Rows → List RowPlace
rows_left s = rows_from (place_of s.node) s.left.start (s.left.end - s.left.start)

abbrev pub rows_of_window : Window → List RowPlace
rows_of_window w = rows_from (place_of w.node) w.first w.rows

-- one row of each of some nodes
abbrev pub row_of_places : ℕ → List Place → List RowPlace
row_of_places r ps = map (λ (p : Place). (p, r)) ps

abbrev pub parts_left : Parts → List RowPlace
parts_left s = row_of_places s.index (places_left s.nodes)
