use Rattle.std.proofs.Common.{◌≡◌, ℕ, ◌<◌, ◌≤◌, length}
use Rattle.layout.specs.Columns.{column_node, ColumnFits}
use Rattle.recording.specs.View.{nodes_in}
use Rattle.recording.specs.Places.{trees_of}
use Rattle.recording.specs.Trees.{places_left}
use Rattle.recording.proofs.Fitting.{SoFar}
use Rattle.recording.proofs.recording.Recording.columns.Given as goal

abbrev pub invariant-loop-column : goal.invariant-loop-column
invariant-loop-column l =
    (places_left l.nodes ≡ trees_of l.self (column_node (nodes_in l.self) l.first l.column))
    × ((k : ℕ) → k < l.column → ColumnFits (nodes_in l.self) l.first l.rows k)
    × SoFar l.self l.first l.rows l.column
    × (l.end ≤ length (nodes_in l.self))
    × (0 < l.column → l.end ≡ column_node (nodes_in l.self) l.first l.column)
    × (l.column ≡ 0 → l.end ≤ l.first)
