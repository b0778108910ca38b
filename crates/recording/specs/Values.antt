-- The value of a row, and what a reader is told of it.
use Rattle.std.specs.Prelude.{◌≡◌, ◌+◌, ◌<◌, ◌⊎◌, true, false, List, [], ◌∷◌, map}
use Rattle.layout.specs.declared.kind.Kind.{Kind}
use Rattle.layout.specs.declared.kind.Kind.TheVariants.{Null, Boolean, Fixed, Bytes32, Bytes64, List32, List64, Struct, Dictionary}
use Rattle.layout.specs.Numbers.{unle}
use Rattle.layout.specs.Shown.{Value, null, held}
use Rattle.layout.specs.Trees.{tree_at}
use Rattle.layout.specs.Windows.{value_at, values_in}
use Rattle.recording.specs.declared.row.Row.{Row}
use Rattle.recording.specs.declared.value.RowValue.{RowValue}
use Rattle.recording.specs.declared.value.RowValue.TheVariants as row
use Rattle.recording.specs.declared.rows.Parts.{Parts}
use Rattle.recording.specs.NodeRefs.{IsNode}
use Rattle.recording.specs.Places.{children_of}
use Rattle.recording.specs.Rows.{mark_of, slot_of, IsElements}
use Rattle.recording.specs.Trees.{places_left}
use Rattle.recording.specs.RowPlaces.{RowPlace, row_place, rows_of_window, parts_left}
use Rattle.recording.specs.View.{nodes_in, bytes_in}
use Rattle.recording.specs.Windows.{window_in}

-- the value of a row, by the definition of what rows have
abbrev pub value_of_place : RowPlace → Value
value_of_place q = value_at (bytes_in q.0.0) (tree_at (nodes_in q.0.0) q.0.1) q.1

abbrev pub value_of : Row → Value
value_of r = value_of_place (row_place r)

-- the value that an answer stands for
abbrev pub meaning : RowValue → Value
meaning row.Null = null
meaning (row.Bit b) = Value.bit b
meaning (row.Fixed s) = Value.bytes s.now
meaning (row.Bytes s) = Value.bytes s.now
meaning (row.List v) = Value.list (held (values_in (window_in v)))
meaning (row.Struct p) = Value.struct (held (map value_of_place (parts_left p)))
meaning (row.Entry r) = value_of r

-- the row that a key names
abbrev pub IsEntry : Row → Row → Type 0
IsEntry r e = IsNode r.node.recording (r.node.index + 1) e.node × (e.index ≡ unle (slot_of r))

-- the same row of each child
abbrev pub AreParts : Row → Parts → Type 0
AreParts r p = (places_left p.nodes ≡ children_of r.node) × (p.index ≡ r.index)

-- the answer is that of the kind, and is Null just where the row is null
abbrev pub Tells : Row → Kind → RowValue → Type 0
Tells r k row.Null = (k ≡ Null) ⊎ (mark_of r ≡ false)
Tells r k (row.Bit b) = (k ≡ Boolean) × (mark_of r ≡ true)
Tells r k (row.Fixed s) = (k ≡ Fixed) × (mark_of r ≡ true)
Tells r k (row.Bytes s) = ((k ≡ Bytes32) ⊎ (k ≡ Bytes64)) × (mark_of r ≡ true)
Tells r k (row.List v) = ((k ≡ List32) ⊎ (k ≡ List64)) × (mark_of r ≡ true) × IsElements r v
Tells r k (row.Struct p) = (k ≡ Struct) × (mark_of r ≡ true) × AreParts r p
Tells r k (row.Entry e) = (k ≡ Dictionary) × (mark_of r ≡ true) × IsEntry r e

-- the rows that an answer names
abbrev pub rows_named : RowValue → List RowPlace
rows_named row.Null = []
rows_named (row.Bit b) = []
rows_named (row.Fixed s) = []
rows_named (row.Bytes s) = []
rows_named (row.List v) = rows_of_window v
rows_named (row.Struct p) = parts_left p
rows_named (row.Entry e) = row_place e ∷ []

-- a row of a node after that of row r, in the same recording
abbrev pub StandsBelow : Row → RowPlace → Type 0
StandsBelow r q = (q.0.0 ≡ r.node.recording) × (r.node.index < q.0.1)
