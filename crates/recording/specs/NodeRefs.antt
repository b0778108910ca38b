-- A node of an opened recording.
use Rattle.std.specs.Prelude.{◌≡◌, ℕ, ◌+◌, ◌≤◌, cond, List, Some}
use Rattle.layout.specs.declared.kind.Kind.{Kind}
use Rattle.layout.specs.declared.node.Node.{Node}
use Rattle.layout.specs.declared.number.Width.{Width}
use Rattle.layout.specs.Kinds.{has_bitmap, offset_width}
use Rattle.layout.specs.Nodes.{bitmap_of}
use Rattle.layout.specs.Numbers.{wide}
use Rattle.layout.specs.Rows.{offset_at, nulls_in}
use Rattle.layout.specs.Rules.{Is, HasOffsets, reach}
use Rattle.recording.specs.declared.recording.Recording.{Recording}
use Rattle.recording.specs.declared.node.NodeRef.{NodeRef}
use Rattle.recording.specs.View.{nodes_in, bytes_in, node_of}

-- the table that it stands in, and the bytes that its rows lie in
abbrev pub table_of : NodeRef → List Node
table_of n = nodes_in n.recording

abbrev pub run_of : NodeRef → List ℕ
run_of n = bytes_in n.recording

-- its ten numbers
abbrev pub numbers_of : NodeRef → Node
numbers_of n = node_of n.recording n.index

-- n is node i of a recording
abbrev pub IsNode : Recording → ℕ → NodeRef → Type 0
IsNode rec i n = (n.recording ≡ rec) × (n.index ≡ i)

-- how many of rows a .. a + c - 1 of a node of a kind are null
abbrev pub nulls_between : Kind → List ℕ → Node → ℕ → ℕ → ℕ
nulls_between k bs n a c = cond (has_bitmap k) (nulls_in bs (bitmap_of n) (n.from + a) c) c

-- its kind has offsets of a width; as the fact of a struct, which has one proof at most
abbrev pub AreWide : Node → Width → Type 0
AreWide n w = (k : Kind) → Is n k → offset_width k ≡ Some w

-- x is the offset of row r, read in the width that the kind's offsets have, and at most what they may reach
pub record IsOffset (n : NodeRef) (r x : ℕ) : Type 0 where
  pub value : (w : Width) → HasOffsets (numbers_of n) w → x ≡ offset_at (run_of n) (wide w) (numbers_of n) r
  pub bound : (k : Kind) → Is (numbers_of n) k → x ≤ reach k (table_of n) n.index
