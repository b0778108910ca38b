-- Nodes of a recording that stand side by side.
use Rattle.std.specs.Prelude.{◌≡◌, ℕ, ◌+◌, ◌-◌, List, map, length}
use Rattle.layout.specs.Nodes.{end_of}
use Rattle.layout.specs.Tests.{kids}
use Rattle.layout.specs.Windows.{ChildOf}
use Rattle.recording.specs.declared.recording.Recording.{Recording}
use Rattle.recording.specs.declared.node.NodeRef.{NodeRef}
use Rattle.recording.specs.NodeRefs.{table_of}
use Rattle.recording.specs.View.{nodes_in, node_of}

-- a node of a recording, by its number
abbrev pub Place : Type 0
Place = Recording × ℕ

abbrev pub place_of : NodeRef → Place
place_of n = (n.recording, n.index)

-- those from node p up to node e, each right after the tree of the one before it
abbrev pub places_between : Recording → ℕ → ℕ → List Place
places_between rec p e = map (λ (i : ℕ). (rec, i)) (kids (e - p) (nodes_in rec) p e)

-- the nodes side by side from node `first` on, and the children of a node
abbrev pub trees_of : Recording → ℕ → List Place
trees_of rec first = places_between rec first (length (nodes_in rec))

abbrev pub children_of : NodeRef → List Place
children_of n = places_between n.recording (n.index + 1) (end_of (table_of n) n.index)

-- how many rows a node has
abbrev pub rows_at : Place → ℕ
rows_at p = (node_of p.0 p.1).rows

-- the place of a child of n
abbrev pub IsChildPlace : NodeRef → Place → Type 0
IsChildPlace n p = (p.0 ≡ n.recording) × ChildOf (table_of n) n.index p.1
