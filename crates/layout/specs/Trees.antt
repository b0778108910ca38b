-- The trees that a table of nodes writes, each node before its children.
use Rattle.std.specs.Prelude.{ℕ, zero, suc, ◌+◌, ◌-◌, List, [], ◌∷◌, take, drop, Some, None, Option}
use Rattle.layout.specs.declared.kind.Kind.{Kind}
use Rattle.layout.specs.declared.kind.Kind.TheVariants.{Null, Boolean, Fixed, Bytes32, Bytes64, List32, List64, Struct, Dictionary}
use Rattle.layout.specs.declared.node.Node.{Node}
use Rattle.layout.specs.Kinds.{kind_of}
use Rattle.layout.specs.Nodes.{node_at, end_of}

-- a constructor for each kind; Bytes and List with the width of their offsets
mutual
  pub data Tree : Type 0 where
    nulls bools fixed : Node → Tree
    bytes : ℕ → Node → Tree
    lists : ℕ → Node → Tree → Tree
    struct : Node → Forest → Tree
    dictionary : Node → Tree → Tree

  pub data Forest : Type 0 where
    none : Forest
    more : Tree → Forest → Forest

abbrev pub root_of : Tree → Node
root_of (nulls n) = n
root_of (bools n) = n
root_of (fixed n) = n
root_of (bytes w n) = n
root_of (lists w n t) = n
root_of (struct n f) = n
root_of (dictionary n t) = n

abbrev pub rows_of : Tree → ℕ
rows_of t = (root_of t).rows

-- the one child of a List or a Dictionary
abbrev pub child_of : Node → Forest → Tree
child_of n none = nulls n
child_of n (more t f) = t

-- the tree of a node over the trees of its children; the opening lets no node without a kind pass
abbrev pub tree_as : Option Kind → Node → Forest → Tree
tree_as None n f = nulls n
tree_as (Some Null) n f = nulls n
tree_as (Some Boolean) n f = bools n
tree_as (Some Fixed) n f = fixed n
tree_as (Some Bytes32) n f = bytes 4 n
tree_as (Some Bytes64) n f = bytes 8 n
tree_as (Some List32) n f = lists 4 n (child_of n f)
tree_as (Some List64) n f = lists 8 n (child_of n f)
tree_as (Some Struct) n f = struct n f
tree_as (Some Dictionary) n f = dictionary n (child_of n f)

abbrev pub tree_of : Node → Forest → Tree
tree_of n f = tree_as (kind_of n.kind) n f

-- span counts a node and all below it; k bounds the steps, and as many as there are nodes are enough
unfoldable pub forest_by : ℕ → List Node → Forest
forest_by zero ns = none
forest_by (suc k) [] = none
forest_by (suc k) (n ∷ ns) = more (tree_of n (forest_by k (take (n.span - 1) ns))) (forest_by k (drop (n.span - 1) ns))

-- the trees of nodes i .. e - 1
abbrev pub trees_in : List Node → ℕ → ℕ → Forest
trees_in ns i e = forest_by (e - i) (take (e - i) (drop i ns))

-- the tree at node i: its children are the trees of the nodes after it in its span
abbrev pub tree_at : List Node → ℕ → Tree
tree_at ns i = tree_of (node_at ns i) (trees_in ns (i + 1) (end_of ns i))
