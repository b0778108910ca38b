-- The table of nodes: ten numbers of eight bytes each, node after node.
use Rattle.std.specs.Prelude.{ℕ, ◌+◌, ◌-◌, ◌*◌, ◌/◌, cond, List, [], ◌∷◌, length, Some, None, Option, ◌==◌, nat_lt, slice_index_or}
use Rattle.layout.specs.declared.node.Node.{Node}
use Rattle.layout.specs.declared.number.Width.TheVariants.{Eight}
use Rattle.layout.specs.Lists.{rows, count}
use Rattle.layout.specs.Numbers.{unsigned_at}

-- the node that the 80 bytes at a place spell
unfoldable pub node_in : List ℕ → ℕ → Node
node_in nb p =
    record {
      kind = unsigned_at nb p Eight;
      mark = unsigned_at nb (p + 8) Eight;
      size = unsigned_at nb (p + 16) Eight;
      rows = unsigned_at nb (p + 24) Eight;
      from = unsigned_at nb (p + 32) Eight;
      bitmap = unsigned_at nb (p + 40) Eight;
      slots = unsigned_at nb (p + 48) Eight;
      «data» = unsigned_at nb (p + 56) Eight;
      extent = unsigned_at nb (p + 64) Eight;
      span = unsigned_at nb (p + 72) Eight;
    }

-- its ten numbers, in their order in the table
abbrev pub numbers_of : Node → List ℕ
numbers_of n = n.kind ∷ n.mark ∷ n.size ∷ n.rows ∷ n.from ∷ n.bitmap ∷ n.slots ∷ n.«data» ∷ n.extent ∷ n.span ∷ []

unfoldable pub nodes_of : List ℕ → List Node
nodes_of nb = rows (length nb / 80) (λ i. node_in nb (i * 80))

abbrev pub zero_node : Node
zero_node = record { kind = 0; mark = 0; size = 0; rows = 0; from = 0; bitmap = 0; slots = 0; «data» = 0; extent = 0; span = 0 }

abbrev pub node_at : List Node → ℕ → Node
node_at ns i = slice_index_or ns i zero_node

-- the place after the last node of the tree at node i
abbrev pub end_of : List Node → ℕ → ℕ
end_of ns i = i + (node_at ns i).span

-- a node's depth: 1, and one more for each node whose span reaches past it
unfoldable pub depth_of : List Node → ℕ → ℕ
depth_of ns i = 1 + count i (λ j. nat_lt i (end_of ns j))

-- where the bitmap stands, if there is one
abbrev pub bitmap_of : Node → Option ℕ
bitmap_of n = cond (n.bitmap == 0) None (Some (n.bitmap - 1))
