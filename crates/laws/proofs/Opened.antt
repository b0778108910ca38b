-- What the rules of an opening say of a tree: of its node, and of all nodes below.
use Rattle.std.proofs.Common.{◌≡◌, ℕ, ◌+◌, ◌*◌, ◌≤◌, List, Some}
use Rattle.layout.specs.declared.node.Node.{Node}
use Rattle.layout.specs.Bits.{bytes_for}
use Rattle.layout.specs.Nodes.{bitmap_of}
use Rattle.layout.specs.Rules.{Lies, Rising, Keyed}
use Rattle.layout.specs.Trees.{Tree, Forest, nulls, bools, fixed, bytes, lists, struct, dictionary, none, more, rows_of}

pub record Based (bs : List ℕ) (n : Node) : Type 0 where
  pub limit : n.from + n.rows ≤ 2147483647
  pub bitmap : (place : ℕ) → bitmap_of n ≡ Some place → Lies bs place (bytes_for (n.from + n.rows))

-- every tree has c rows
abbrev pub RowsAll : Forest → ℕ → Type 0
RowsAll none c = Unit {0}
RowsAll (more t f) c = (rows_of t ≡ c) × RowsAll f c

-- of a node itself
abbrev pub Own : List ℕ → Tree → Type 0
Own bs (nulls n) = n.from + n.rows ≤ 2147483647
Own bs (bools n) = Based bs n × Lies bs n.slots (bytes_for (n.from + n.rows))
Own bs (fixed n) = Based bs n × Lies bs n.slots ((n.from + n.rows) * n.size)
Own bs (bytes w n) = Based bs n × Lies bs n.slots ((n.from + n.rows + 1) * w) × Lies bs n.«data» n.extent × Rising bs w n n.extent
Own bs (lists w n t) = Based bs n × Lies bs n.slots ((n.from + n.rows + 1) * w) × Rising bs w n (rows_of t)
Own bs (struct n f) = Based bs n × RowsAll f n.rows
Own bs (dictionary n t) = Based bs n × Lies bs n.slots ((n.from + n.rows) * n.size) × Keyed bs n (rows_of t)

-- and of all below it
abbrev mutual
  pub Opened : List ℕ → Tree → Type 0
  Opened bs (nulls n) = Own bs (nulls n)
  Opened bs (bools n) = Own bs (bools n)
  Opened bs (fixed n) = Own bs (fixed n)
  Opened bs (bytes w n) = Own bs (bytes w n)
  Opened bs (lists w n t) = Own bs (lists w n t) × Opened bs t
  Opened bs (struct n f) = Own bs (struct n f) × OpenedAll bs f
  Opened bs (dictionary n t) = Own bs (dictionary n t) × Opened bs t

  pub OpenedAll : List ℕ → Forest → Type 0
  OpenedAll bs none = Unit {0}
  OpenedAll bs (more t f) = Opened bs t × OpenedAll bs f
