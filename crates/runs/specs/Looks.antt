-- What a recording shows to a batch's numbers.
use Rattle.std.specs.Prelude.{ℕ, zero, suc, ◌+◌, ◌-◌, Bool, ◌&&◌, cond, List, [], ◌∷◌, ◌++◌, length, Some, None, Option, nat_lt, ◌==◌}
use Rattle.layout.specs.declared.node.Node.{Node}
use Rattle.layout.specs.Columns.{column_node}
use Rattle.layout.specs.Lists.{rows}
use Rattle.layout.specs.Nodes.{node_at}
use Rattle.layout.specs.Shown.{Shown, Showns}
use Rattle.layout.specs.Trees.{Tree, tree_at, rows_of}
use Rattle.layout.specs.Windows.{Window, columns_of, shown_side, shown, met_in}

-- a table of nodes over a run of bytes
pub record Recorded : Type 0 where
  pub nodes : List Node
  pub bytes : List ℕ

-- that a column is no node or has other rows; or the columns, and what the values of the j-th dictionary that they meet show from row k on
pub data Look : Type 0 where
  lacks : ℕ → Look
  shows : Showns → (ℕ → ℕ → Shown) → Look

-- ---- columns by a first node, their count and their rows

abbrev pub column_nodes : List Node → ℕ → ℕ → List ℕ
column_nodes ns first count = rows count (column_node ns first)

abbrev pub column_windows : Recorded → ℕ → ℕ → ℕ → List Window
column_windows r first count n = columns_of r.nodes r.bytes (column_nodes r.nodes first count) 0 n

-- a column is a node, and has so many rows
abbrev pub fits : List Node → ℕ → ℕ → ℕ → Bool
fits ns first n k = nat_lt (column_node ns first k) (length ns) && ((node_at ns (column_node ns first k)).rows == n)

-- of so many columns from column k on, the first that is not so
abbrev pub first_unfit : List Node → ℕ → ℕ → ℕ → ℕ → Option ℕ
first_unfit ns first n k zero = None
first_unfit ns first n k (suc count) = cond (fits ns first n k) (first_unfit ns first n (k + 1) count) (Some k)

-- ---- the dictionaries that they meet, by their values

abbrev pub met_trees : List Node → List ℕ → List Tree
met_trees ns [] = []
met_trees ns (c ∷ cs) = met_in (tree_at ns c) ++ met_trees ns cs

-- its rows from row k on; past the last dictionary no one asks
abbrev pub later : List ℕ → List Tree → ℕ → ℕ → Shown
later bs [] j k = Shown.nulls (record { mark = 0; span = 0 }) 0
later bs (t ∷ ts) zero k = shown bs t k (rows_of t - k)
later bs (t ∷ ts) (suc j) k = later bs ts j k

abbrev pub look_by : Recorded → ℕ → ℕ → ℕ → Option ℕ → Look
look_by r first count n (Some k) = lacks k
look_by r first count n None = shows (shown_side (column_windows r first count n)) (later r.bytes (met_trees r.nodes (column_nodes r.nodes first count)))

abbrev pub look : Recorded → ℕ → ℕ → ℕ → Look
look r first count n = look_by r first count n (first_unfit r.nodes first n 0 count)
