-- The columns that a batch names by its first node, their count and their rows.
use Rattle.std.specs.Prelude.{◌≡◌, ℕ, zero, suc, ◌<◌, ◌≤◌, ◌⊎◌, List, length, Ok, Err, Result}
use Rattle.layout.specs.declared.fault.Fault.{Fault}
use Rattle.layout.specs.declared.fault.Refusal.TheVariants.{Column, Rows}
use Rattle.layout.specs.declared.node.Node.{Node}
use Rattle.layout.specs.Faults.{fault_of}
use Rattle.layout.specs.Nodes.{node_at, end_of}

-- the node of column k: each next column starts where the one before it ends
abbrev pub column_node : List Node → ℕ → ℕ → ℕ
column_node ns first zero = first
column_node ns first (suc k) = end_of ns (column_node ns first k)

-- column k is a node, and has so many rows
pub record ColumnFits (ns : List Node) (first rows k : ℕ) : Type 0 where
  pub stands : column_node ns first k < length ns
  pub agrees : (node_at ns (column_node ns first k)).rows ≡ rows

-- the first column that does not fit
pub record FirstUnfit (ns : List Node) (first columns rows : ℕ) (f : Fault) : Type 0 where
  pub column : ℕ
  pub named : f ≡ fault_of Column column 0
  pub few : rows ≤ 2147483647
  pub below : column < columns
  pub unfit : ColumnFits ns first rows column → ⊥
  pub before : (j : ℕ) → j < column → ColumnFits ns first rows j

-- too many rows come first, then the columns in order
abbrev pub ColumnsAnswer : List Node → ℕ → ℕ → ℕ → Result (Unit {0}) Fault → Type 0
ColumnsAnswer ns first columns rows (Ok _) = (rows ≤ 2147483647) × ((k : ℕ) → k < columns → ColumnFits ns first rows k)
ColumnsAnswer ns first columns rows (Err f) = ((f ≡ fault_of Rows 0 0) × (2147483647 < rows)) ⊎ FirstUnfit ns first columns rows f
