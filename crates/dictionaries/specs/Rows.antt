-- Windows compared row by row.
use Rattle.std.specs.Prelude.{◌≡◌, ℕ, ◌+◌, ◌*◌, ◌<◌, Bool, true, not, ◌&&◌, ◌||◌, ◌==◌, List, [], ◌∷◌}
use Rattle.std.specs.List.{range_with_len, list_all}
use Rattle.layout.specs.declared.kind.Kind.TheVariants.{Fixed, Dictionary}
use Rattle.layout.specs.declared.node.Node.{Node}
use Rattle.layout.specs.Kinds.{kind_number}
use Rattle.layout.specs.Nodes.{node_at}
use Rattle.layout.specs.Lists.{cut}
use Rattle.layout.specs.Rows.{mark_at, flag_at, count_at}
use Rattle.layout.specs.Windows.{Window, tree_in, top_in, value_in, shape_in, met_in, rows_at, passed_first, passed_count}
use Rattle.recording.specs.Contents.{valid_at}

-- the rows of one have the values of the rows of the other
abbrev pub SameRows : Window → Window → Type 0
SameRows v w = (r : ℕ) → r < v.rows → value_in v r ≡ value_in w r

-- they can be compared row by row: they are of one shape, with as many rows, and no dictionary is met in the first, and so in the other
pub record Alike (v w : Window) : Type 0 where
  pub shapes : shape_in v ≡ shape_in w
  pub rows : v.rows ≡ w.rows
  pub plain : met_in (tree_in v) ≡ []

-- the same rows are valid
abbrev pub SameMarks : Window → Window → Type 0
SameMarks v w = (r : ℕ) → r < v.rows → valid_at v r ≡ valid_at w r

-- every row's bit is 1
abbrev pub Valid : Window → Type 0
Valid w = (r : ℕ) → r < w.rows → mark_at w.bytes (top_in w) (w.first + r) ≡ true

-- ---- what valid rows have

-- the bits of Booleans
abbrev pub SameBits : Window → Window → Type 0
SameBits v w = (r : ℕ) → r < v.rows → flag_at v.bytes (top_in v) (v.first + r) ≡ flag_at w.bytes (top_in w) (w.first + r)

-- all slots of Fixed values
abbrev pub slots_in : Window → List ℕ
slots_in w = cut ((top_in w).slots + ((top_in w).from + w.first) * (top_in w).size) (w.rows * (top_in w).size) w.bytes

-- how many bytes or elements each row has
abbrev pub SameCounts : ℕ → Window → Window → Type 0
SameCounts x v w = (r : ℕ) → r < v.rows → count_at v.bytes x (top_in v) (v.first + r) ≡ count_at w.bytes x (top_in w) (w.first + r)

-- the data of byte strings, from the first offset up to the last
abbrev pub strings_in : ℕ → Window → List ℕ
strings_in x w =
    cut ((top_in w).«data» + passed_first w.bytes x (top_in w) w.first w.rows) (passed_count w.bytes x (top_in w) w.first w.rows) w.bytes

-- the elements of lists, in the child
abbrev pub elements_in : ℕ → Window → Window
elements_in x w = rows_at w (w.node + 1) (passed_first w.bytes x (top_in w) w.first w.rows) (passed_count w.bytes x (top_in w) w.first w.rows)

-- ---- nodes of one shape

-- only Fixed and Dictionary use their size
abbrev pub uses_size : ℕ → Bool
uses_size k = k == kind_number Fixed || k == kind_number Dictionary

-- kind, mark, span and used size of two nodes agree
abbrev pub same_node : Node → Node → Bool
same_node m n = m.kind == n.kind && (m.mark == n.mark && (m.span == n.span && (not (uses_size m.kind) || m.size == n.size)))

-- so many nodes from i on, and as many from j on, agree one by one
abbrev pub same_nodes : List Node → ℕ → List Node → ℕ → ℕ → Bool
same_nodes ns i ms j n = list_all (λ (k : ℕ). same_node (node_at ns (i + k)) (node_at ms (j + k))) (range_with_len 0 n)

-- ---- windows side by side

-- as many, and pair by pair
abbrev pub Pairwise : (Window → Window → Type 0) → List Window → List Window → Type 0
Pairwise P [] [] = Unit {0}
Pairwise P [] (w ∷ ws) = ⊥
Pairwise P (v ∷ vs) [] = ⊥
Pairwise P (v ∷ vs) (w ∷ ws) = P v w × Pairwise P vs ws
