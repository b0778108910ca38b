-- A window, its rows' values in the recording, what it shows, and when two windows are equal.
use Rattle.std.specs.Prelude.{◌≡◌, ℕ, zero, suc, ◌+◌, ◌-◌, ◌*◌, ◌%◌, ◌<◌, ◌≤◌, cond, List, [], ◌∷◌, ◌++◌, map, length, drop, Some, None, Option, ◌==◌}
use Rattle.layout.specs.declared.kind.Kind.{Kind}
use Rattle.layout.specs.declared.kind.Kind.TheVariants.{Null, Boolean, Fixed, Bytes32, Bytes64, List32, List64, Struct, Dictionary}
use Rattle.layout.specs.declared.node.Node.{Node}
use Rattle.layout.specs.Lists.{rows}
use Rattle.layout.specs.Numbers.{unle}
use Rattle.layout.specs.Bits.{bit_at, bytes_for}
use Rattle.layout.specs.Nodes.{node_at, end_of, bitmap_of}
use Rattle.layout.specs.Rows.{mark_at, flag_at, slot_at, offset_at, count_at, string_at, key_at}
use Rattle.layout.specs.Rules.{Filled}
use Rattle.layout.specs.Opening.{Kept}
use Rattle.layout.specs.Trees.{Tree, Forest, nulls, bools, fixed, bytes, lists, struct, dictionary, none, more, rows_of, tree_at}
use Rattle.layout.specs.Shown.{Label, Bits, Marks, Shown, Showns, Value, null, held, Shape, Shapes}

-- ---- the value of row r

unfoldable mutual
  pub value_at : List ℕ → Tree → ℕ → Value
  value_at bs (nulls n) r = null
  value_at bs (bools n) r = cond (mark_at bs n r) (Value.bit (flag_at bs n r)) null
  value_at bs (fixed n) r = cond (mark_at bs n r) (Value.bytes (slot_at bs n.size n r)) null
  value_at bs (bytes w n) r = cond (mark_at bs n r) (Value.bytes (string_at bs w n r)) null
  value_at bs (lists w n t) r = cond (mark_at bs n r) (Value.list (held (rows (count_at bs w n r) (λ i. value_at bs t (offset_at bs w n r + i))))) null
  value_at bs (struct n f) r = cond (mark_at bs n r) (Value.struct (held (values_at bs f r))) null
  value_at bs (dictionary n t) r = cond (mark_at bs n r) (value_at bs t (unle (key_at bs n r))) null

  pub values_at : List ℕ → Forest → ℕ → List Value
  values_at bs none r = []
  values_at bs (more t f) r = value_at bs t r ∷ values_at bs f r

-- ---- what rows a .. a + c - 1 of a tree show

-- c bits from bit a on; where a is the first of a byte, the spare bits too
abbrev pub bits_at : List ℕ → ℕ → ℕ → Bits
bits_at bs a c =
    record {
      bits = rows c (λ r. bit_at bs (a + r));
      spare = rows (cond (a % 8 == 0) (8 * bytes_for c - c) 0) (λ r. bit_at bs (a + c + r));
    }

abbrev pub marks_in : List ℕ → Option ℕ → ℕ → ℕ → Marks
marks_in bs None a c = Marks.all
marks_in bs (Some p) a c = Marks.some (bits_at (drop p bs) a c)

abbrev pub marks_at : List ℕ → Node → ℕ → ℕ → Marks
marks_at bs n a c = marks_in bs (bitmap_of n) (n.from + a) c

-- a List passes (first offset, last minus first), or (0, 0)
abbrev pub passed_first : List ℕ → ℕ → Node → ℕ → ℕ → ℕ
passed_first bs w n a zero = 0
passed_first bs w n a (suc c) = offset_at bs w n a

abbrev pub passed_count : List ℕ → ℕ → Node → ℕ → ℕ → ℕ
passed_count bs w n a zero = 0
passed_count bs w n a (suc c) = offset_at bs w n (a + suc c) - offset_at bs w n a

abbrev pub label_of : Node → Label
label_of n = record { mark = n.mark; span = n.span }

-- a Struct passes (a, c) to each child, a Dictionary all rows of its child
unfoldable mutual
  pub shown : List ℕ → Tree → ℕ → ℕ → Shown
  shown bs (nulls n) a c = Shown.nulls (label_of n) c
  shown bs (bools n) a c = Shown.bools (label_of n) (marks_at bs n a c) (bits_at (drop n.slots bs) (n.from + a) c)
  shown bs (fixed n) a c = Shown.fixed (label_of n) n.size (marks_at bs n a c) (rows c (λ r. slot_at bs n.size n (a + r)))
  shown bs (bytes w n) a c = Shown.bytes (label_of n) w (marks_at bs n a c) (rows c (λ r. string_at bs w n (a + r)))
  shown bs (lists w n t) a c =
      Shown.lists (label_of n) w (marks_at bs n a c) (rows c (λ r. count_at bs w n (a + r))) (shown bs t (passed_first bs w n a c) (passed_count bs w n a c))
  shown bs (struct n f) a c = Shown.struct (label_of n) (marks_at bs n a c) c (shown_all bs f a c)
  shown bs (dictionary n t) a c = Shown.dictionary (label_of n) n.size (marks_at bs n a c) (rows c (λ r. key_at bs n (a + r))) (shown bs t 0 (rows_of t))

  pub shown_all : List ℕ → Forest → ℕ → ℕ → Showns
  shown_all bs none a c = Showns.none
  shown_all bs (more t f) a c = Showns.more (shown bs t a c) (shown_all bs f a c)

-- ---- what goes by the nodes alone

unfoldable mutual
  pub shape_of : Tree → Shape
  shape_of (nulls n) = Shape.nulls n.mark
  shape_of (bools n) = Shape.bools n.mark
  shape_of (fixed n) = Shape.fixed n.mark n.size
  shape_of (bytes w n) = Shape.bytes n.mark w
  shape_of (lists w n t) = Shape.lists n.mark w (shape_of t)
  shape_of (struct n f) = Shape.struct n.mark (shapes_of f)
  shape_of (dictionary n t) = Shape.dictionary n.mark n.size (shape_of t)

  pub shapes_of : Forest → Shapes
  shapes_of none = Shapes.none
  shapes_of (more t f) = Shapes.more (shape_of t) (shapes_of f)

-- the dictionaries met, by their children
unfoldable mutual
  pub met_in : Tree → List Tree
  met_in (nulls n) = []
  met_in (bools n) = []
  met_in (fixed n) = []
  met_in (bytes w n) = []
  met_in (lists w n t) = met_in t
  met_in (struct n f) = met_in_all f
  met_in (dictionary n t) = t ∷ []

  pub met_in_all : Forest → List Tree
  met_in_all none = []
  met_in_all (more t f) = met_in t ++ met_in_all f

-- ---- windows by node number

-- rows first .. first + rows - 1 of a node of a recording
pub record Window : Type 0 where
  pub nodes : List Node
  pub bytes : List ℕ
  pub node : ℕ
  pub first : ℕ
  pub rows : ℕ

-- of an opened recording, inside the node's rows
pub record Inside (w : Window) : Type 0 where
  pub opened : Kept w.nodes w.bytes
  pub stands : w.node < length w.nodes
  pub within : w.first + w.rows ≤ (node_at w.nodes w.node).rows

abbrev pub tree_in : Window → Tree
tree_in w = tree_at w.nodes w.node

abbrev pub value_in : Window → ℕ → Value
value_in w r = value_at w.bytes (tree_in w) (w.first + r)

abbrev pub values_in : Window → List Value
values_in w = rows w.rows (value_in w)

abbrev pub shown_in : Window → Shown
shown_in w = shown w.bytes (tree_in w) w.first w.rows

abbrev pub shape_in : Window → Shape
shape_in w = shape_of (tree_in w)

abbrev pub top_in : Window → Node
top_in w = node_at w.nodes w.node

-- rows a .. a + n - 1 of another node of the same recording
abbrev pub rows_at : Window → ℕ → ℕ → ℕ → Window
rows_at w c a n = record { nodes = w.nodes; bytes = w.bytes; node = c; first = a; rows = n }

-- what a window of a kind passes to the child at node c; the other kinds have no child
abbrev pub passed_to : Kind → Window → ℕ → Window
passed_to Null w c = rows_at w c 0 0
passed_to Boolean w c = rows_at w c 0 0
passed_to Fixed w c = rows_at w c 0 0
passed_to Bytes32 w c = rows_at w c 0 0
passed_to Bytes64 w c = rows_at w c 0 0
passed_to List32 w c = rows_at w c (passed_first w.bytes 4 (top_in w) w.first w.rows) (passed_count w.bytes 4 (top_in w) w.first w.rows)
passed_to List64 w c = rows_at w c (passed_first w.bytes 8 (top_in w) w.first w.rows) (passed_count w.bytes 8 (top_in w) w.first w.rows)
passed_to Struct w c = rows_at w c w.first w.rows
passed_to Dictionary w c = rows_at w c 0 (node_at w.nodes c).rows

-- node c is a child of node i: the children before it fill the nodes from i + 1 up to it
abbrev pub ChildOf : List Node → ℕ → ℕ → Type 0
ChildOf ns i c = Filled ns (i + 1) c × (c < end_of ns i)

-- the first k rows
abbrev pub first_rows : ℕ → Window → Window
first_rows k w = record { nodes = w.nodes; bytes = w.bytes; node = w.node; first = w.first; rows = k }

-- the rows after the first k
abbrev pub later_rows : ℕ → Window → Window
later_rows k w = record { nodes = w.nodes; bytes = w.bytes; node = w.node; first = w.first + k; rows = w.rows - k }

-- kinds, marks, used sizes and nesting agree, and the values row for row; what lies under a null has no value
pub record Equal (w v : Window) : Type 0 where
  pub shapes : shape_in w ≡ shape_in v
  pub rows : w.rows ≡ v.rows
  pub values : (r : ℕ) → r < w.rows → value_in w r ≡ value_in v r

-- ---- columns side by side

-- rows a .. a + n - 1 of each of these nodes
abbrev pub columns_of : List Node → List ℕ → List ℕ → ℕ → ℕ → List Window
columns_of ns bs [] a n = []
columns_of ns bs (c ∷ cs) a n = record { nodes = ns; bytes = bs; node = c; first = a; rows = n } ∷ columns_of ns bs cs a n

abbrev pub EachInside : List Window → Type 0
EachInside [] = Unit {0}
EachInside (w ∷ ws) = Inside w × EachInside ws

abbrev pub shown_side : List Window → Showns
shown_side [] = Showns.none
shown_side (w ∷ ws) = Showns.more (shown_in w) (shown_side ws)

abbrev pub shapes_side : List Window → Shapes
shapes_side [] = Shapes.none
shapes_side (w ∷ ws) = Shapes.more (shape_in w) (shapes_side ws)

-- all rows of a tree
abbrev pub whole_values : List ℕ → Tree → List Value
whole_values bs t = rows (rows_of t) (value_at bs t)

-- what the dictionaries met have, in the order met
abbrev pub dictionary_values : List Window → List (List Value)
dictionary_values [] = []
dictionary_values (w ∷ ws) = map (whole_values w.bytes) (met_in (tree_in w)) ++ dictionary_values ws
