-- What a recording has to keep, node by node. Each rule is stated under the refusal that answers its breach.
use Rattle.std.specs.Prelude.{◌≡◌, ℕ, ◌+◌, ◌<◌, ◌≤◌, true, List, [], ◌∷◌, length, Some}
use Rattle.layout.specs.declared.fault.Refusal.{Refusal}
use Rattle.layout.specs.declared.fault.Refusal.TheVariants.{Alignment, NodeBytes, TooLarge, KindOrSize, Nesting, Place, Offset, Key, Ended, Column, DictionaryAboveDictionary, NoId, Replacement, Memory, Rows, Header, Sink, Ids}
use Rattle.layout.specs.declared.kind.Kind.{Kind}
use Rattle.layout.specs.declared.kind.Kind.TheVariants.{Null, Boolean, Fixed, Bytes32, Bytes64, List32, List64, Struct, Dictionary}
use Rattle.layout.specs.declared.node.Node.{Node}
use Rattle.layout.specs.declared.number.Width.{Width}
use Rattle.layout.specs.Numbers.{wide, unle, natural}
use Rattle.layout.specs.Bits.{bytes_for}
use Rattle.layout.specs.Kinds.{kind_number, offset_width, slot_bytes, has_data, has_bitmap}
use Rattle.layout.specs.Nodes.{node_at, end_of, depth_of, bitmap_of}
use Rattle.layout.specs.Rows.{mark_at, slot_at, offset_at, key_at}

-- a node is of a kind
abbrev pub Is : Node → Kind → Type 0
Is n k = n.kind ≡ kind_number k

-- ---- KindOrSize: kind and size are in the table, and from + rows is not too large

-- Fixed values have 1 to 256 bytes, and keys of a Dictionary 1, 2, 4 or 8; the other kinds do not use their size
abbrev pub SizeFits : Kind → ℕ → Type 0
SizeFits Null s = Unit {0}
SizeFits Boolean s = Unit {0}
SizeFits Fixed s = (1 ≤ s) × (s ≤ 256)
SizeFits Bytes32 s = Unit {0}
SizeFits Bytes64 s = Unit {0}
SizeFits List32 s = Unit {0}
SizeFits List64 s = Unit {0}
SizeFits Struct s = Unit {0}
SizeFits Dictionary s = (w : Width) × (s ≡ wide w)

pub record Tabled (n : Node) : Type 0 where
  pub kind : Kind
  pub is : Is n kind
  pub size : SizeFits kind n.size
  pub rows : n.from + n.rows ≤ 2147483647

-- ---- Nesting: the children fill the span, and are as many as the kind has

-- the trees at these nodes stand side by side from node p up to node e
abbrev pub SideBySide : List Node → ℕ → List ℕ → ℕ → Type 0
SideBySide ns p [] e = p ≡ e
SideBySide ns p (c ∷ cs) e = (c ≡ p) × (1 ≤ (node_at ns p).span) × SideBySide ns (end_of ns p) cs e

-- some trees fill the nodes from p up to e
abbrev pub Filled : List Node → ℕ → ℕ → Type 0
Filled ns p e = (cs : List ℕ) × SideBySide ns p cs e

-- List and Dictionary have one child, Struct any number, the others none
abbrev pub ChildrenFit : Kind → ℕ → Type 0
ChildrenFit Null n = n ≡ 0
ChildrenFit Boolean n = n ≡ 0
ChildrenFit Fixed n = n ≡ 0
ChildrenFit Bytes32 n = n ≡ 0
ChildrenFit Bytes64 n = n ≡ 0
ChildrenFit List32 n = n ≡ 1
ChildrenFit List64 n = n ≡ 1
ChildrenFit Struct n = Unit {0}
ChildrenFit Dictionary n = n ≡ 1

-- every one of these nodes has so many rows
abbrev pub AllRows : List Node → List ℕ → ℕ → Type 0
AllRows ns [] r = Unit {0}
AllRows ns (c ∷ cs) r = ((node_at ns c).rows ≡ r) × AllRows ns cs r

pub record Nested (ns : List Node) (i : ℕ) : Type 0 where
  pub some : 1 ≤ (node_at ns i).span
  pub within : end_of ns i ≤ length ns
  pub children : List ℕ
  pub fill : SideBySide ns (i + 1) children (end_of ns i)
  pub count : (k : Kind) → Is (node_at ns i) k → ChildrenFit k (length children)
  pub rows : Is (node_at ns i) Struct → AllRows ns children (node_at ns i).rows
  pub deep : depth_of ns i ≤ 64

-- ---- Place: what a node uses lies within the bytes

-- place plus need is not past the bytes
abbrev pub Lies : List ℕ → ℕ → ℕ → Type 0
Lies bs place need = place + need ≤ length bs

pub record Placed (bs : List ℕ) (n : Node) : Type 0 where
  pub slots : (k : Kind) (need : ℕ) → Is n k → slot_bytes k n.size (n.from + n.rows) ≡ Some need → Lies bs n.slots need
  pub bitmap : (k : Kind) (place : ℕ) → Is n k → has_bitmap k ≡ true → bitmap_of n ≡ Some place → Lies bs place (bytes_for (n.from + n.rows))
  pub strings : (k : Kind) → Is n k → has_data k ≡ true → Lies bs n.«data» n.extent

-- ---- Offset: with rows above 0 no offset is below 0, falls, or passes the extent or the child's rows

-- the offsets of w bytes of rows 0 to rows
pub record Rising (bs : List ℕ) (w : ℕ) (n : Node) (most : ℕ) : Type 0 where
  pub naturals : 0 < n.rows → (r : ℕ) → r ≤ n.rows → natural (slot_at bs w n r) ≡ true
  pub rises : (r : ℕ) → r < n.rows → offset_at bs w n r ≤ offset_at bs w n (r + 1)
  pub within : 0 < n.rows → (r : ℕ) → r ≤ n.rows → offset_at bs w n r ≤ most

-- what no offset of node i passes: the length of its data, or the rows of its child
abbrev pub reach : Kind → List Node → ℕ → ℕ
reach Null ns i = 0
reach Boolean ns i = 0
reach Fixed ns i = 0
reach Bytes32 ns i = (node_at ns i).extent
reach Bytes64 ns i = (node_at ns i).extent
reach List32 ns i = (node_at ns (i + 1)).rows
reach List64 ns i = (node_at ns (i + 1)).rows
reach Struct ns i = 0
reach Dictionary ns i = 0

-- a node's kind has offsets of a width
abbrev pub HasOffsets : Node → Width → Type 0
HasOffsets n w = (k : Kind) × Is n k × (offset_width k ≡ Some w)

abbrev pub OffsetsKept : List Node → List ℕ → ℕ → Type 0
OffsetsKept ns bs i = (k : Kind) (w : Width) → Is (node_at ns i) k → offset_width k ≡ Some w → Rising bs (wide w) (node_at ns i) (reach k ns i)

-- ---- Key: a valid row's key is not below 0, and below the child's rows

pub record Keyed (bs : List ℕ) (n : Node) (below : ℕ) : Type 0 where
  pub naturals : (r : ℕ) → r < n.rows → mark_at bs n r ≡ true → natural (key_at bs n r) ≡ true
  pub within : (r : ℕ) → r < n.rows → mark_at bs n r ≡ true → unle (key_at bs n r) < below

abbrev pub KeysKept : List Node → List ℕ → ℕ → Type 0
KeysKept ns bs i = Is (node_at ns i) Dictionary → Keyed bs (node_at ns i) (node_at ns (i + 1)).rows

-- ---- the rule of node i that a refusal speaks of; the other refusals speak of no node of a recording

abbrev pub Rule : Refusal → List Node → List ℕ → ℕ → Type 0
Rule Alignment ns bs i = Unit {0}
Rule NodeBytes ns bs i = Unit {0}
Rule TooLarge ns bs i = Unit {0}
Rule KindOrSize ns bs i = Tabled (node_at ns i)
Rule Nesting ns bs i = Nested ns i
Rule Place ns bs i = Placed bs (node_at ns i)
Rule Offset ns bs i = OffsetsKept ns bs i
Rule Key ns bs i = KeysKept ns bs i
Rule Ended ns bs i = Unit {0}
Rule Column ns bs i = Unit {0}
Rule DictionaryAboveDictionary ns bs i = Unit {0}
Rule NoId ns bs i = Unit {0}
Rule Replacement ns bs i = Unit {0}
Rule Memory ns bs i = Unit {0}
Rule Rows ns bs i = Unit {0}
Rule Header ns bs i = Unit {0}
Rule Sink ns bs i = Unit {0}
Rule Ids ns bs i = Unit {0}
