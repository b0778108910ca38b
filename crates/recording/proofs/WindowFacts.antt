-- What an opened recording tells of windows.
use Rattle.std.proofs.Common.{◌≡◌, ℕ, ◌+◌, ◌-◌, ◌<◌, ◌≤◌, true, false, cond, List, length, Some, None, Option, sym, refl, ap, ap₂, ◌∙◌, subst, ◌⊎◌, inl, inr, arith}
use Rattle.layout.specs.declared.fault.Refusal.TheVariants.{KindOrSize, Nesting, Place, Offset}
use Rattle.layout.specs.declared.kind.Kind.{Kind}
use Rattle.layout.specs.declared.kind.Kind.TheVariants.{Null, Boolean, Fixed, Bytes32, Bytes64, List32, List64, Struct, Dictionary}
use Rattle.layout.specs.declared.node.Node.{Node}
use Rattle.layout.specs.declared.number.Width.{Width}
use Rattle.layout.specs.declared.number.Width.TheVariants.{Four, Eight}
use Rattle.layout.specs.Lists.{cut}
use Rattle.layout.specs.Kinds.{offset_width, has_data, has_bitmap}
use Rattle.layout.specs.Nodes.{node_at, end_of, bitmap_of}
use Rattle.layout.specs.Numbers.{wide}
use Rattle.layout.specs.Rows.{offset_at, count_at, string_at, nulls_in}
use Rattle.layout.specs.Rules.{Is, HasOffsets, reach, ChildrenFit}
use Rattle.layout.specs.Trees.{Tree, Forest, trees_in, tree_at, tree_as}
use Rattle.layout.specs.Messages.{null_count, own_field}
use Rattle.layout.specs.Windows as layout
use Rattle.layout.specs.Windows.{Inside, marks_in, marks_at, shown, shown_in, rows_at, passed_to, ChildOf}
use Rattle.layout.proofs.Facts.{one_kind, child_stands}
use Rattle.laws.proofs.Passing.{passing, only_child, no_child}
use Rattle.laws.proofs.Says.{up_to}
use Rattle.laws.proofs.Table.{tree_as_lem}
use Rattle.recording.specs.declared.recording.Recording.{Recording}
use Rattle.recording.specs.declared.node.NodeRef.{NodeRef}
use Rattle.recording.specs.declared.window.Window.{Window}
use Rattle.recording.specs.NodeRefs.{table_of, run_of, numbers_of, nulls_between, IsNode, IsOffset}
use Rattle.recording.specs.Passing.{ArePassed, AreContents}
use Rattle.recording.specs.Places as places
use Rattle.recording.specs.View.{nodes_in}
use Rattle.recording.specs.Windows.{window_at, window_in, HasStrings, HasElements}
use Rattle.recording.proofs.Reading.{rules_at}

-- ---- nulls

pub tree_of : (n : NodeRef) (k : Kind) → Is (numbers_of n) k → tree_at (table_of n) n.index ≡ tree_as (Some k) (numbers_of n) (trees_in (table_of n) (n.index + 1) (end_of (table_of n) n.index))
tree_of n k is = tree_as_lem (numbers_of n) (trees_in (table_of n) (n.index + 1) (end_of (table_of n) n.index)) k is

-- those that a bitmap marks, or every row of a Null
nulls_as : (k : Kind) (bs : List ℕ) (n : Node) (a c : ℕ) → ℕ
nulls_as k bs n a c = cond (has_bitmap k) (null_count (marks_at bs n a c)) c

nulls_of_tree : (k : Kind) (bs : List ℕ) (n : Node) (a c : ℕ) (f : Forest) → nulls_as k bs n a c ≡ (own_field (shown bs (tree_as (Some k) n f) a c)).nulls
unfolding nulls_as shown
nulls_of_tree Null bs n a c f = refl
nulls_of_tree Boolean bs n a c f = refl
nulls_of_tree Fixed bs n a c f = refl
nulls_of_tree Bytes32 bs n a c f = refl
nulls_of_tree Bytes64 bs n a c f = refl
nulls_of_tree List32 bs n a c f = refl
nulls_of_tree List64 bs n a c f = refl
nulls_of_tree Struct bs n a c f = refl
nulls_of_tree Dictionary bs n a c f = refl

pub marks_null : (bs : List ℕ) (o : Option ℕ) (a c : ℕ) → nulls_in bs o a c ≡ null_count (marks_in bs o a c)
marks_null bs None a c = refl
marks_null bs (Some p) a c = refl

-- what is counted is what is shown
pub nulls_shown : (n : NodeRef) (k : Kind) → Is (numbers_of n) k → (a c : ℕ) → nulls_between k (run_of n) (numbers_of n) a c ≡ (own_field (shown (run_of n) (tree_at (table_of n) n.index) a c)).nulls
unfolding nulls_as
nulls_shown n k is a c =
    let m = numbers_of n in
    ap (λ (x : ℕ). cond (has_bitmap k) x c) (marks_null (run_of n) (bitmap_of m) (m.from + a) c)
    ∙ nulls_of_tree k (run_of n) m a c (trees_in (table_of n) (n.index + 1) (end_of (table_of n) n.index))
    ∙ sym (ap (λ (t : Tree). (own_field (shown (run_of n) t a c)).nulls) (tree_of n k is))

-- ---- windows

pub inside_of : (w : Window) → Inside (window_in w)
inside_of w = record { opened = w.node.recording.opened; stands = w.node.stands; within = w.inside }

-- what is counted of its rows is what they show
pub nulls_of_window : (w : Window) (x : ℕ) → ((k : Kind) → Is (numbers_of w.node) k → x ≡ nulls_between k (run_of w.node) (numbers_of w.node) w.first w.rows)
    → x ≡ (own_field (shown_in (window_in w))).nulls
nulls_of_window w x counted =
    let t = rules_at w.node KindOrSize in
    counted t.kind t.is ∙ nulls_shown w.node t.kind t.is w.first w.rows

-- ---- byte strings and elements

module _ (n : NodeRef) where
  abbrev m : Node
  m = numbers_of n

  pub rises_at : (w : Width) (r : ℕ) → HasOffsets m w → r < m.rows → offset_at (run_of n) (wide w) m r ≤ offset_at (run_of n) (wide w) m (r + 1)
  rises_at w r has l = (rules_at n Offset has.0 w has.1 has.2).rises r l

  extent_of : (k : Kind) → has_data k ≡ true → reach k (table_of n) n.index ≡ m.extent
  extent_of Null d = cc
  extent_of Boolean d = cc
  extent_of Fixed d = cc
  extent_of Bytes32 d = refl
  extent_of Bytes64 d = refl
  extent_of List32 d = cc
  extent_of List64 d = cc
  extent_of Struct d = cc
  extent_of Dictionary d = cc

  -- data up to where an offset may reach lie within the bytes
  pub string_ends : (w : Width) (has : HasStrings m w) (read : Node) (y : ℕ) → read ≡ m → y ≤ reach has.0 (table_of n) n.index → read.«data» + y ≤ length (run_of n)
  string_ends w has read y same h = omega (arith, extent_of has.0 has.3, (rules_at n Place).strings has.0 has.1 has.3, ap (λ (m : Node). m.«data») same)

  -- those of a row, from its offset x to its end y, are its byte string
  pub string_cut : (w r : ℕ) (read : Node) (x y : ℕ) → read ≡ m → x ≡ offset_at (run_of n) w m r → y ≡ offset_at (run_of n) w m (r + 1)
      → cut (read.«data» + x) (read.«data» + y - (read.«data» + x)) (run_of n) ≡ string_at (run_of n) w m r
  string_cut w r read x y same start end =
      let d : read.«data» ≡ m.«data» = ap (λ (m : Node). m.«data») same in
      let p : read.«data» + x ≡ m.«data» + offset_at (run_of n) w m r = omega arith in
      let c : read.«data» + y - (read.«data» + x) ≡ count_at (run_of n) w m r = omega arith in
      ap₂ (λ (p c : ℕ). cut p c (run_of n)) p c

  -- an offset width without data is a List's
  pub listed : (k : Kind) (w : Width) → offset_width k ≡ Some w → has_data k ≡ false → (reach k (table_of n) n.index ≡ (node_at (table_of n) (n.index + 1)).rows) × ((c : ℕ) → ChildrenFit k c → c ≡ 1)
  listed Null w e d = cc
  listed Boolean w e d = cc
  listed Fixed w e d = cc
  listed Bytes32 w e d = cc
  listed Bytes64 w e d = cc
  listed List32 w e d = (refl, λ c h. h)
  listed List64 w e d = (refl, λ c h. h)
  listed Struct w e d = cc
  listed Dictionary w e d = cc

  pub elements_end : (w : Width) (has : HasElements m w) (y : ℕ) → y ≤ reach has.0 (table_of n) n.index → y ≤ (node_at (table_of n) (n.index + 1)).rows
  elements_end w has y h = omega (arith, (listed has.0 w has.2 has.3).0)

  pub list_child : (w : Width) → HasElements m w → n.index + 1 < length (table_of n)
  list_child w has = child_stands (table_of n) n.index (rules_at n Nesting) has.0 has.1 (listed has.0 w has.2 has.3).1

  -- from the first offset of some rows to the last none falls
  pub offsets_between : (w : Width) (a c x y : ℕ) → HasOffsets m w → a + c ≤ m.rows → IsOffset n a x → IsOffset n (a + c) y → x ≤ y
  offsets_between w a c x y has l first last =
      let here : a + 0 ≡ a = omega arith in
      let up = up_to (run_of n) (wide w) m (reach has.0 (table_of n) n.index) (rules_at n Offset has.0 w has.1 has.2) a c l 0 (omega arith) in
      let from : offset_at (run_of n) (wide w) m (a + 0) ≡ offset_at (run_of n) (wide w) m a = ap (offset_at (run_of n) (wide w) m) here in
      omega (arith, first.value w has, last.value w has)

-- ---- what a window passes

-- a node has one kind
passed_by : (v : Window) (x y : ℕ) (j : Kind) → Is (numbers_of v.node) j
    → ((c : ℕ) → ChildOf (table_of v.node) v.node.index c → (x ≡ (passed_to j (window_in v) c).first) × (y ≡ (passed_to j (window_in v) c).rows)) → ArePassed v x y
passed_by v x y j is t k at c of =
    subst (λ (k : Kind). (x ≡ (passed_to k (window_in v) c).first) × (y ≡ (passed_to k (window_in v) c).rows)) (one_kind (numbers_of v.node) j k is at) (t c of)

pub elements_passed : (v : Window) (x y : ℕ) (j : Kind) → Is (numbers_of v.node) j → (j ≡ List32) ⊎ (j ≡ List64) → AreContents v x y → ArePassed v x y
elements_passed v x y j is (inl e) t =
    let at = subst (Is (numbers_of v.node)) e is in
    let has : HasOffsets (numbers_of v.node) Four = (List32, at, refl) in
    passed_by v x y List32 at (λ c of. (t.first Four has, t.count Four has))
elements_passed v x y j is (inr e) t =
    let at = subst (Is (numbers_of v.node)) e is in
    let has : HasOffsets (numbers_of v.node) Eight = (List64, at, refl) in
    passed_by v x y List64 at (λ c of. (t.first Eight has, t.count Eight has))

pub rows_passed : (v : Window) → Is (numbers_of v.node) Struct → ArePassed v v.first v.rows
rows_passed v is = passed_by v v.first v.rows Struct is (λ c of. (refl, refl))

-- the only child is the next node
pub values_passed : (v : Window) (child : NodeRef) (m : Node) → Is (numbers_of v.node) Dictionary → IsNode v.node.recording (v.node.index + 1) child → m ≡ numbers_of child → ArePassed v 0 m.rows
values_passed v child m is (rec, at) same =
    passed_by v 0 m.rows Dictionary is
    (λ c of.
    let next : c ≡ v.node.index + 1 = only_child (table_of v.node) v.node.index c Dictionary (rules_at v.node Nesting) is (λ m e. e) of in
    (refl, ap (λ (m : Node). m.rows) same ∙ ap₂ (λ (r : Recording) (i : ℕ). (node_at (nodes_in r) i).rows) rec (at ∙ sym next)))

-- a node of another kind has no child
pub none_passed : (v : Window) (j : Kind) → Is (numbers_of v.node) j → ((m : ℕ) → ChildrenFit j m → m ≡ 0) → ArePassed v 0 0
none_passed v j is none = passed_by v 0 0 j is (λ c of. absurd (no_child (table_of v.node) v.node.index c j (rules_at v.node Nesting) is none of))

-- it is of the child, in the same recording
passed_at : (k : Kind) (w : layout.Window) (c : ℕ) → passed_to k w c ≡ rows_at w c (passed_to k w c).first (passed_to k w c).rows
passed_at Null w c = refl
passed_at Boolean w c = refl
passed_at Fixed w c = refl
passed_at Bytes32 w c = refl
passed_at Bytes64 w c = refl
passed_at List32 w c = refl
passed_at List64 w c = refl
passed_at Struct w c = refl
passed_at Dictionary w c = refl

-- it lies inside the child's rows
pub place_inside : (v : Window) (p : places.Place) (x y : ℕ) → places.IsChildPlace v.node p → ArePassed v x y → x + y ≤ places.rows_at p
place_inside v p x y (rec, of) t =
    let r = rules_at v.node KindOrSize in
    let w = window_in v in
    let e = t r.kind r.is p.1 of in
    let inside = subst Inside (passed_at r.kind w p.1) (passing.inside w r.kind p.1 (inside_of v) r.is of) in
    let same : (node_at (table_of v.node) p.1).rows ≡ places.rows_at p = ap (λ (rec : Recording). (node_at (nodes_in rec) p.1).rows) (sym rec) in
    omega (arith, inside.within, e.0, e.1, same)

pub is_passed : (v : Window) (p : places.Place) (x y : ℕ) → places.IsChildPlace v.node p → ArePassed v x y
    → (k : Kind) → Is (numbers_of v.node) k → window_at p.0 p.1 x y ≡ passed_to k (window_in v) p.1
is_passed v p x y (rec, of) t k is =
    let e = t k is p.1 of in
    let w = window_in v in
    ap (λ (r : Recording). window_at r p.1 x y) rec ∙ ap₂ (rows_at w p.1) e.0 e.1 ∙ sym (passed_at k w p.1)
