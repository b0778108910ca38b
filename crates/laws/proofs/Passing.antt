-- The windows that a window passes, by node numbers.
use Rattle.std.proofs.Common.{◌≡◌, ℕ, ◌+◌, ◌<◌, ◌≤◌, List, [], ◌∷◌, map, length, Some, sym, refl, ap, ◌∙◌, subst, ap₂, arith}
use Rattle.layout.specs.declared.fault.Refusal.TheVariants.{Nesting, Offset}
use Rattle.layout.specs.declared.kind.Kind.{Kind}
use Rattle.layout.specs.declared.kind.Kind.TheVariants.{Null, Boolean, Fixed, Bytes32, Bytes64, List32, List64, Struct, Dictionary}
use Rattle.layout.specs.declared.node.Node.{Node}
use Rattle.layout.specs.declared.number.Width.TheVariants.{Four, Eight}
use Rattle.layout.specs.Lists.{rows}
use Rattle.layout.specs.Nodes.{node_at, end_of}
use Rattle.layout.specs.Rows.{count_at, key_at}
use Rattle.layout.specs.Rules.{Is, SideBySide, Filled, AllRows, Nested, ChildrenFit, Rising}
use Rattle.layout.specs.Trees.{Tree, Forest, child_of, tree_as, trees_in, tree_at}
use Rattle.layout.specs.Shown.{Shown, Showns}
use Rattle.layout.specs.Windows.{marks_at, label_of, passed_first, passed_count, shown, shown_all, Window, Inside, tree_in, top_in, shown_in, shown_side, passed_to, ChildOf}
use Rattle.layout.proofs.Opening.{kept_rule}
use Rattle.layout.proofs.Kids.{side_le, one_child}
use Rattle.laws.specs.Passing.{Passing}
use Rattle.laws.proofs.Table.{at_none, at_more, tree_as_lem}
use Rattle.laws.proofs.Kept.{tree_rows, child_is}
use Rattle.laws.proofs.Says.{passed}

-- ---- a child, among those that fill the span

pub record Child (ns : List Node) (i c : ℕ) : Type 0 where
  pub some : 1 ≤ (node_at ns c).span
  pub high : end_of ns c ≤ end_of ns i
  pub rows : Is (node_at ns i) Struct → (node_at ns c).rows ≡ (node_at ns i).rows

-- those before it are the first of all
child_by : (ns : List Node) (i : ℕ) (before all : List ℕ) (p c : ℕ) → SideBySide ns p before c → SideBySide ns p all (end_of ns i) → c < end_of ns i
    → (Is (node_at ns i) Struct → AllRows ns all (node_at ns i).rows) → Child ns i c
child_by ns i [] [] p c s t l r = absurd (omega arith)
child_by ns i [] (d ∷ ds) p c s t l r =
    let e : p ≡ c = s in
    let here : d ≡ c = t.0 ∙ e in
    record {
      some = subst (λ (k : ℕ). 1 ≤ (node_at ns k).span) e t.1;
      high = subst (λ (k : ℕ). end_of ns k ≤ end_of ns i) e (side_le ns ds (end_of ns p) (end_of ns i) t.2);
      rows = λ is. ap (λ (k : ℕ). (node_at ns k).rows) (sym here) ∙ (r is).0;
    }
child_by ns i (b ∷ bs) [] p c s t l r = absurd (omega (arith, side_le ns bs (end_of ns p) c s.2, s.1))
child_by ns i (b ∷ bs) (d ∷ ds) p c s t l r = child_by ns i bs ds (end_of ns p) c s.2 t.2 l (λ is. (r is).1)

pub child_facts : (ns : List Node) (i c : ℕ) → Nested ns i → ChildOf ns i c → Child ns i c
child_facts ns i c n h = child_by ns i h.0.0 n.children (i + 1) c h.0.1 n.fill h.1 n.rows

-- the only child is the next node
pub only_child : (ns : List Node) (i c : ℕ) (k : Kind) → Nested ns i → Is (node_at ns i) k → ((m : ℕ) → ChildrenFit k m → m ≡ 1) → ChildOf ns i c → c ≡ i + 1
only_child ns i c k n is one h = by h.0.0 h.0.1
  where
    by : (before : List ℕ) → SideBySide ns (i + 1) before c → c ≡ i + 1
    by [] s = sym s
    by (b ∷ bs) s =
        let o = one_child ns i n (one (length n.children) (n.count k is)) in
        absurd (omega (arith, side_le ns bs (end_of ns (i + 1)) c s.2, o.1, h.1))

-- no child
pub no_child : (ns : List Node) (i c : ℕ) (k : Kind) → Nested ns i → Is (node_at ns i) k → ((m : ℕ) → ChildrenFit k m → m ≡ 0) → ChildOf ns i c → ⊥
no_child ns i c k n is zero_of h = by n.children n.fill (zero_of (length n.children) (n.count k is))
  where
    by : (all : List ℕ) → SideBySide ns (i + 1) all (end_of ns i) → length all ≡ 0 → ⊥
    by [] s e = omega (arith, h.1, side_le ns h.0.0 (i + 1) c h.0.1)
    by (x ∷ xs) s e = omega arith

-- the child after it
pub child_next : (ns : List Node) (i c : ℕ) → Filled ns (i + 1) c → 1 ≤ (node_at ns c).span → Filled ns (i + 1) (end_of ns c)
child_next ns i c h some = by h.0 (i + 1) h.1
  where
    by : (before : List ℕ) (p : ℕ) → SideBySide ns p before c → Filled ns p (end_of ns c)
    by [] p s = let e : c ≡ p = sym s in subst (λ (x : ℕ). Filled ns x (end_of ns c)) e (c ∷ [], (refl, some, refl))
    by (b ∷ bs) p s = let r = by bs (end_of ns p) s.2 in (p ∷ r.0, (refl, s.1, r.1))

-- ---- inside

module _ (w : Window) (g : Inside w) where
  abbrev ns : List Node
  ns = w.nodes

  abbrev i : ℕ
  i = w.node

  nest : Nested ns i
  nest = kept_rule ns w.bytes g.opened i g.stands Nesting

  stands_at : (c : ℕ) → ChildOf ns i c → c < length ns
  stands_at c h = omega (arith, h.1, nest.within)

  list_within : (v c : ℕ) → Rising w.bytes v (top_in w) (node_at ns (i + 1)).rows → c ≡ i + 1
      → passed_first w.bytes v (top_in w) w.first w.rows + passed_count w.bytes v (top_in w) w.first w.rows ≤ (node_at ns c).rows
  list_within v c r e =
      let q : (node_at ns c).rows ≡ (node_at ns (i + 1)).rows = ap (λ (x : ℕ). (node_at ns x).rows) e in
      omega (arith, passed w.bytes v (top_in w) (node_at ns (i + 1)).rows r w.first w.rows g.within)

  inside_as : (k : Kind) (c : ℕ) → Is (top_in w) k → ChildOf ns i c → Inside (passed_to k w c)
  inside_as Null c is h = absurd (no_child ns i c Null nest is (λ m e. e) h)
  inside_as Boolean c is h = absurd (no_child ns i c Boolean nest is (λ m e. e) h)
  inside_as Fixed c is h = absurd (no_child ns i c Fixed nest is (λ m e. e) h)
  inside_as Bytes32 c is h = absurd (no_child ns i c Bytes32 nest is (λ m e. e) h)
  inside_as Bytes64 c is h = absurd (no_child ns i c Bytes64 nest is (λ m e. e) h)
  inside_as List32 c is h =
      let r = kept_rule ns w.bytes g.opened i g.stands Offset List32 Four is refl in
      record { opened = g.opened; stands = stands_at c h; within = list_within 4 c r (only_child ns i c List32 nest is (λ m e. e) h) }
  inside_as List64 c is h =
      let r = kept_rule ns w.bytes g.opened i g.stands Offset List64 Eight is refl in
      record { opened = g.opened; stands = stands_at c h; within = list_within 8 c r (only_child ns i c List64 nest is (λ m e. e) h) }
  inside_as Struct c is h = record { opened = g.opened; stands = stands_at c h; within = omega (arith, (child_facts ns i c nest h).rows is, g.within) }
  inside_as Dictionary c is h = record { opened = g.opened; stands = stands_at c h; within = omega arith }

  -- ---- what is shown of them

  tree_is : (k : Kind) → Is (top_in w) k → tree_in w ≡ tree_as (Some k) (top_in w) (trees_in ns (i + 1) (end_of ns i))
  tree_is k is = tree_as_lem (top_in w) (trees_in ns (i + 1) (end_of ns i)) k is

  child_at : (k : Kind) → Is (top_in w) k → ((c : ℕ) → ChildrenFit k c → c ≡ 1) → child_of (top_in w) (trees_in ns (i + 1) (end_of ns i)) ≡ tree_at ns (i + 1)
  child_at k is one = child_is ns w.bytes g.opened i k g.stands is one

  shown_as : (t : Tree) → tree_in w ≡ t → shown_in w ≡ shown w.bytes t w.first w.rows
  shown_as t e = ap (λ (x : Tree). shown w.bytes x w.first w.rows) e

  sides : (cs : List ℕ) (p e : ℕ) → SideBySide ns p cs e → e ≤ length ns → shown_all w.bytes (trees_in ns p e) w.first w.rows ≡ shown_side (map (passed_to Struct w) cs)
  unfolding shown
  sides [] p e s l = ap (λ (f : Forest). shown_all w.bytes f w.first w.rows) (at_none ns p e (omega arith))
  sides (c ∷ cs) p e s l =
      let up = side_le ns cs (end_of ns p) e s.2 in
      ap (λ (f : Forest). shown_all w.bytes f w.first w.rows) (at_more ns p e (omega (arith, s.1)) l s.1 up)
      ∙ ap₂ Showns.more (ap (λ (x : ℕ). shown w.bytes (tree_at ns x) w.first w.rows) (sym s.0)) (sides cs (end_of ns p) e s.2 l)

  list32_as : Is (top_in w) List32
      → shown_in w ≡ Shown.lists (label_of (top_in w)) 4 (marks_at w.bytes (top_in w) w.first w.rows) (rows w.rows (λ r. count_at w.bytes 4 (top_in w) (w.first + r))) (shown_in (passed_to List32 w (i + 1)))
  unfolding shown
  list32_as is = shown_as (Tree.lists 4 (top_in w) (tree_at ns (i + 1))) (tree_is List32 is ∙ ap (Tree.lists 4 (top_in w)) (child_at List32 is (λ c e. e)))

  list64_as : Is (top_in w) List64
      → shown_in w ≡ Shown.lists (label_of (top_in w)) 8 (marks_at w.bytes (top_in w) w.first w.rows) (rows w.rows (λ r. count_at w.bytes 8 (top_in w) (w.first + r))) (shown_in (passed_to List64 w (i + 1)))
  unfolding shown
  list64_as is = shown_as (Tree.lists 8 (top_in w) (tree_at ns (i + 1))) (tree_is List64 is ∙ ap (Tree.lists 8 (top_in w)) (child_at List64 is (λ c e. e)))

  struct_as : (cs : List ℕ) → Is (top_in w) Struct → SideBySide ns (i + 1) cs (end_of ns i)
      → shown_in w ≡ Shown.struct (label_of (top_in w)) (marks_at w.bytes (top_in w) w.first w.rows) w.rows (shown_side (map (passed_to Struct w) cs))
  unfolding shown
  struct_as cs is s =
      shown_as (Tree.struct (top_in w) (trees_in ns (i + 1) (end_of ns i))) (tree_is Struct is)
      ∙ ap (Shown.struct (label_of (top_in w)) (marks_at w.bytes (top_in w) w.first w.rows) w.rows) (sides cs (i + 1) (end_of ns i) s nest.within)

  dictionary_as : Is (top_in w) Dictionary
      → shown_in w ≡ Shown.dictionary (label_of (top_in w)) (top_in w).size (marks_at w.bytes (top_in w) w.first w.rows) (rows w.rows (λ r. key_at w.bytes (top_in w) (w.first + r))) (shown_in (passed_to Dictionary w (i + 1)))
  unfolding shown
  dictionary_as is =
      shown_as (Tree.dictionary (top_in w) (tree_at ns (i + 1))) (tree_is Dictionary is ∙ ap (Tree.dictionary (top_in w)) (child_at Dictionary is (λ c e. e)))
      ∙ ap (λ (m : ℕ). Shown.dictionary (label_of (top_in w)) (top_in w).size (marks_at w.bytes (top_in w) w.first w.rows) (rows w.rows (λ r. key_at w.bytes (top_in w) (w.first + r))) (shown w.bytes (tree_at ns (i + 1)) 0 m))
      (tree_rows ns (i + 1))

pub passing : Passing
passing = record {
  inside = λ w k c g is h. inside_as w g k c is h;
  list32 = list32_as;
  list64 = list64_as;
  struct = λ w cs g is s. struct_as w g cs is s;
  dictionary = dictionary_as;
}
