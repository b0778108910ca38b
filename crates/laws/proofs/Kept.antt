-- The rules that hold node by node in an opened recording hold tree by tree.
use Rattle.std.proofs.Common.{◌≡◌, ℕ, zero, suc, ◌+◌, ◌-◌, ◌<◌, ◌≤◌, true, List, [], ◌∷◌, length, Some, sym, refl, ap, ◌∙◌, subst, inl, inr, arith}
use Rattle.std.proofs.lemmas.Bool.{cases_lt}
use Rattle.layout.specs.declared.fault.Refusal.{Refusal}
use Rattle.layout.specs.declared.fault.Refusal.TheVariants.{KindOrSize, Nesting, Place, Offset, Key}
use Rattle.layout.specs.declared.kind.Kind.{Kind}
use Rattle.layout.specs.declared.kind.Kind.TheVariants.{Null, Boolean, Fixed, Bytes32, Bytes64, List32, List64, Struct, Dictionary}
use Rattle.layout.specs.declared.node.Node.{Node}
use Rattle.layout.specs.declared.number.Width.TheVariants.{Four, Eight}
use Rattle.layout.specs.Kinds.{has_bitmap}
use Rattle.layout.specs.Nodes.{node_at, end_of}
use Rattle.layout.specs.Rules.{Is, Rising, Keyed, Rule, SideBySide, Filled, AllRows, ChildrenFit}
use Rattle.layout.specs.Opening.{Kept}
use Rattle.layout.specs.Trees.{Tree, Forest, none, more, rows_of, child_of, tree_as, trees_in, tree_at}
use Rattle.layout.proofs.Opening.{kept_rule}
use Rattle.layout.proofs.Kids.{side_le, one_child, filled_first}
use Rattle.layout.proofs.Facts.{bits_lie, fixed_lie, keys_lie, offsets_lie}
use Rattle.laws.proofs.Opened.{Based, RowsAll, Opened, OpenedAll}
use Rattle.laws.proofs.Table.{at_none, at_more, tree_as_lem, root_is}

-- the rows of the tree at a node are the node's
pub tree_rows : (ns : List Node) (i : ℕ) → rows_of (tree_at ns i) ≡ (node_at ns i).rows
tree_rows ns i = ap (λ (n : Node). n.rows) (root_is (node_at ns i) (trees_in ns (i + 1) (end_of ns i)))

-- trees side by side with equal rows
rows_all : (ns : List Node) (cs : List ℕ) (p e r : ℕ) → SideBySide ns p cs e → e ≤ length ns → AllRows ns cs r → RowsAll (trees_in ns p e) r
rows_all ns [] p e r s l a = subst (λ (f : Forest). RowsAll f r) (sym (at_none ns p e (omega arith))) tt
rows_all ns (c ∷ cs) p e r s l a =
    let up = side_le ns cs (end_of ns p) e s.2 in
    let same : (node_at ns p).rows ≡ r = ap (λ (k : ℕ). (node_at ns k).rows) (sym s.0) ∙ a.0 in
    subst (λ (f : Forest). RowsAll f r) (sym (at_more ns p e (omega (arith, s.1)) l s.1 up))
    (tree_rows ns p ∙ same, rows_all ns cs (end_of ns p) e r s.2 l a.1)

module _ (ns : List Node) (bs : List ℕ) (kept : Kept ns bs) where
  rule : (i : ℕ) → i < length ns → (q : Refusal) → Rule q ns bs i
  rule = kept_rule ns bs kept

  -- ---- a node with one child

  pub one_is : (i : ℕ) (k : Kind) → i < length ns → Is (node_at ns i) k → ((c : ℕ) → ChildrenFit k c → c ≡ 1) → trees_in ns (i + 1) (end_of ns i) ≡ more (tree_at ns (i + 1)) none
  one_is i k l is one =
      let n = rule i l Nesting in
      let c = one_child ns i n (one (length n.children) (n.count k is)) in
      let here : i + 1 < length ns = omega (arith, c.0, n.within) in
      at_more ns (i + 1) (end_of ns i) c.0 n.within (rule (i + 1) here Nesting).some (omega (arith, c.1))
      ∙ ap (more (tree_at ns (i + 1))) (at_none ns (end_of ns (i + 1)) (end_of ns i) (omega (arith, c.1)))

  pub child_is : (i : ℕ) (k : Kind) → i < length ns → Is (node_at ns i) k → ((c : ℕ) → ChildrenFit k c → c ≡ 1) → child_of (node_at ns i) (trees_in ns (i + 1) (end_of ns i)) ≡ tree_at ns (i + 1)
  child_is i k l is one = ap (child_of (node_at ns i)) (one_is i k l is one)

  -- ---- by kind

  module _ (i : ℕ) (l : i < length ns) where
    abbrev n : Node
    n = node_at ns i

    abbrev f : Forest
    f = trees_in ns (i + 1) (end_of ns i)

    based : (k : Kind) → Is n k → has_bitmap k ≡ true → Based bs n
    based k is b = record { limit = (rule i l KindOrSize).rows; bitmap = λ place e. (rule i l Place).bitmap k place is b e }

    child : (k : Kind) → Is n k → ((c : ℕ) → ChildrenFit k c → c ≡ 1) → OpenedAll bs f → Opened bs (child_of n f)
    child k is one below = subst (λ (g : Forest). Opened bs (child_of n g)) (sym (one_is i k l is one)) (subst (λ (g : Forest). OpenedAll bs g) (one_is i k l is one) below).0

    child_rows : (k : Kind) → Is n k → ((c : ℕ) → ChildrenFit k c → c ≡ 1) → (node_at ns (i + 1)).rows ≡ rows_of (child_of n f)
    child_rows k is one = sym (tree_rows ns (i + 1)) ∙ ap rows_of (sym (child_is i k l is one))

    opened_as : (k : Kind) → Is n k → OpenedAll bs f → Opened bs (tree_as (Some k) n f)
    opened_as Null is below = (rule i l KindOrSize).rows
    opened_as Boolean is below = (based Boolean is refl, bits_lie bs n (rule i l Place) is)
    opened_as Fixed is below = (based Fixed is refl, fixed_lie bs n (rule i l Place) is)
    opened_as Bytes32 is below =
        (based Bytes32 is refl, offsets_lie bs n (rule i l Place) Bytes32 Four is refl, (rule i l Place).strings Bytes32 is refl, rule i l Offset Bytes32 Four is refl)
    opened_as Bytes64 is below =
        (based Bytes64 is refl, offsets_lie bs n (rule i l Place) Bytes64 Eight is refl, (rule i l Place).strings Bytes64 is refl, rule i l Offset Bytes64 Eight is refl)
    opened_as List32 is below = (
      (
        based List32 is refl,
        offsets_lie bs n (rule i l Place) List32 Four is refl,
        subst (λ (m : ℕ). Rising bs 4 n m) (child_rows List32 is (λ c h. h)) (rule i l Offset List32 Four is refl),
      ),
      child List32 is (λ c h. h) below,
    )
    opened_as List64 is below = (
      (
        based List64 is refl,
        offsets_lie bs n (rule i l Place) List64 Eight is refl,
        subst (λ (m : ℕ). Rising bs 8 n m) (child_rows List64 is (λ c h. h)) (rule i l Offset List64 Eight is refl),
      ),
      child List64 is (λ c h. h) below,
    )
    opened_as Struct is below =
        (let s = rule i l Nesting in ((based Struct is refl, rows_all ns s.children (i + 1) (end_of ns i) n.rows s.fill s.within (s.rows is)), below))
    opened_as Dictionary is below = (
      (
        based Dictionary is refl,
        keys_lie bs n (rule i l Place) is,
        subst (λ (m : ℕ). Keyed bs n m) (child_rows Dictionary is (λ c h. h)) (rule i l Key is),
      ),
      child Dictionary is (λ c h. h) below,
    )

    opened_by : OpenedAll bs f → Opened bs (tree_at ns i)
    opened_by below =
        let t = rule i l KindOrSize in
        subst (λ (x : Tree). Opened bs x) (sym (tree_as_lem n f t.kind t.is)) (opened_as t.kind t.is below)

  -- ---- every tree

  each : (k p e : ℕ) → e - p ≤ k → e ≤ length ns → Filled ns p e → OpenedAll bs (trees_in ns p e)
  each zero p e d l g = subst (λ (f : Forest). OpenedAll bs f) (sym (at_none ns p e (omega arith))) tt
  each (suc k) p e d l g =
      elim (cases_lt p e) [
        | inl m ↦
            (let s = filled_first ns p e g m in
            let some : 1 ≤ (node_at ns p).span = s.some in
            let high : end_of ns p ≤ e = s.high in
            let here : p < length ns = omega arith in
            let nest = rule p here Nesting in
            let below = each k (p + 1) (end_of ns p) (omega arith) nest.within (nest.children, nest.fill) in
            subst (λ (f : Forest). OpenedAll bs f) (sym (at_more ns p e m l some high))
            (opened_by p here below, each k (end_of ns p) e (omega arith) l s.rest))
        | inr m ↦ subst (λ (f : Forest). OpenedAll bs f) (sym (at_none ns p e m)) tt
      ]

  pub opened_in : (p e : ℕ) → e ≤ length ns → Filled ns p e → OpenedAll bs (trees_in ns p e)
  opened_in p e l g = each (e - p) p e (omega arith) l g

  pub opened_at : (i : ℕ) → i < length ns → Opened bs (tree_at ns i)
  opened_at i l = let n = rule i l Nesting in opened_by i l (opened_in (i + 1) (end_of ns i) n.within (n.children, n.fill))
