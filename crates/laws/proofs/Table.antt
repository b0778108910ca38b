-- The trees of a table by node numbers, and by kind.
use Rattle.std.proofs.Common.{◌≡◌, ℕ, zero, suc, ◌+◌, ◌-◌, ◌<◌, ◌≤◌, List, [], ◌∷◌, length, take, drop, Some, None, Option, sym, refl, ap, ◌∙◌, ap₂, sub-eq-zero_of_le, add-one, arith, length-drop, length-take, drop-cons, take-take, drop-drop}
use native.Mathlib.Nat.{zero-sub}
use lib.Seq.{take-nil}
use Rattle.layout.specs.declared.kind.Kind.{Kind}
use Rattle.layout.specs.declared.kind.Kind.TheVariants.{Null, Boolean, Fixed, Bytes32, Bytes64, List32, List64, Struct, Dictionary}
use Rattle.layout.specs.declared.node.Node.{Node}
use Rattle.layout.specs.Kinds.{kind_of}
use Rattle.layout.specs.Rules.{Is}
use Rattle.layout.specs.Trees.{root_of, tree_as}
use Rattle.layout.proofs.Table.{kind_of_lem}
use Rattle.layout.specs.Lists.{cut}
use Rattle.layout.specs.Trees.{Forest, none, more, tree_of, forest_by, trees_in, tree_at}
use Rattle.layout.specs.Nodes.{zero_node, node_at}

-- fuel above the length does not matter
pub forest_fuel : (k j : ℕ) (ns : List Node) → length ns ≤ k → length ns ≤ j → forest_by k ns ≡ forest_by j ns
unfolding forest_by
forest_fuel zero zero ns h g = refl
forest_fuel zero (suc j) [] h g = refl
forest_fuel zero (suc j) (n ∷ ns) h g = absurd (omega arith)
forest_fuel (suc k) zero [] h g = refl
forest_fuel (suc k) zero (n ∷ ns) h g = absurd (omega arith)
forest_fuel (suc k) (suc j) [] h g = refl
forest_fuel (suc k) (suc j) (n ∷ ns) h g =
    ap₂ (λ (x y : Forest). more (tree_of n x) y)
    (forest_fuel k j (take (n.span - 1) ns) (omega (arith, length-take (n.span - 1) ns)) (omega (arith, length-take (n.span - 1) ns)))
    (forest_fuel k j (drop (n.span - 1) ns) (omega (arith, length-drop (n.span - 1) ns)) (omega (arith, length-drop (n.span - 1) ns)))

drop-take : {X : Type 0} (k m : ℕ) (xs : List X) → drop k (take m xs) ≡ take (m - k) (drop k xs)
drop-take zero m xs = ap (λ (j : ℕ). take j xs) (omega arith)
drop-take (suc k) zero xs = ap (λ (j : ℕ). take j (drop (suc k) xs)) (sym (zero-sub (suc k)))
drop-take (suc k) (suc m) [] = sym (take-nil (suc m - suc k))
drop-take (suc k) (suc m) (x ∷ xs) = drop-take k m xs ∙ ap (λ (j : ℕ). take j (drop k xs)) (omega arith)

module _ (ns : List Node) where
  pub at_none : (i e : ℕ) → e ≤ i → trees_in ns i e ≡ none
  unfolding forest_by
  at_none i e h = rw (sub-eq-zero_of_le h)

  pub at_more : (i e : ℕ) → i < e → e ≤ length ns → 1 ≤ (node_at ns i).span → i + (node_at ns i).span ≤ e
      → trees_in ns i e ≡ more (tree_at ns i) (trees_in ns (i + (node_at ns i).span) e)
  unfolding forest_by
  at_more i e h l lo hi =
      let n : Node = node_at ns i in
      let m : ℕ = e - (i + 1) in
      let xs : List Node = take m (drop (i + 1) ns) in
      let a : e - i ≡ suc m = omega arith in
      let b : drop i ns ≡ n ∷ drop (i + 1) ns = rw add-one (drop-cons ns i zero_node (omega arith)) in
      let s : n.span - 1 ≡ i + n.span - (i + 1) = omega arith in
      let w : take (n.span - 1) xs ≡ cut (i + 1) (i + n.span - (i + 1)) ns =
      take-take (n.span - 1) m (drop (i + 1) ns) (omega arith) ∙ ap (λ (j : ℕ). cut (i + 1) j ns) s in
      let p : m - (n.span - 1) ≡ e - (i + n.span) = omega arith in
      let q : i + 1 + (n.span - 1) ≡ i + n.span = omega arith in
      let v : drop (n.span - 1) xs ≡ cut (i + n.span) (e - (i + n.span)) ns =
      drop-take (n.span - 1) m (drop (i + 1) ns)
      ∙ ap₂ (λ (j : ℕ) (ys : List Node). take j ys) p (drop-drop (n.span - 1) (i + 1) ns ∙ ap (λ (j : ℕ). drop j ns) q) in
      ap₂ (λ (k : ℕ) (ys : List Node). forest_by k (take k ys)) a b
      ∙ ap₂ (λ (x y : List Node). more (tree_of n (forest_by m x)) (forest_by m y)) w v
      ∙ ap₂ (λ (x y : Forest). more (tree_of n x) y)
      (forest_fuel m (i + n.span - (i + 1)) (cut (i + 1) (i + n.span - (i + 1)) ns) (simp length-take (omega arith)) (simp length-take (omega arith)))
      (forest_fuel m (e - (i + n.span)) (cut (i + n.span) (e - (i + n.span)) ns) (simp length-take (omega arith)) (simp length-take (omega arith)))

-- ---- the tree of a node by its kind

pub tree_as_lem : (n : Node) (f : Forest) (k : Kind) → Is n k → tree_of n f ≡ tree_as (Some k) n f
tree_as_lem n f k is = ap (λ (o : Option Kind). tree_as o n f) (kind_of_lem n.kind k is)

pub root_is : (n : Node) (f : Forest) → root_of (tree_of n f) ≡ n
root_is n f = by (kind_of n.kind)
  where
    by : (o : Option Kind) → root_of (tree_as o n f) ≡ n
    by None = refl
    by (Some Null) = refl
    by (Some Boolean) = refl
    by (Some Fixed) = refl
    by (Some Bytes32) = refl
    by (Some Bytes64) = refl
    by (Some List32) = refl
    by (Some List64) = refl
    by (Some Struct) = refl
    by (Some Dictionary) = refl
