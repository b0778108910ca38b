-- Rows of nodes side by side.
use Rattle.std.proofs.Common.{◌≡◌, ℕ, ◌+◌, ◌-◌, ◌<◌, ◌≤◌, List, [], ◌∷◌, ◌++◌, map, Option, Some, None, MatchOption, All, sym, refl, ap, ◌∙◌, subst, arith}
use Rattle.std.proofs.lemmas.List.Elements.{All-nil, All-cons, All-head, All-rest}
use Rattle.layout.specs.declared.fault.Refusal.TheVariants.{Nesting}
use Rattle.layout.specs.declared.kind.Kind.TheVariants.{Struct}
use Rattle.layout.specs.declared.node.Node.{Node}
use Rattle.layout.specs.Nodes.{node_at, end_of}
use Rattle.layout.specs.Rules.{Is, AllRows, SideBySide, Filled}
use Rattle.layout.proofs.Kids.{side_kids, side_le}
use Rattle.recording.specs.declared.node.NodeRef.{NodeRef}
use Rattle.recording.specs.declared.recording.Recording.{Recording}
use Rattle.recording.specs.declared.row.Row.{Row}
use Rattle.recording.specs.declared.rows.Parts.{Parts}
use Rattle.recording.specs.NodeRefs.{table_of, numbers_of}
use Rattle.recording.specs.Places.{Place, place_of, places_between, children_of, rows_at, IsChildPlace}
use Rattle.recording.specs.RowPlaces.{parts_left}
use Rattle.recording.specs.Values.{StandsBelow, AreParts}
use Rattle.recording.specs.View.{nodes_in}
use Rattle.recording.proofs.Reading.{rules_at}

-- what holds of all that are left holds of the first, and of the others
pub first_has : (P : Place → Type 0) (n : NodeRef) (xs ys : List Place) → xs ≡ place_of n ∷ ys → All P xs → P (place_of n)
first_has P n xs ys e a = All-head P (place_of n) ys (subst (All P) e a)

pub rest_has : (P : Place → Type 0) (o : Option NodeRef) (xs ys : List Place) → MatchOption o ((xs ≡ []) × (ys ≡ [])) (λ n. xs ≡ place_of n ∷ ys) → All P xs → All P ys
rest_has P None xs ys (e, f) a = subst (All P) (e ∙ sym f) a
rest_has P (Some n) xs ys e a = All-rest P (place_of n) ys xs e a

-- ---- the children of a Struct

-- those that stand side by side, by their numbers
pub sides_are : (rec : Recording) (cs : List ℕ) (p e : ℕ) → SideBySide (nodes_in rec) p cs e → places_between rec p e ≡ map (λ (i : ℕ). (rec, i)) cs
sides_are rec cs p e s = ap (map (λ (i : ℕ). (rec, i))) (side_kids (nodes_in rec) cs (e - p) p e s (omega arith))

-- each has the Struct's rows
pub children_have : (r : Row) → Is (numbers_of r.node) Struct → All (λ p. r.index < rows_at p) (children_of r.node)
children_have r is =
    let n = r.node in
    let t = rules_at n Nesting in
    subst (All (λ p. r.index < rows_at p)) (sym (sides_are n.recording t.children (n.index + 1) (end_of (table_of n) n.index) t.fill)) (each t.children (t.rows is))
  where
    each : (cs : List ℕ) → AllRows (table_of r.node) cs (numbers_of r.node).rows → All (λ p. r.index < rows_at p) (map (λ (i : ℕ). (r.node.recording, i)) cs)
    each [] h = All-nil (λ p. r.index < rows_at p)
    each (c ∷ cs) h = All-cons (λ p. r.index < rows_at p) (r.node.recording, c) (map (λ (i : ℕ). (r.node.recording, i)) cs) (omega (arith, h.0, r.within)) (each cs h.1)

-- ---- rows below

-- the same node's
pub rows_below : (r : Row) (p : Place) (xs : List ℕ) → p.0 ≡ r.node.recording → r.node.index < p.1 → All (StandsBelow r) (map (λ (i : ℕ). (p, i)) xs)
rows_below r p [] e l = All-nil (StandsBelow r)
rows_below r p (x ∷ xs) e l = All-cons (StandsBelow r) (p, x) (map (λ (i : ℕ). (p, i)) xs) (e, l) (rows_below r p xs e l)

-- of nodes side by side after it
pub sides_below : (r : Row) (x : ℕ) (cs : List ℕ) (p e : ℕ) → r.node.index < p → SideBySide (table_of r.node) p cs e
    → All (StandsBelow r) (map (λ (q : Place). (q, x)) (map (λ (i : ℕ). (r.node.recording, i)) cs))
sides_below r x [] p e l s = All-nil (StandsBelow r)
sides_below r x (c ∷ cs) p e l s =
    All-cons (StandsBelow r) ((r.node.recording, c), x) (map (λ (q : Place). (q, x)) (map (λ (i : ℕ). (r.node.recording, i)) cs)) (refl, omega (arith, s.0))
    (sides_below r x cs (end_of (table_of r.node) p) e (omega arith) s.2)

pub parts_below : (r : Row) (p : Parts) → AreParts r p → All (StandsBelow r) (parts_left p)
parts_below r p (nodes, index) =
    let n = r.node in
    let t = rules_at n Nesting in
    let left : parts_left p ≡ map (λ (q : Place). (q, p.index)) (map (λ (i : ℕ). (n.recording, i)) t.children) =
    ap (map (λ (q : Place). (q, p.index))) (nodes ∙ sides_are n.recording t.children (n.index + 1) (end_of (table_of n) n.index) t.fill) in
    subst (All (StandsBelow r)) (sym left) (sides_below r p.index t.children (n.index + 1) (end_of (table_of n) n.index) (omega arith) t.fill)

-- ---- children

-- one more node at the end
pub side_more : (ns : List Node) (cs : List ℕ) (p e : ℕ) → SideBySide ns p cs e → 1 ≤ (node_at ns e).span → SideBySide ns p (cs ++ e ∷ []) (end_of ns e)
side_more ns [] p e s some = subst (λ (q : ℕ). (e ≡ q) × (1 ≤ (node_at ns q).span) × (end_of ns q ≡ end_of ns e)) (sym s) (refl, some, refl)
side_more ns (c ∷ cs) p e s some = (s.0, s.1, side_more ns cs (end_of ns p) e s.2 some)

pub children_each : (n : NodeRef) → All (IsChildPlace n) (children_of n)
children_each n =
    let t = rules_at n Nesting in
    subst (All (IsChildPlace n)) (sym (sides_are n.recording t.children (n.index + 1) (end_of (table_of n) n.index) t.fill)) (walk [] t.children (n.index + 1) refl t.fill)
  where
    walk : (before cs : List ℕ) (p : ℕ) → SideBySide (table_of n) (n.index + 1) before p → SideBySide (table_of n) p cs (end_of (table_of n) n.index)
        → All (IsChildPlace n) (map (λ (i : ℕ). (n.recording, i)) cs)
    walk before [] p a s = All-nil (IsChildPlace n)
    walk before (c ∷ cs) p a s =
        let up = side_le (table_of n) cs (end_of (table_of n) p) (end_of (table_of n) n.index) s.2 in
        let here : Filled (table_of n) (n.index + 1) c = (before, subst (SideBySide (table_of n) (n.index + 1) before) (sym s.0) a) in
        All-cons (IsChildPlace n) (n.recording, c) (map (λ (i : ℕ). (n.recording, i)) cs) (refl, (here, omega (arith, up, s.0, s.1)))
        (walk (before ++ p ∷ []) cs (end_of (table_of n) p) (side_more (table_of n) before (n.index + 1) p a s.1) s.2)
