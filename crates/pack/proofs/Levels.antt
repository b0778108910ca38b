-- The depth of trees that are printed one after another.
use Rattle.std.proofs.Common.{◌≡◌, ℕ, ◌+◌, ◌-◌, ◌<◌, ◌≤◌, cond, ltb, ◌⊎◌, List, [], ◌∷◌, map, length, All, sym, refl, ap, ◌∙◌, subst, inl, inr, add-one, arith}
use Rattle.std.proofs.lemmas.List.Elements.{All-nil, All-cons, All-head}
use Rattle.std.proofs.lemmas.Bool.{lt-ltb, le-ltb, cases_eq, cases_lt}
use Rattle.layout.specs.declared.fault.Refusal.TheVariants.{Nesting}
use Rattle.layout.specs.declared.node.Node.{Node}
use Rattle.layout.specs.Lists.{count}
use Rattle.layout.specs.Nodes.{node_at, end_of, depth_of}
use Rattle.layout.specs.Rules.{SideBySide, Filled, Nested}
use Rattle.layout.proofs.Depth.{count_same, count_front, nested_in, filled_from}
use Rattle.layout.proofs.Kids.{side_le, side_kids}
use Rattle.layout.proofs.Opening.{kept_rule}
use Rattle.recording.specs.declared.node.NodeRef.{NodeRef}
use Rattle.recording.specs.declared.recording.Recording.{Recording}
use Rattle.recording.specs.NodeRefs.{table_of, run_of}
use Rattle.recording.specs.Places.{Place, place_of, places_between, trees_of, children_of}
use Rattle.recording.specs.View.{nodes_in, bytes_in}
use Rattle.pack.specs.Levels.{IsDeep}

-- the tops of the trees that fill the nodes from p up to e have depth d; no node before them ends among them
record Level (ns : List Node) (p e d : ℕ) : Type 0 where
  pub clear : (j : ℕ) → j < p → (end_of ns j ≤ p) ⊎ (e ≤ end_of ns j)
  pub depth : p < e → d ≡ depth_of ns p

same_by : (a b x : ℕ) → ((x ≤ a) × (x ≤ b)) ⊎ ((a < x) × (b < x)) → ltb a x ≡ ltb b x
same_by a b x (inl h) = le-ltb a x h.0 ∙ sym (le-ltb b x h.1)
same_by a b x (inr h) = lt-ltb a x h.0 ∙ sym (lt-ltb b x h.1)

module _ (ns : List Node) where
  top : Level ns 0 (length ns) 1
  unfolding depth_of
  top = record { clear = λ j l. absurd (omega arith); depth = λ l. refl }

  module _ (p e d : ℕ) (old : Level ns p e d) (here : p < e) (high : end_of ns p ≤ e) where
    below_clear : (j : ℕ) → j < p + 1 → (end_of ns j ≤ p + 1) ⊎ (end_of ns p ≤ end_of ns j)
    below_clear j l =
        elim (cases_eq j p) [
          | inl q ↦ inr (subst (λ (k : ℕ). end_of ns p ≤ end_of ns k) (sym q) (omega arith))
          | inr ne ↦ elim (old.clear j (omega arith)) [ inl h ↦ inl (omega arith) | inr h ↦ inr (omega arith) ]
        ]

    one_deeper : p + 1 < end_of ns p → d + 1 ≡ depth_of ns (p + 1)
    unfolding depth_of
    one_deeper l =
        let same : count p (λ j. ltb (p + 1) (end_of ns j)) ≡ count p (λ j. ltb p (end_of ns j)) =
        count_same p (λ j. ltb (p + 1) (end_of ns j)) (λ j. ltb p (end_of ns j))
        (λ j h. same_by (p + 1) p (end_of ns j) (elim (old.clear j h) [ inl a ↦ inl (omega arith, a) | inr a ↦ inr (omega arith, omega arith) ])) in
        let t = lt-ltb (p + 1) (end_of ns p) l in
        let step : count (p + 1) (λ j. ltb (p + 1) (end_of ns j)) ≡ 1 + count p (λ j. ltb (p + 1) (end_of ns j)) =
        ap (λ n. count n (λ j. ltb (p + 1) (end_of ns j))) (add-one p) ∙ ap (λ b. cond b 1 0 + count p (λ j. ltb (p + 1) (end_of ns j))) t in
        omega (arith, old.depth here)

    -- the children of the first tree
    below : Level ns (p + 1) (end_of ns p) (d + 1)
    below = record { clear = below_clear; depth = one_deeper }

    module _ (some : 1 ≤ (node_at ns p).span) (nested : (x : ℕ) → x < e → Nested ns x) where
      inside : (j : ℕ) → p ≤ j → j < end_of ns p → end_of ns j ≤ end_of ns p
      inside j lo hi =
          elim (cases_eq j p) [
            | inl q ↦ subst (λ (k : ℕ). end_of ns k ≤ end_of ns p) (sym q) (omega arith)
            | inr ne ↦ nested_in ns (j - p) p j (omega arith) (omega arith) hi (λ x l. nested x (omega arith))
          ]

      beside_clear : (j : ℕ) → j < end_of ns p → (end_of ns j ≤ end_of ns p) ⊎ (e ≤ end_of ns j)
      beside_clear j l =
          elim (cases_lt j p) [
            | inl h ↦ elim (old.clear j h) [ inl a ↦ inl (omega arith) | inr a ↦ inr a ]
            | inr h ↦ inl (inside j h l)
          ]

      as_deep : end_of ns p < e → d ≡ depth_of ns (end_of ns p)
      unfolding depth_of
      as_deep l =
          let front = count_front (end_of ns p) p (λ j. ltb (end_of ns p) (end_of ns j)) (omega arith) (λ k lo hi. le-ltb (end_of ns p) (end_of ns k) (inside k lo hi)) in
          let same : count p (λ j. ltb (end_of ns p) (end_of ns j)) ≡ count p (λ j. ltb p (end_of ns j)) =
          count_same p (λ j. ltb (end_of ns p) (end_of ns j)) (λ j. ltb p (end_of ns j))
          (λ j h. same_by (end_of ns p) p (end_of ns j) (elim (old.clear j h) [ inl a ↦ inl (omega arith, a) | inr a ↦ inr (omega arith, omega arith) ])) in
          omega (arith, old.depth here)

      -- the trees after the first
      beside : Level ns (end_of ns p) e d
      beside = record { clear = beside_clear; depth = as_deep }

-- the tops of trees side by side are as deep as the first
each_deep : (rec : Recording) (d : ℕ) (cs : List ℕ) (p e : ℕ) → e ≤ length (nodes_in rec) → SideBySide (nodes_in rec) p cs e → Level (nodes_in rec) p e d → All (IsDeep d) (map (λ (i : ℕ). (rec, i)) cs)
each_deep rec d [] p e high side level = All-nil (IsDeep d)
each_deep rec d (c ∷ cs) p e high side level =
    let ns = nodes_in rec in
    let up = side_le ns cs (end_of ns p) e side.2 in
    let here : p < e = omega (arith, side.1) in
    let on = beside ns p e d level here up side.1 (λ x l. kept_rule ns (bytes_in rec) rec.opened x (omega arith) Nesting) in
    All-cons (IsDeep d) (rec, c) _ (level.depth here ∙ ap (depth_of ns) (sym side.0)) (each_deep rec d cs (end_of ns p) e high side.2 on)

between_deep : (rec : Recording) (d p e : ℕ) → e ≤ length (nodes_in rec) → Filled (nodes_in rec) p e → Level (nodes_in rec) p e d → All (IsDeep d) (places_between rec p e)
between_deep rec d p e high filled level =
    let ks = side_kids (nodes_in rec) filled.0 (e - p) p e filled.1 (omega arith) in
    subst (λ (cs : List ℕ). All (IsDeep d) (map (λ (i : ℕ). (rec, i)) cs)) (sym ks) (each_deep rec d filled.0 p e high filled.1 level)

pub tops_deep : (rec : Recording) → All (IsDeep 1) (trees_of rec 0)
tops_deep rec =
    let ns = nodes_in rec in
    between_deep rec 1 0 (length ns) (omega arith) (filled_from ns 0 (omega arith) (λ x l. kept_rule ns (bytes_in rec) rec.opened x l Nesting)) (top ns)

module _ (n : NodeRef) where
  abbrev t : List Node
  t = table_of n

  nested : (x : ℕ) → x < length t → Nested t x
  nested x l = kept_rule t (run_of n) n.recording.opened x l Nesting

  pub depth_small : depth_of t n.index ≤ 64
  depth_small = (nested n.index n.stands).deep

  -- a node is deep as its tree is
  own_level : Level t n.index (end_of t n.index) (depth_of t n.index)
  own_level =
      let within = (nested n.index n.stands).within in
      record {
        clear = λ j l.
            elim (cases_lt n.index (end_of t j)) [
              | inl h ↦ inr (nested_in t (n.index - j) j n.index (omega arith) (omega arith) h (λ x g. nested x (omega arith)))
              | inr h ↦ inl h
            ];
        depth = λ l. refl;
      }

  pub children_deep : (d : ℕ) → d ≡ depth_of t n.index → All (IsDeep (d + 1)) (children_of n)
  children_deep d deep =
      let k = nested n.index n.stands in
      let low : n.index < end_of t n.index = omega (arith, k.some) in
      let level = below t n.index (end_of t n.index) (depth_of t n.index) own_level low (omega arith) in
      between_deep n.recording (d + 1) (n.index + 1) (end_of t n.index) k.within (k.children, k.fill) (subst (λ (m : ℕ). Level t (n.index + 1) (end_of t n.index) (m + 1)) (sym deep) level)

-- the first of some nodes
pub first_deep : (d : ℕ) (all : List Place) (n : NodeRef) (rest : List Place) → all ≡ place_of n ∷ rest → All (IsDeep d) all → d ≡ depth_of (table_of n) n.index
first_deep d all n rest e h = All-head (IsDeep d) (place_of n) rest (subst (All (IsDeep d)) e h)
