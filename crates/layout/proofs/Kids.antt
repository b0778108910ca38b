-- The children of a node, and a walk over them.
use Rattle.std.proofs.Common.{◌≡◌, ℕ, zero, suc, ◌+◌, ◌-◌, ◌<◌, ◌≤◌, Bool, true, not, eqb, List, [], ◌∷◌, length, sym, refl, ap, ◌∙◌, subst, inl, inr, arith}
use Rattle.std.proofs.lemmas.Bool.{and_parts, and_from, not-true, lt-ltb, le-ltb, eqb-true, eqb-false, eq-eqb, ne_eqb, cases_eq, cases_lt}
use Rattle.layout.specs.declared.node.Node.{Node}
use Rattle.layout.specs.Lists.{all, sum_of}
use Rattle.layout.specs.Nodes.{node_at, end_of}
use Rattle.layout.specs.Rules.{SideBySide, Filled, AllRows, Nested}
use Rattle.layout.specs.Tests.{kids}

module _ (ns : List Node) where
  pub kids_step : (f p e : ℕ) → p < e → 1 ≤ (node_at ns p).span → kids (suc f) ns p e ≡ p ∷ kids f ns (end_of ns p) e
  unfolding kids
  kids_step f p e h some =
      let t = lt-ltb p e h in
      let ne : (node_at ns p).span ≡ 0 → ⊥ = λ e. omega arith in
      let u = ne_eqb _ _ ne in
      rw (t, u)

  pub kids_zero : (f p e : ℕ) → p < e → (node_at ns p).span ≡ 0 → kids (suc f) ns p e ≡ p ∷ []
  unfolding kids
  kids_zero f p e h z = let t = lt-ltb p e h in let u = eq-eqb _ _ z in rw (t, u)

  pub kids_end : (f p e : ℕ) → e ≤ p → kids f ns p e ≡ []
  unfolding kids
  kids_end zero p e h = refl
  kids_end (suc f) p e h = let t = le-ltb p e h in rw t

  -- a child has a span
  abbrev pub some : ℕ → Bool
  some c = not (eqb (node_at ns c).span 0)

  abbrev pub span_of : ℕ → ℕ
  span_of c = (node_at ns c).span

  pub some_from : (c : ℕ) → 1 ≤ (node_at ns c).span → some c ≡ true
  some_from c h = let ne : (node_at ns c).span ≡ 0 → ⊥ = λ e. omega arith in ap not (ne_eqb (node_at ns c).span 0 ne)

  pub some_tells : (c : ℕ) → some c ≡ true → 1 ≤ (node_at ns c).span
  some_tells c h = let n = eqb-false _ _ (not-true _ h) in elim (cases_eq (node_at ns c).span 0) [ inl e ↦ absurd (n e) | inr ne ↦ omega arith ]

  -- ---- the children that stand side by side are those that a walk finds

  pub side_le : (cs : List ℕ) (p e : ℕ) → SideBySide ns p cs e → p ≤ e
  side_le [] p e h = omega arith
  side_le (c ∷ cs) p e h = omega (arith, side_le cs (end_of ns p) e h.2)

  pub side_kids : (cs : List ℕ) (f p e : ℕ) → SideBySide ns p cs e → e - p ≤ f → kids f ns p e ≡ cs
  side_kids [] f p e h l = kids_end f p e (omega arith)
  side_kids (c ∷ cs) zero p e h l = absurd (omega (arith, side_le cs (end_of ns p) e h.2, h.1))
  side_kids (c ∷ cs) (suc f) p e h l =
      let up = side_le cs (end_of ns p) e h.2 in
      let r = side_kids cs f (end_of ns p) e h.2 (omega (arith, h.1)) in
      kids_step f p e (omega (arith, h.1)) h.1 ∙ rw (r, h.0)

  -- each with a span, and filling up to e
  pub side_facts : (cs : List ℕ) (p e : ℕ) → SideBySide ns p cs e → (all cs some ≡ true) × (p + sum_of cs span_of ≡ e)
  side_facts [] p e h = (refl, omega arith)
  side_facts (c ∷ cs) p e h =
      let r = side_facts cs (end_of ns p) e h.2 in
      let q = h.0 in
      let s : some c ≡ true = some_from c (subst (λ (k : ℕ). 1 ≤ (node_at ns k).span) (sym q) h.1) in
      let t : (node_at ns c).span ≡ (node_at ns p).span = ap (λ (k : ℕ). (node_at ns k).span) q in
      (and_from (some c) (all cs some) s r.0, omega (arith, r.1))

  pub kids_side : (f p e : ℕ) → all (kids f ns p e) some ≡ true → p + sum_of (kids f ns p e) span_of ≡ e → SideBySide ns p (kids f ns p e) e
  unfolding kids
  kids_side zero p e nz full = omega arith
  kids_side (suc f) p e nz full =
      elim (cases_lt p e) [
        | inl l ↦
            elim (cases_eq (node_at ns p).span 0) [
              | inl z ↦
                  (let k = kids_zero f p e l z in
                  let t = and_parts (some p) true (rw k at nz) in
                  absurd (eqb-false _ _ (not-true _ t.0) z))
              | inr ne ↦
                  (let k = kids_step f p e l (omega arith) in
                  let t = and_parts (some p) (all (kids f ns (end_of ns p) e) some) (rw k at nz) in
                  let g = rw k at full in
                  subst (λ (cs : List ℕ). SideBySide ns p cs e) (sym k) (refl, omega arith, kids_side f (end_of ns p) e t.1 (omega arith)))
            ]
        | inr l ↦
            (let k = kids_end (suc f) p e l in
            let g = rw k at full in
            subst (λ (cs : List ℕ). SideBySide ns p cs e) (sym k) (omega arith))
      ]

  -- all with so many rows
  pub rows_tell : (cs : List ℕ) (r : ℕ) → all cs (λ c. eqb (node_at ns c).rows r) ≡ true → AllRows ns cs r
  rows_tell [] r h = tt
  rows_tell (c ∷ cs) r h = let p = and_parts (eqb (node_at ns c).rows r) (all cs (λ c. eqb (node_at ns c).rows r)) h in (eqb-true _ _ p.0, rows_tell cs r p.1)

  pub rows_from : (cs : List ℕ) (r : ℕ) → AllRows ns cs r → all cs (λ c. eqb (node_at ns c).rows r) ≡ true
  rows_from [] r h = refl
  rows_from (c ∷ cs) r h = and_from _ _ (eq-eqb _ _ h.0) (rows_from cs r h.1)

  -- ---- a walk over trees that fill the nodes from p up to e: the first of them, and the rest

  pub record First (p e : ℕ) : Type 0 where
    pub some : 1 ≤ (node_at ns p).span
    pub high : end_of ns p ≤ e
    pub rest : Filled ns (end_of ns p) e

  first_by : (cs : List ℕ) (p e : ℕ) → SideBySide ns p cs e → p < e → First p e
  first_by [] p e h l = absurd (omega arith)
  first_by (c ∷ cs) p e h l = record { some = h.1; high = side_le cs (end_of ns p) e h.2; rest = (cs, h.2) }

  pub filled_first : (p e : ℕ) → Filled ns p e → p < e → First p e
  filled_first p e f l = first_by f.0 p e f.1 l

-- a node with one child: it stands right after the node, and ends where the node does
one_by : (ns : List Node) (cs : List ℕ) (p e : ℕ) → SideBySide ns p cs e → length cs ≡ 1 → (p < e) × (end_of ns p ≡ e)
one_by ns [] p e h l = absurd (omega arith)
one_by ns (c ∷ []) p e h l = (omega (arith, h.1, h.2), h.2)
one_by ns (c ∷ d ∷ cs) p e h l = absurd (omega arith)

pub one_child : (ns : List Node) (i : ℕ) → (n : Nested ns i) → length n.children ≡ 1 → (i + 1 < end_of ns i) × (end_of ns (i + 1) ≡ end_of ns i)
one_child ns i n l = one_by ns n.children (i + 1) (end_of ns i) n.fill l
