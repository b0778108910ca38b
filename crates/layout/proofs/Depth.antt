-- A stack of the ends of the nodes that reach past a place counts them.
use Rattle.std.proofs.Common.{◌≡◌, ℕ, zero, suc, ◌+◌, ◌-◌, ◌<◌, ◌≤◌, Bool, true, false, cond, ltb, List, [], ◌∷◌, length, get_or, ◌++◌, take, sym, refl, ap, ◌∙◌, ap₂, inl, inr, add-one, arith}
use Rattle.std.proofs.lemmas.List.{get_or-take, get_or_append_left, get_or_push, length_push}
use Rattle.std.proofs.lemmas.Bool.{lt-ltb, le-ltb, cases_eq, cases_lt}
use Rattle.layout.specs.declared.node.Node.{Node}
use Rattle.layout.specs.Lists.{count}
use Rattle.layout.specs.Nodes.{end_of, depth_of}
use Rattle.layout.specs.Rules.{SideBySide, Filled, Nested}
use Rattle.layout.proofs.Kids.{side_le}

-- ---- counting

pub count_same : (n : ℕ) (p q : ℕ → Bool) → ((k : ℕ) → k < n → p k ≡ q k) → count n p ≡ count n q
count_same zero p q h = refl
count_same (suc n) p q h = ap₂ (λ (b : Bool) (m : ℕ). cond b 1 0 + m) (h n (omega arith)) (count_same n p q (λ k l. h k (omega arith)))

count_full : (n : ℕ) (p : ℕ → Bool) → ((k : ℕ) → k < n → p k ≡ true) → count n p ≡ n
count_full zero p h = refl
count_full (suc n) p h = let t = h n (omega arith) in let r = count_full n p (λ k l. h k (omega arith)) in rw (t, r) (omega arith)

-- those from r on fail
pub count_front : (d r : ℕ) (p : ℕ → Bool) → r ≤ d → ((k : ℕ) → r ≤ k → k < d → p k ≡ false) → count d p ≡ count r p
count_front zero r p h bad = let e : r ≡ 0 = omega arith in rw e refl
count_front (suc d) r p h bad =
    elim (cases_eq r (suc d)) [
      | inl e ↦ rw e refl
      | inr ne ↦ (let f = bad d (omega arith) (omega arith) in rw f (omega (arith, count_front d r p (omega arith) (λ k a b. bad k a (omega arith)))))
    ]

module _ (ns : List Node) where
  -- ---- a node's span lies in the span of each node that reaches past it

  pub record Covered (low x high : ℕ) : Type 0 where
    pub kid : ℕ
    pub above : low ≤ kid
    pub before : kid ≤ x
    pub past : x < end_of ns kid
    pub within : end_of ns kid ≤ high

  -- the tree that a place lies in
  covers : (cs : List ℕ) (p x e : ℕ) → SideBySide ns p cs e → p ≤ x → x < e → Covered p x e
  covers [] p x e h lo hi = absurd (omega arith)
  covers (c ∷ cs) p x e h lo hi =
      elim (cases_lt x (end_of ns p)) [
        | inl l ↦ record { kid = p; above = omega arith; before = lo; past = l; within = side_le ns cs (end_of ns p) e h.2 }
        | inr l ↦
            (let r = covers cs (end_of ns p) x e h.2 l hi in
            record { kid = r.kid; above = omega (arith, r.above); before = r.before; past = r.past; within = r.within })
      ]

  pub nested_in : (m j i : ℕ) → i - j ≤ m → j < i → i < end_of ns j → ((x : ℕ) → x < i → Nested ns x) → end_of ns i ≤ end_of ns j
  nested_in zero j i few lo hi ok = absurd (omega arith)
  nested_in (suc m) j i few lo hi ok =
      let n = ok j lo in
      let c = covers n.children (j + 1) i (end_of ns j) n.fill (omega arith) hi in
      elim (cases_eq c.kid i) [
        | inl e ↦ (let w = c.within in rw e at w)
        | inr ne ↦ (let r = nested_in m c.kid i (omega (arith, c.above, c.before)) (omega (arith, c.before)) c.past ok in omega (arith, c.within))
      ]

  -- ---- the stack

  abbrev up : List ℕ → ℕ → ℕ → Bool
  up ends x k = ltb x (get_or ends k 0)

  -- the ends of the nodes before i that reach to i or past it, the innermost last
  pub record Stacked (ends : List ℕ) (i : ℕ) : Type 0 where
    pub counts : (x : ℕ) → i ≤ x → count i (λ j. ltb x (end_of ns j)) ≡ count (length ends) (up ends x)
    pub sorted : (k m : ℕ) → k ≤ m → m < length ends → get_or ends m 0 ≤ get_or ends k 0
    pub made : (k : ℕ) → k < length ends → (j : ℕ) × (j < i) × (get_or ends k 0 ≡ end_of ns j)

  -- those that do not reach past i have been left
  module _ (old new : List ℕ) (i : ℕ) (s : Stacked old i) (fewer : length new ≤ length old) (same : new ≡ take (length new) old)
      (gone : (k : ℕ) → length new ≤ k → k < length old → get_or old k 0 ≤ i) (left : 0 < length new → i < get_or new (length new - 1) 0) where
    stays : (k : ℕ) → k < length new → get_or new k 0 ≡ get_or old k 0
    stays k h = ap (λ (ends : List ℕ). get_or ends k 0) same ∙ get_or-take (length new) old k 0 h

    past : (k : ℕ) → k < length new → i < get_or old k 0
    past k h = omega (arith, s.sorted k (length new - 1) (omega arith) (omega arith), stays (length new - 1) (omega arith), left (omega arith))

    counted : (x : ℕ) → i ≤ x → count i (λ j. ltb x (end_of ns j)) ≡ count (length new) (up old x)
    counted x lo = s.counts x lo ∙ count_front (length old) (length new) (up old x) fewer (λ k a b. le-ltb _ _ (omega (arith, gone k a b)))

    pub stack_depth : length new + 1 ≡ depth_of ns i
    unfolding depth_of
    stack_depth = omega (arith, counted i (omega arith), count_full (length new) (up old i) (λ k h. lt-ltb _ _ (past k h)))

    -- node i is entered
    module _ (after : List ℕ) (e : ℕ) (is : e ≡ end_of ns i) (more : after ≡ new ++ e ∷ []) where
      size : length after ≡ length new + 1
      size = ap length more ∙ length_push new e

      top : (k : ℕ) → length new ≡ k → get_or after k 0 ≡ end_of ns i
      top k q = ap (λ (ends : List ℕ). get_or ends k 0) more ∙ get_or_push new e 0 k q ∙ is

      below : (k : ℕ) → k < length new → get_or after k 0 ≡ get_or old k 0
      below k h = ap (λ (ends : List ℕ). get_or ends k 0) more ∙ get_or_append_left new (e ∷ []) 0 k h ∙ stays k h

      pub stack_push : ((x : ℕ) → x < i → Nested ns x) → Stacked after (i + 1)
      stack_push ok =
          record {
            counts = λ x lo.
                rw (add-one i, size, add-one (length new))
                (ap₂ (λ (b : Bool) (m : ℕ). cond b 1 0 + m) (ap (ltb x) (sym (top (length new) refl)))
                (counted x (omega arith) ∙ sym (count_same (length new) (up after x) (up old x) (λ k h. ap (ltb x) (below k h)))));
            sorted = λ k m le h.
                elim (cases_eq m (length new)) [
                  | inl a ↦
                      elim (cases_eq k m) [
                        | inl b ↦ omega (arith, top k (omega arith), top m (omega arith))
                        | inr b ↦
                            (let t = s.made k (omega arith) in
                            let n = nested_in i t.0 i (omega arith) t.1 (omega (arith, t.2, past k (omega arith))) ok in
                            omega (arith, top m (omega arith), below k (omega arith), t.2))
                      ]
                  | inr a ↦ omega (arith, below k (omega (arith, size)), below m (omega (arith, size)), s.sorted k m le (omega (arith, size)))
                ];
            made = λ k h.
                elim (cases_eq k (length new)) [
                  | inl q ↦ (i, omega arith, top k (omega arith))
                  | inr ne ↦ (let m = s.made k (omega (arith, size)) in (m.0, omega (arith, m.1), below k (omega (arith, size)) ∙ m.2))
                ];
          }

  -- ---- the trees of the top nodes fill the table

  fill_by : (m p : ℕ) → length ns - p ≤ m → p ≤ length ns → ((x : ℕ) → x < length ns → Nested ns x) → Filled ns p (length ns)
  fill_by zero p few lo ok = ([], omega arith)
  fill_by (suc m) p few lo ok =
      elim (cases_eq p (length ns)) [
        | inl e ↦ ([], e)
        | inr ne ↦
            (let n = ok p (omega arith) in
            let r = fill_by m (end_of ns p) (omega (arith, n.some)) n.within ok in
            (p ∷ r.0, (refl, n.some, r.1)))
      ]

  pub filled_from : (p : ℕ) → p ≤ length ns → ((x : ℕ) → x < length ns → Nested ns x) → Filled ns p (length ns)
  filled_from p lo ok = fill_by (length ns - p) p (omega arith) lo ok
