-- A walk over the children of a node, for the check of its nesting.
use Rattle.std.proofs.Common.{◌≡◌, ℕ, zero, suc, ◌+◌, ◌-◌, ◌<◌, ◌≤◌, Bool, true, false, cond, not, ◌&&◌, eqb, leb, List, length, Some, sym, refl, ap, ◌∙◌, subst, ap₂, inl, inr, arith}
use Rattle.std.proofs.lemmas.Bool.{and_left, and_right, and_parts, and_cases, not-false, not-true, eqb-false, leb-true, true≢false, lt-leb, le-leb, leb-false, eqb-true, eq-eqb, ne_eqb, cases_Bool, cases_eq}
use Rattle.layout.specs.declared.kind.Kind.{Kind}
use Rattle.layout.specs.declared.kind.Kind.TheVariants.{Struct}
use Rattle.layout.specs.declared.node.Node.{Node}
use Rattle.layout.specs.Lists.{all, sum_of}
use Rattle.layout.specs.Kinds.{children_fit, same}
use Rattle.layout.specs.Nodes.{node_at, end_of}
use Rattle.layout.specs.Tests.{kids, kids_of, spans_within, rows_agree, kids_fit, shaped_as}
use Rattle.layout.proofs.Every.{cond_at}
use Rattle.layout.proofs.Kids.{kids_step, kids_zero, kids_end, some, span_of, some_from}

alone : (e : Bool) → e ≡ (e && true)
alone true = refl
alone false = refl

pub fits_tells : (n : Node) (room : ℕ) → true ≡ spans_within n room → (1 ≤ n.span) × (n.span ≤ room)
fits_tells n room h =
    let p = and_parts (not (eqb n.span 0)) (leb n.span room) (sym h) in
    let ne : n.span ≡ 0 → ⊥ = eqb-false _ _ (not-true _ p.0) in
    (elim (cases_eq n.span 0) [ inl e ↦ absurd (ne e) | inr e ↦ omega arith ], leb-true _ _ p.1)

cond_false_parts : (b x : Bool) → cond b x true ≡ false → (b ≡ true) × (x ≡ false)
cond_false_parts true x h = (refl, h)
cond_false_parts false x h = absurd (true≢false h)

module _ (ns : List Node) (k : Kind) (i : ℕ) where
  abbrev pub alike : ℕ → Bool
  alike c = eqb (node_at ns c).rows (node_at ns i).rows

  abbrev e : ℕ
  e = end_of ns i

  -- n children have been passed, and those from p on are left
  pub record Walked (p n fuel : ℕ) : Type 0 where
    pub enough : e - p < fuel
    pub low : i + 1 ≤ p
    pub high : p ≤ e
    pub few : n + (i + 1) ≤ p
    pub nonzero : all (kids_of ns i) (some ns) ≡ all (kids fuel ns p e) (some ns)
    pub filled : sum_of (kids_of ns i) (span_of ns) + (i + 1) ≡ p + sum_of (kids fuel ns p e) (span_of ns)
    pub counted : length (kids_of ns i) ≡ n + length (kids fuel ns p e)
    pub rows : same k Struct ≡ true → all (kids_of ns i) alike ≡ all (kids fuel ns p e) alike

  pub walk_start : 1 ≤ (node_at ns i).span → Walked (i + 1) 0 (node_at ns i).span
  walk_start h =
      record { enough = omega arith; low = omega arith; high = omega arith; few = omega arith; nonzero = refl; filled = omega arith; counted = omega arith; rows = λ _. refl }

  -- one child more
  more : (p n f : ℕ) → Walked p n f → p < e → 1 ≤ (node_at ns p).span → end_of ns p ≤ e → rows_agree k (node_at ns i) (node_at ns p) ≡ true → Walked (end_of ns p) (n + 1) (f - 1)
  more p n zero w h lo hi alike-rows = absurd (omega (arith, w.enough))
  more p n (suc f) w h lo hi alike-rows =
      let q = kids_step ns f p e h lo in
      let g : suc f - 1 ≡ f = omega arith in
      let t : some ns p ≡ true = some_from ns p lo in
      rw g
      (record {
        enough = omega (arith, w.enough);
        low = omega (arith, w.low);
        high = hi;
        few = omega (arith, w.few);
        nonzero = (rw q at w.nonzero) ∙ ap (λ (b : Bool). b && all (kids f ns (end_of ns p) e) (some ns)) t;
        filled = omega (arith, rw q at w.filled);
        counted = omega (arith, rw q at w.counted);
        rows = λ s. (rw q at (w.rows s)) ∙ ap (λ (b : Bool). b && all (kids f ns (end_of ns p) e) alike) (cond_at (same k Struct) (alike p) alike-rows s);
      })

  pub walk_more : (p n f : ℕ) (parent child : Node) → Walked p n f → parent ≡ node_at ns i → child ≡ node_at ns p → p < e → 1 ≤ child.span → p + child.span ≤ e
      → true ≡ rows_agree k parent child → Walked (p + child.span) (n + 1) (f - 1)
  walk_more p n f parent child w same-parent same-child h lo hi u =
      subst (λ (c : Node). Walked (p + c.span) (n + 1) (f - 1)) (sym same-child)
      (more p n f w h (subst (λ (c : Node). 1 ≤ c.span) same-child lo) (subst (λ (c : Node). p + c.span ≤ e) same-child hi) (sym (u ∙ ap₂ (rows_agree k) same-parent same-child)))

  -- ---- the ways that a walk stops

  abbrev t1 : Bool
  t1 = not (eqb (node_at ns i).span 0)

  abbrev t2 : Bool
  t2 = leb (end_of ns i) (length ns)

  abbrev t3 : Bool
  t3 = all (kids_of ns i) (some ns)

  abbrev t4 : Bool
  t4 = eqb (1 + sum_of (kids_of ns i) (span_of ns)) (node_at ns i).span

  abbrev t5 : Bool
  t5 = kids_fit k ns i

  stop_1 : t1 ≡ false → false ≡ shaped_as (Some k) ns i
  unfolding shaped_as
  stop_1 h = sym (and_left t1 (t2 && (t3 && (t4 && t5))) h)

  stop_2 : t2 ≡ false → false ≡ shaped_as (Some k) ns i
  unfolding shaped_as
  stop_2 h = sym (and_right t1 (t2 && (t3 && (t4 && t5))) (and_left t2 (t3 && (t4 && t5)) h))

  stop_3 : t3 ≡ false → false ≡ shaped_as (Some k) ns i
  unfolding shaped_as
  stop_3 h = sym (and_right t1 (t2 && (t3 && (t4 && t5))) (and_right t2 (t3 && (t4 && t5)) (and_left t3 (t4 && t5) h)))

  stop_4 : t4 ≡ false → false ≡ shaped_as (Some k) ns i
  unfolding shaped_as
  stop_4 h = sym (and_right t1 (t2 && (t3 && (t4 && t5))) (and_right t2 (t3 && (t4 && t5)) (and_right t3 (t4 && t5) (and_left t4 t5 h))))

  stop_5 : t5 ≡ false → false ≡ shaped_as (Some k) ns i
  unfolding shaped_as
  stop_5 h = sym (and_right t1 (t2 && (t3 && (t4 && t5))) (and_right t2 (t3 && (t4 && t5)) (and_right t3 (t4 && t5) (and_right t4 t5 h))))

  -- a span of 0, or past the table
  pub span_unfit : (n : Node) (room : ℕ) → n ≡ node_at ns i → i + room ≡ length ns → false ≡ spans_within n room → false ≡ shaped_as (Some k) ns i
  span_unfit n room same_node h u =
      elim (and_cases (some ns i) (leb (node_at ns i).span room) (sym (u ∙ ap (λ (n : Node). spans_within n room) same_node))) [
        | inl z ↦ stop_1 z
        | inr l ↦ stop_2 (lt-leb _ _ (omega (arith, leb-false _ _ l)))
      ]

  -- a child of span 0, or past the end
  pub walk_unfit : (p n f : ℕ) (child : Node) (room : ℕ) → Walked p n f → child ≡ node_at ns p → p < e → p + room ≡ e → false ≡ spans_within child room → false ≡ shaped_as (Some k) ns i
  walk_unfit p n zero child room w same-child h rest u = absurd (omega (arith, w.enough))
  walk_unfit p n (suc f) child room w same-child h rest u =
      elim (cases_eq (node_at ns p).span 0) [
        | inl z ↦
            (let q = kids_zero ns f p e h z in
            let t : some ns p ≡ false = ap not (eq-eqb (node_at ns p).span 0 z) in
            stop_3 ((rw q at w.nonzero) ∙ ap (λ (b : Bool). b && true) t))
        | inr nz ↦
            (let q = kids_step ns f p e h (omega arith) in
            let past : room < (node_at ns p).span =
            elim (and_cases (some ns p) (leb (node_at ns p).span room) (sym (u ∙ ap (λ (n : Node). spans_within n room) same-child))) [ inl z ↦ absurd (nz (eqb-true _ _ (not-false _ z))) | inr l ↦ leb-false _ _ l ] in
            let m : 1 + sum_of (kids_of ns i) (span_of ns) ≡ (node_at ns i).span → ⊥ = λ r. omega (arith, rw q at w.filled) in
            stop_4 (ne_eqb _ _ m))
      ]

  -- a Struct's child with other rows
  pub walk_rows : (p n f : ℕ) (parent child : Node) → Walked p n f → parent ≡ node_at ns i → child ≡ node_at ns p → p < e → 1 ≤ child.span
      → false ≡ rows_agree k parent child → false ≡ shaped_as (Some k) ns i
  walk_rows p n zero parent child w same-parent same-child h lo u = absurd (omega (arith, w.enough))
  walk_rows p n (suc f) parent child w same-parent same-child h lo u =
      let q = kids_step ns f p e h (subst (λ (n : Node). 1 ≤ n.span) same-child lo) in
      let both = cond_false_parts (same k Struct) (alike p) (sym (u ∙ ap₂ (rows_agree k) same-parent same-child)) in
      let s : same k Struct ≡ true = both.0 in
      let bad : all (kids_of ns i) alike ≡ false = (rw q at (w.rows s)) ∙ ap (λ (b : Bool). b && all (kids f ns (end_of ns p) e) alike) both.1 in
      stop_5 (and_right (children_fit k (length (kids_of ns i))) (cond (same k Struct) (all (kids_of ns i) alike) true) (ap (λ (b : Bool). cond b (all (kids_of ns i) alike) true) s ∙ bad))

  -- no child is left
  pub walk_end : (p n f : ℕ) → Walked p n f → e ≤ p → 1 ≤ (node_at ns i).span → end_of ns i ≤ length ns → children_fit k n ≡ shaped_as (Some k) ns i
  unfolding shaped_as
  walk_end p n f w h lo hi =
      let q = kids_end ns f p e h in
      let c : length (kids_of ns i) ≡ n = omega (arith, rw q at w.counted) in
      let m : 1 + sum_of (kids_of ns i) (span_of ns) ≡ (node_at ns i).span = omega (arith, rw q at w.filled, w.high) in
      let last : cond (same k Struct) (all (kids_of ns i) alike) true ≡ true =
      elim (cases_Bool (same k Struct)) [
        | inl s ↦ ap (λ (b : Bool). cond b (all (kids_of ns i) alike) true) s ∙ (rw q at (w.rows s))
        | inr s ↦ ap (λ (b : Bool). cond b (all (kids_of ns i) alike) true) s
      ] in
      let p1 : t1 ≡ true = some_from ns i lo in
      let p2 : t2 ≡ true = le-leb _ _ hi in
      let p3 : t3 ≡ true = rw q at w.nonzero in
      let p4 : t4 ≡ true = eq-eqb _ _ m in
      ap (children_fit k) (sym c) ∙ alone (children_fit k (length (kids_of ns i))) ∙ rw (p1, p2, p3, p4, last)
