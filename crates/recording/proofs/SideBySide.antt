-- Nodes side by side: the first of them, and the others.
use Rattle.std.proofs.Common.{◌≡◌, ℕ, zero, suc, ◌-◌, ◌<◌, ◌≤◌, List, [], ◌∷◌, map, length, sym, ap, ap₂, ◌∙◌, inl, inr, arith}
use Rattle.std.proofs.lemmas.Bool.{cases_lt}
use Rattle.layout.specs.declared.fault.Refusal.TheVariants.{Nesting}
use Rattle.layout.specs.declared.node.Node.{Node}
use Rattle.layout.specs.Nodes.{node_at, end_of}
use Rattle.layout.specs.Tests.{kids}
use Rattle.layout.proofs.Kids.{kids_step, kids_end}
use Rattle.layout.proofs.Opening.{kept_rule}
use Rattle.recording.specs.declared.recording.Recording.{Recording}
use Rattle.recording.specs.declared.node.NodeRef.{NodeRef}
use Rattle.recording.specs.declared.trees.Trees.{Trees}
use Rattle.recording.specs.NodeRefs.{table_of, IsNode}
use Rattle.recording.specs.Places.{Place, place_of, places_between}
use Rattle.recording.specs.Trees.{places_left}
use Rattle.recording.specs.View.{nodes_in, bytes_in}

-- more steps than there are nodes find no more
kids_same : (ns : List Node) (f g p e : ℕ) → ((x : ℕ) → x < e → 1 ≤ (node_at ns x).span) → e - p ≤ f → e - p ≤ g → kids f ns p e ≡ kids g ns p e
kids_same ns zero g p e some a b = kids_end ns zero p e (omega arith) ∙ sym (kids_end ns g p e (omega arith))
kids_same ns (suc f) zero p e some a b = kids_end ns (suc f) p e (omega arith) ∙ sym (kids_end ns zero p e (omega arith))
kids_same ns (suc f) (suc g) p e some a b =
    elim (cases_lt p e) [
      | inl l ↦
          (let s = some p l in
          kids_step ns f p e l s ∙ ap (λ (cs : List ℕ). p ∷ cs) (kids_same ns f g (end_of ns p) e some (omega arith) (omega arith)) ∙ sym (kids_step ns g p e l s))
      | inr h ↦ kids_end ns (suc f) p e h ∙ sym (kids_end ns (suc g) p e h)
    ]

module _ (rec : Recording) (p e : ℕ) where
  pub places_none : e ≤ p → places_between rec p e ≡ []
  places_none h = ap (map (λ (i : ℕ). (rec, i))) (kids_end (nodes_in rec) (e - p) p e h)

  pub places_next : p < e → e ≤ length (nodes_in rec) → places_between rec p e ≡ (rec, p) ∷ places_between rec (end_of (nodes_in rec) p) e
  places_next l high =
      let ns = nodes_in rec in
      let some : (x : ℕ) → x < e → 1 ≤ (node_at ns x).span = λ x h. (kept_rule ns (bytes_in rec) rec.opened x (omega arith) Nesting).some in
      let s = some p l in
      ap (map (λ (i : ℕ). (rec, i)))
      (kids_same ns (e - p) (suc (e - p - 1)) p e some (omega arith) (omega arith)
      ∙ kids_step ns (e - p - 1) p e l s
      ∙ ap (λ (cs : List ℕ). p ∷ cs) (kids_same ns (e - p - 1) (e - end_of ns p) (end_of ns p) e some (omega arith) (omega arith)))

-- one step: the first of what is left, and the nodes after its tree
pub trees_step : (t : Trees) (n : NodeRef) (q : ℕ) → t.next < t.end → IsNode t.recording t.next n → q ≡ end_of (table_of n) n.index → places_left t ≡ place_of n ∷ places_between t.recording q t.end
trees_step t n q l here next =
    let at : end_of (table_of n) n.index ≡ end_of (nodes_in t.recording) t.next = ap₂ (λ (rec : Recording) (i : ℕ). end_of (nodes_in rec) i) here.0 here.1 in
    let on : q ≡ end_of (nodes_in t.recording) t.next = next ∙ at in
    places_next t.recording t.next t.end l t.within
    ∙ ap₂ (λ (p : Place) (q : ℕ). p ∷ places_between t.recording q t.end) (ap₂ (λ (rec : Recording) (i : ℕ). (rec, i)) (sym here.0) (sym here.1)) (sym on)

-- what the places from p on tell: p is past the last, or the first of them, and then come those after its tree
module _ (rec : Recording) (p e : ℕ) (high : e ≤ length (nodes_in rec)) where
  pub none_left : places_between rec p e ≡ [] → e ≤ p
  none_left h =
      elim (cases_lt p e) [
        | inl l ↦ absurd (let g = sym (places_next rec p e l high) ∙ h in cc)
        | inr l ↦ l
      ]

  pub record Leads (n : NodeRef) (rest : List Place) : Type 0 where
    pub stands : p < e
    pub here : IsNode rec p n
    pub others : rest ≡ places_between rec (end_of (nodes_in rec) p) e

  leads_by : (n : NodeRef) (rest : List Place) → p < e → place_of n ∷ rest ≡ (rec, p) ∷ places_between rec (end_of (nodes_in rec) p) e → Leads n rest
  leads_by n rest l h =
      let here : place_of n ≡ (rec, p) = cc in
      record { stands = l; here = (ap (λ (q : Place). q.0) here, ap (λ (q : Place). q.1) here); others = cc }

  pub first_left : (n : NodeRef) (rest : List Place) → places_between rec p e ≡ place_of n ∷ rest → Leads n rest
  first_left n rest h =
      elim (cases_lt p e) [
        | inl l ↦ leads_by n rest l (sym h ∙ places_next rec p e l high)
        | inr l ↦ absurd (let g = sym (places_none rec p e l) ∙ h in cc)
      ]
