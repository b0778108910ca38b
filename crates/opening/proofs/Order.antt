-- The checks of a node in the order of their numbers.
use Rattle.std.proofs.Common.{◌≡◌, ℕ, ◌+◌, ◌<◌, true, false, List, Some, None, Option, Ok, Err, Result, MatchResult, IsErrAnd, sym, ap, ◌∙◌, subst}
use Rattle.layout.specs.declared.fault.Refusal.{Refusal}
use Rattle.layout.specs.declared.fault.Refusal.TheVariants.{KindOrSize, Nesting, Place, Offset, Key}
use Rattle.layout.specs.declared.kind.Kind.{Kind}
use Rattle.layout.specs.declared.node.Node.{Node}
use Rattle.layout.specs.Faults.{refusal_number}
use Rattle.layout.specs.Kinds.{kind_of}
use Rattle.layout.specs.Nodes.{node_at}
use Rattle.layout.specs.Tests.{tabled_as, tabled_by, holds}
use Rattle.layout.proofs.Opening.{all_hold, below_4, below_next}
use Rattle.layout.specs.Nodes.{nodes_of}
use Rattle.opening.specs.declared.subject.Subject.{Subject}
use Rattle.opening.specs.Checks.{AllHold, Breaks, NodeVerdict}
use Rattle.opening.specs.Subjects.{table_of, kept}
use Rattle.opening.proofs.Subjects.{table_kept}

-- what `?` hands on
pub handed_on : {T : Type 0} (P : T → Type 0) (Q : Refusal → Type 0) (out : Result T Refusal) (e : Refusal) → IsErrAnd out (λ q. q ≡ e) → Q e → MatchResult out P Q
handed_on P Q (Ok x) e told h = absurd told
handed_on P Q (Err q) e told h = subst Q (sym told) h

module _ (ns : List Node) (bs : List ℕ) (i : ℕ) where
  -- a number of no kind, and one whose table does not allow the node
  pub no_kind : (n : Node) → n ≡ node_at ns i → kind_of n.kind ≡ None → holds KindOrSize ns bs i ≡ false
  unfolding holds
  no_kind n same e = ap (λ (o : Option Kind). tabled_by o (node_at ns i)) (ap (λ (n : Node). kind_of n.kind) (sym same) ∙ e)

  pub not_tabled : (n : Node) (k : Kind) → n ≡ node_at ns i → kind_of n.kind ≡ Some k → tabled_as k n ≡ false → holds KindOrSize ns bs i ≡ false
  unfolding holds
  not_tabled n k same e f =
      ap (λ (o : Option Kind). tabled_by o (node_at ns i)) (ap (λ (n : Node). kind_of n.kind) (sym same) ∙ e) ∙ ap (tabled_as k) (sym same) ∙ f

  pub breaks_table : holds KindOrSize ns bs i ≡ false → Breaks ns bs i KindOrSize
  breaks_table f = record { here = f; smaller = below_4 ns bs i }

  pub verdict_err : (out : Result ℕ Refusal) (e q : Refusal) → IsErrAnd out (λ p. p ≡ e) → e ≡ q → Breaks ns bs i q → NodeVerdict ns bs i out
  verdict_err (Ok x) e q told same b = absurd told
  verdict_err (Err p) e q told same b = subst (Breaks ns bs i) (sym (told ∙ same)) b

-- ---- the first rule that a node with a kind breaks

module _ (s : Subject) where
  abbrev below : ℕ → Type 0
  below n = (r : Refusal) → refusal_number r < n → kept r s ≡ true

  abbrev first : Refusal → Type 0
  first q = Breaks (table_of s) s.bytes.now s.index q

  next : (q : Refusal) → below (refusal_number q) → kept q s ≡ true → below (refusal_number q + 1)
  next q = below_next (table_of s) s.bytes.now s.index q

  below_5 : below 5
  below_5 = next KindOrSize (below_4 (table_of s) s.bytes.now s.index) (table_kept s)

  pub breaks_nesting : kept Nesting s ≡ false → first Nesting
  breaks_nesting f = record { here = f; smaller = below_5 }

  module _ (nesting : kept Nesting s ≡ true) where
    below_6 : below 6
    below_6 = next Nesting below_5 nesting

    pub breaks_place : kept Place s ≡ false → first Place
    breaks_place f = record { here = f; smaller = below_6 }

    module _ (place : kept Place s ≡ true) where
      below_7 : below 7
      below_7 = next Place below_6 place

      pub breaks_offset : kept Offset s ≡ false → first Offset
      breaks_offset f = record { here = f; smaller = below_7 }

      module _ (offset : kept Offset s ≡ true) where
        pub breaks_key : kept Key s ≡ false → first Key
        breaks_key f = record { here = f; smaller = next Offset below_7 offset }

        pub keeps_all : kept Key s ≡ true → AllHold (table_of s) s.bytes.now s.index
        keeps_all = all_hold (table_of s) s.bytes.now s.index (table_kept s) nesting place offset

  -- it is node i of the bytes that were handed
  module _ (nb bs : List ℕ) (i : ℕ) (same : (s.nodes.now ≡ nb) × (s.bytes.now ≡ bs) × (s.index ≡ i)) where
    pub verdict_of : (out : Result ℕ Refusal) → NodeVerdict (table_of s) s.bytes.now s.index out → NodeVerdict (nodes_of nb) bs i out
    verdict_of out v =
        subst (λ (n : List ℕ). NodeVerdict (nodes_of n) bs i out) same.0
        (subst (λ (b : List ℕ). NodeVerdict (nodes_of s.nodes.now) b i out) same.1
        (subst (λ (j : ℕ). NodeVerdict (nodes_of s.nodes.now) s.bytes.now j out) same.2 v))

    pub refused : (out : Result ℕ Refusal) (e q : Refusal) → IsErrAnd out (λ p. p ≡ e) → e ≡ q → first q → NodeVerdict (nodes_of nb) bs i out
    refused out e q told is b = verdict_of out (verdict_err (table_of s) s.bytes.now s.index out e q told is b)
