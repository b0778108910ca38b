-- A walk over the children of the node that is checked.
use Rattle.std.proofs.Common.{◌≡◌, ℕ, ◌+◌, ◌-◌, Bool, true, false, ◌&&◌, leb, List, length, Result, MatchResult, IsErrAnd, sym, ap, ◌∙◌, subst, arith}
use Rattle.layout.specs.declared.fault.Refusal.{Refusal}
use Rattle.layout.specs.declared.node.Node.{Node}
use Rattle.layout.specs.Kinds.{children_fit}
use Rattle.layout.specs.Nodes.{nodes_of, node_at, end_of}
use Rattle.layout.specs.Tests.{spans_within, rows_agree}
use Rattle.layout.proofs.Walk.{Walked, fits_tells, walk_start, walk_more, walk_unfit, walk_rows, walk_end}
use Rattle.opening.specs.declared.subject.Subject.{Subject}
use Rattle.opening.specs.declared.children.Children.{Children}
use Rattle.opening.specs.Subjects.{table_of, kept, is_shaped}
use Rattle.opening.proofs.Subjects.{nesting_is}
use Rattle.opening.proofs.Order.{handed_on}
use Rattle.layout.specs.declared.fault.Refusal.TheVariants.{Nesting}
use Rattle.opening.specs.Walks.{standing_at, Passes, BreaksOff}

-- what a check of the children answers
abbrev pub Shapes : Subject → Result (Unit {0}) Refusal → Type 0
Shapes s out = MatchResult out (λ _. is_shaped s ≡ true) (λ q. (q ≡ Nesting) × (is_shaped s ≡ false))

module _ (s : Subject) where
  pub unshaped : (out : Result (Unit {0}) Refusal) (e : Refusal) → IsErrAnd out (λ q. q ≡ e) → e ≡ Nesting → false ≡ is_shaped s → Shapes s out
  unshaped out e told is f = handed_on (λ _. is_shaped s ≡ true) (λ q. (q ≡ Nesting) × (is_shaped s ≡ false)) out e told (is, sym f)

  pub shaped_by : (b : Bool) → b ≡ is_shaped s → (out : Result (Unit {0}) Refusal) → MatchResult out (λ _. b ≡ true) (λ q. (q ≡ Nesting) × (b ≡ false)) → Shapes s out
  shaped_by b same out h = subst (λ (b : Bool). MatchResult out (λ _. b ≡ true) (λ q. (q ≡ Nesting) × (b ≡ false))) same h

  -- n children have been passed
  pub record Along (w : Children) (n : ℕ) : Type 0 where
    pub nodes : w.nodes.now ≡ s.nodes.now
    pub end : w.end ≡ s.index + s.node.span
    pub walked : (f : ℕ) × Walked (table_of s) s.kind s.index w.next n f

  e_is : (w : Children) (n : ℕ) → Along w n → w.end ≡ end_of (table_of s) s.index
  e_is w n a = a.end ∙ ap (λ (m : Node). s.index + m.span) s.at

  pub along_start : (room : ℕ) (w : Children) → true ≡ spans_within s.node room → w.nodes.now ≡ s.nodes.now → w.end ≡ s.index + s.node.span → w.next ≡ s.index + 1 → Along w 0
  along_start room w h nodes end next =
      let t = fits_tells s.node room h in
      record {
        nodes = nodes;
        end = end;
        walked = (
          (node_at (table_of s) s.index).span,
          subst (λ (p : ℕ). Walked (table_of s) s.kind s.index p 0 (node_at (table_of s) s.index).span) (sym next)
              (walk_start (table_of s) s.kind s.index (omega (arith, t.0, ap (λ (m : Node). m.span) s.at))),
        );
      }

  module _ (w : Children) (n : ℕ) (a : Along w n) where
    module _ (child : Node) (t : Children) (q : Passes w child t) where
      child_is : child ≡ node_at (table_of s) w.next
      child_is = q.is ∙ ap (λ (nb : List ℕ). node_at (nodes_of nb) w.next) a.nodes

      pub along_more : true ≡ rows_agree s.kind s.node child → Along t (n + 1)
      along_more u =
          let f = fits_tells child (w.end - w.next) (sym q.fits) in
          record {
            nodes = q.nodes ∙ a.nodes;
            end = q.end ∙ a.end;
            walked = (
              a.walked.0 - 1,
              subst (λ (p : ℕ). Walked (table_of s) s.kind s.index p (n + 1) (a.walked.0 - 1)) (sym q.next)
                  (walk_more (table_of s) s.kind s.index w.next n a.walked.0 s.node child a.walked.1 s.at child_is
                  (omega (arith, q.before, e_is w n a)) f.0 (omega (arith, q.before, f.1, e_is w n a)) u),
            );
          }

      pub along_rows : false ≡ rows_agree s.kind s.node child → false ≡ is_shaped s
      along_rows u =
          let f = fits_tells child (w.end - w.next) (sym q.fits) in
          walk_rows (table_of s) s.kind s.index w.next n a.walked.0 s.node child a.walked.1 s.at child_is (omega (arith, q.before, e_is w n a)) f.0 u

    -- no child is left
    pub along_filled : w.next ≡ w.end → (room : ℕ) → true ≡ spans_within s.node room → s.index + room ≡ length (table_of s)
        → children_fit s.kind n ≡ is_shaped s
    along_filled full room h whole =
        let f = fits_tells s.node room h in
        let e = ap (λ (m : Node). m.span) s.at in
        walk_end (table_of s) s.kind s.index w.next n a.walked.0 a.walked.1 (omega (arith, full, e_is w n a)) (omega (arith, f.0, e)) (omega (arith, f.1, e))

    -- one does not fit
    pub along_unfit : (q : Refusal) (t : Children) → BreaksOff w q t → false ≡ is_shaped s
    along_unfit e t q =
        walk_unfit (table_of s) s.kind s.index w.next n a.walked.0 (standing_at w) (w.end - w.next) a.walked.1
        (ap (λ (nb : List ℕ). node_at (nodes_of nb) w.next) a.nodes) (omega (arith, q.before, e_is w n a)) (omega (arith, q.before, e_is w n a)) (sym q.unfit)

-- ---- the rule of nesting

abbrev Nests : Subject → Result (Unit {0}) Refusal → Type 0
Nests s out = MatchResult out (λ _. kept Nesting s ≡ true) (λ q. (q ≡ Nesting) × (kept Nesting s ≡ false))

pub nesting_unshaped : (s : Subject) (out : Result (Unit {0}) Refusal) (e : Refusal) → IsErrAnd out (λ q. q ≡ e) → e ≡ Nesting → is_shaped s ≡ false → Nests s out
nesting_unshaped s out e told is f =
    handed_on (λ _. kept Nesting s ≡ true) (λ q. (q ≡ Nesting) × (kept Nesting s ≡ false)) out e told
    (is, nesting_is s ∙ ap (λ (b : Bool). b && leb s.depth 64) f)

pub nesting_by : (s : Subject) → is_shaped s ≡ true → (out : Result (Unit {0}) Refusal)
    → MatchResult out (λ _. leb s.depth 64 ≡ true) (λ q. (q ≡ Nesting) × (leb s.depth 64 ≡ false)) → Nests s out
nesting_by s h out deep =
    let same : leb s.depth 64 ≡ kept Nesting s = sym (nesting_is s ∙ ap (λ (b : Bool). b && leb s.depth 64) h) in
    subst (λ (b : Bool). MatchResult out (λ _. b ≡ true) (λ q. (q ≡ Nesting) × (b ≡ false))) same deep
