use Rattle.std.proofs.Common.{refl, sym, ap, ◌∙◌, inr, arith, rules}
use Rattle.layout.specs.declared.node.Node.{Node}
use Rattle.recording.specs.Trees.{places_left}
use Rattle.recording.proofs.Fitting.{column_missing, column_differs, column_next, column_ends, column_within, so_far_none, so_far_more, alike_between}
use Rattle.recording.proofs.SideBySide.{places_none}
use Rattle.recording.proofs.recording.Recording.columns.Goals as goal
use Rattle.recording.proofs.recording.Recording.columns.Goals.{in_default-via-in-Some+else-node-rows, in_default-via-in_default}

pub loop-column-init : goal.loop-column-init
loop-column-init c = (search rules, λ k l. absurd (omega arith), so_far_none c.args.self.now c.args.first c.args.rows, search rules, λ l. absurd (omega arith), λ z. omega arith)

pub loop-column-preserved : goal.loop-column-preserved
loop-column-preserved c =
    let rec = c.args.self.now in
    let k = c.loop-column.column in
    let i = c.loop-column.invariant in
    let left = sym i.0 ∙ c.in-Some.ensures.steps in
    let same = sym (ap (λ (n : Node). n.rows) c.node.ensures.value) ∙ c.if-node-rows.true in
    let next = column_next rec c.args.first c.args.rows k c.in-Some.node (places_left c.next.new.self) left same i.1 in (
      next.0,
      next.1,
      so_far_more rec c.args.first c.args.rows k i.2 (next.1 k (omega arith)),
      column_within rec c.args.first c.args.rows k c.in-Some.node (places_left c.next.new.self) c.end-end.result left c.end-end.ensures.bound.1,
      λ l. column_ends rec c.args.first c.args.rows k c.in-Some.node (places_left c.next.new.self) c.end-end.result left c.end-end.ensures.value,
      λ z. absurd (omega arith),
    )

pub invariant_of-result-clause-alike : goal.invariant_of-result-clause-alike
invariant_of-result-clause-alike c =
    let i = c.loop-column.invariant in
    alike_between c.args.self.now c.args.first c.args.rows c.loop-column.column c.loop-column.end i.2 i.4 i.5

pub returns-in_default : goal.returns-in_default
returns-in_default c =
    inr (record {
      column = c.loop-column.column;
      named = c.new.ensures;
      few = omega arith;
      below = c.loop-column-test.true;
      unfit = elim c.in_default.branch [
        | in_default-via-in-Some+else-node-rows w ↦
            column_differs c.args.self.now c.args.first c.args.rows c.loop-column.column w.in-Some.node (places_left c.next.new.self) (sym c.loop-column.invariant.0 ∙ w.in-Some.ensures.steps)
            (λ e. w.if-node-rows.false (ap (λ (n : Node). n.rows) w.node.ensures.value ∙ e))
        | in_default-via-in_default w ↦ column_missing c.args.self.now c.args.first c.args.rows c.loop-column.column (sym c.loop-column.invariant.0 ∙ w.in_default.ensures.steps.0)
      ];
      before = c.loop-column.invariant.1;
    })

pub returns : goal.returns
returns c =
    let i = c.loop-column.invariant in
    (search rules, refl, refl, refl, search rules, λ z. places_none c.args.self.now c.args.first c.loop-column.end (i.5 (omega arith)))
