use Rattle.std.proofs.Common.{◌-◌, ◌/◌, length, sym, ◌∙◌, arith, rules}
use Rattle.layout.specs.Nodes.{nodes_of}
use Rattle.layout.proofs.Nodes.{length-nodes}
use Rattle.layout.proofs.Walk.{span_unfit}
use Rattle.opening.proofs.Walking.{unshaped, shaped_by, along_start, along_more, along_rows, along_filled, along_unfit}
use Rattle.opening.proofs.subject.Subject.check_children.Goals as goal

pub returns-in_err-ensure : goal.returns-in_err-ensure
returns-in_err-ensure c =
    let s = c.args.self.now in
    let e = c.in_err-ensure.ensures in
    unshaped s c.from_residual.result c.in_err-ensure.field-0.0 (search rules) e.0
    (span_unfit (nodes_of s.nodes.now) s.kind s.index s.node (length s.nodes.now / 80 - s.index) s.at (omega (arith, length-nodes s.nodes.now)) (sym e.1 ∙ c.spans_within.ensures))

pub loop-child-init : goal.loop-child-init
loop-child-init c =
    let s = c.args.self.now in
    let same = c.into_iter-child-iterator.ensures.into_iter_gives in
    along_start s (length s.nodes.now / 80 - s.index) c.into_iter-child-iterator.result (sym c.in_ok-ensure.ensures ∙ c.spans_within.ensures) (search rules) (search rules) (search rules)

pub returns-in_err-child : goal.returns-in_err-child
returns-in_err-child c =
    let step = rw c.in_err-child.was at c.in-Some.ensures.steps in
    unshaped c.args.self.now c.from_residual-in_err-child.result c.in_err-child.field-0.0 (search rules) step.refusal
    (along_unfit c.args.self.now c.loop-child.child-iterator c.loop-child.count c.loop-child.invariant _ c.next.new.self step)

pub returns-in_err-ensure-2 : goal.returns-in_err-ensure-2
returns-in_err-ensure-2 c =
    let e = c.in_err-ensure-2.ensures in
    unshaped c.args.self.now c.from_residual-in_err-ensure-2.result c.in_err-ensure-2.field-0.0 (search rules) e.0
    (along_rows c.args.self.now c.loop-child.child-iterator c.loop-child.count c.loop-child.invariant c.in_ok-child.field-0 c.next.new.self
    (rw c.in_ok-child.was at c.in-Some.ensures.steps) (sym e.1 ∙ c.rows_agree.ensures))

pub loop-child-preserved : goal.loop-child-preserved
loop-child-preserved c =
    along_more c.args.self.now c.loop-child.child-iterator c.loop-child.count c.loop-child.invariant c.in_ok-child.field-0 c.next.new.self
    (rw c.in_ok-child.was at c.in-Some.ensures.steps) (sym c.in_ok-ensure-2.ensures ∙ c.rows_agree.ensures)

pub returns : goal.returns
returns c =
    let s = c.args.self.now in
    let full = c.may_have.ensures
    ∙ along_filled s c.loop-child.child-iterator c.loop-child.count c.loop-child.invariant c.in-None.ensures.steps
    (length s.nodes.now / 80 - s.index) (sym c.in_ok-ensure.ensures ∙ c.spans_within.ensures) (omega (arith, length-nodes s.nodes.now)) in
    shaped_by s c.may_have.result full c.ensure-2.result c.ensure-2.ensures
