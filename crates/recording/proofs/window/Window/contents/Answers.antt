use Rattle.std.proofs.Common.{◌+◌, subst, arith}
use Rattle.layout.specs.declared.fault.Refusal.TheVariants.{KindOrSize}
use Rattle.recording.specs.declared.node.NodeRef.{NodeRef}
use Rattle.recording.specs.NodeRefs.{IsOffset}
use Rattle.recording.proofs.Reading.{rules_at}
use Rattle.recording.proofs.WindowFacts.{offsets_between}
use Rattle.recording.proofs.window.Window.contents.Goals as goal

pub overflow_add-self : goal.overflow_add-self
overflow_add-self c =
    let w = c.args.self.now in
    record { fits = omega (arith, w.inside, (rules_at w.node KindOrSize).rows) }

pub overflow_sub-result : goal.overflow_sub-result
overflow_sub-result c =
    let v = c.args.self.now in
    let has = c.requires in
    let of = c.offsets-offsets.ensures in
    offsets_between v.node has.0 v.first v.rows c.at-first.result c.at-end.result has.1 v.inside
    (subst (λ (n : NodeRef). IsOffset n v.first c.at-first.result) of c.at-first.ensures) (subst (λ (n : NodeRef). IsOffset n (v.first + v.rows) c.at-end.result) of c.at-end.ensures)
