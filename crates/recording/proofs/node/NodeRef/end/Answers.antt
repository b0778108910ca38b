use Rattle.std.proofs.Common.{ap, arith}
use Rattle.layout.specs.declared.fault.Refusal.TheVariants.{Nesting}
use Rattle.layout.specs.declared.node.Node.{Node}
use Rattle.recording.proofs.node.NodeRef.end.Goals as goal

pub overflow_add-result : goal.overflow_add-result
overflow_add-result c =
    let n = c.node.ensures.rules Nesting in
    omega (arith, n.within, c.args.self.now.recording.opened.0, ap (λ (n : Node). n.span) c.node.ensures.value)

pub returns-clause-bound : goal.returns-clause-bound
returns-clause-bound c =
    let n = c.node.ensures.rules Nesting in
    let e = ap (λ (n : Node). n.span) c.node.ensures.value in
    (omega (arith, n.some), omega (arith, n.within))

pub returns-clause-children : goal.returns-clause-children
returns-clause-children c =
    let n = c.node.ensures.rules Nesting in
    rw c.node.ensures.value (n.children, n.fill)
