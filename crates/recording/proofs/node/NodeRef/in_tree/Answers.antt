use Rattle.std.proofs.Common.{arith}
use Rattle.layout.specs.declared.fault.Refusal.TheVariants.{Nesting}
use Rattle.recording.proofs.Reading.{rules_at}
use Rattle.recording.proofs.node.NodeRef.in_tree.Goals as goal

pub overflow_add-self : goal.overflow_add-self
overflow_add-self c =
    let n = c.args.self.now in
    record { fits = omega (arith, c.requires, (rules_at n Nesting).within, n.recording.opened.0) }

pub at-requires : goal.at-requires
at-requires c = omega (arith, c.requires, (rules_at c.args.self.now Nesting).within)
