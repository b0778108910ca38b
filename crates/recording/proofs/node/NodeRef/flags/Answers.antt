use Rattle.std.proofs.Common.{arith}
use Rattle.layout.specs.declared.fault.Refusal.TheVariants.{KindOrSize}
use Rattle.recording.proofs.Reading.{rules_at, flags_lie}
use Rattle.recording.proofs.node.NodeRef.flags.Goals as goal

pub bits-requires-clause-few : goal.bits-requires-clause-few
bits-requires-clause-few c = rw c.node-node.ensures.value (omega (arith, (rules_at c.args.self.now KindOrSize).rows))

pub bits-requires-clause-within : goal.bits-requires-clause-within
bits-requires-clause-within c = rw c.node-node.ensures.value (flags_lie c.args.self.now c.requires)
