use Rattle.std.proofs.Common.{arith, sym, ap, ◌∙◌}
use Rattle.layout.specs.Nodes.{bitmap_of}
use Rattle.layout.specs.declared.fault.Refusal.TheVariants.{KindOrSize}
use Rattle.recording.proofs.Reading.{rules_at, marks_lie}
use Rattle.recording.proofs.node.NodeRef.marks.Goals as goal

pub bits-requires-clause-few : goal.bits-requires-clause-few
bits-requires-clause-few c = rw c.node-node.ensures.value (omega (arith, (rules_at c.args.self.now KindOrSize).rows))

pub bits-requires-clause-within : goal.bits-requires-clause-within
bits-requires-clause-within c =
    rw c.node-node.ensures.value
    (marks_lie c.args.self.now c.in_ok-place.place c.requires (ap bitmap_of (sym c.node-node.ensures.value) ∙ sym c.bitmap_place.ensures ∙ c.in_ok-place.was))
