use Rattle.std.proofs.Common.{arith}
use Rattle.recording.proofs.Reading.{has_offsets, row_next}
use Rattle.recording.proofs.WindowFacts.{rises_at}
use Rattle.recording.proofs.offsets.Offsets.bounds.Goals as goal

pub overflow_add-r : goal.overflow_add-r
overflow_add-r c = omega (arith, row_next c.args.self.now.node c.args.r c.requires)

pub returns-clause-rises : goal.returns-clause-rises
returns-clause-rises c =
    let o = c.args.self.now in
    let has = has_offsets o in
    omega (arith, rises_at o.node o.width c.args.r has c.requires, c.at.ensures.value o.width has, c.at-2.ensures.value o.width has)
