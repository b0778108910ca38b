use Rattle.std.proofs.Common.{ap}
use Rattle.layout.specs.Numbers.{wide, unle}
use Rattle.opening.proofs.Sliced.{slot_cut}
use Rattle.opening.proofs.placed.Placed.numbers.Goals as goal

pub returns-clause-at : goal.returns-clause-at
returns-clause-at c =
    let s = c.args.self.now.subject in
    rw c.bytes-wide.ensures (λ r l. ap unle (slot_cut s.bytes.now (wide c.args.width) s.node c.args.count r l))
