use Rattle.std.proofs.Common.{refl, arith}
use Rattle.layout.proofs.Leading.{ones_counted, zeros_counted}
use Rattle.layout.proofs.bit.count_trailing.Goals as goal

pub returns-then-bit : goal.returns-then-bit
returns-then-bit c =
    let t = ones_counted c.args.byte c.args.bit c.trailing_ones.result (omega arith) c.if-bit.true c.trailing_ones.ensures in
    record { alike = t.alike; most = t.most; ends = t.ends }

pub returns-else-bit : goal.returns-else-bit
returns-else-bit c =
    let t = zeros_counted c.args.byte c.args.bit _ (omega arith) c.if-bit.false refl in
    record { alike = t.alike; most = t.most; ends = t.ends }
