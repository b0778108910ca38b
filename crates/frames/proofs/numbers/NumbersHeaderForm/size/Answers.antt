use Rattle.std.proofs.Common.{arith}
use Rattle.frames.specs.Headers.{described}
use Rattle.frames.specs.Numbers.{number_bytes}
use Rattle.frames.proofs.NumberBytes.{length-described, size_within, size_beyond}
use Rattle.frames.proofs.numbers.NumbersHeaderForm.size.Goals as goal

pub returns-then-len-le-LIMIT : goal.returns-then-len-le-LIMIT
returns-then-len-le-LIMIT c =
    let d = c.args.message.now in
    size_within (number_bytes (described d)) _ (omega (arith, length-described d)) (omega arith) (omega arith)

pub returns-else-len-le-LIMIT : goal.returns-else-len-le-LIMIT
returns-else-len-le-LIMIT c =
    let d = c.args.message.now in
    size_beyond (number_bytes (described d)) (omega (arith, length-described d))
