use Rattle.std.proofs.Common.{arith}
use Rattle.std.proofs.lemmas.List.{length-take-le}
use Rattle.frames.specs.Headers.{described}
use Rattle.frames.specs.Numbers.{number_bytes}
use Rattle.frames.proofs.NumberBytes.{length-described, some_header}
use Rattle.frames.proofs.numbers.NumbersHeaderForm.write.Goals as goal

pub write_description-requires : goal.write_description-requires
write_description-requires c =
    let d = c.args.message.now in
    let has = some_header (number_bytes (described d)) c.in-Some.len c.in-Some.ensures in
    omega (arith, length-take-le c.in-Some.len c.args.memory.now (omega arith), has.1, length-described d)
