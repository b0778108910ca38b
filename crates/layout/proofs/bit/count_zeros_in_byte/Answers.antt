use Rattle.std.proofs.Common.{sym, ◌∙◌, arith}
use Rattle.layout.proofs.Words.{zeros-ones}
use Rattle.layout.proofs.bit.count_zeros_in_byte.Goals as goal

pub returns : goal.returns
returns c = c.count_zeros.ensures.value ∙ sym (zeros-ones 8 c.args.byte (omega arith))
