use Rattle.std.proofs.Common.{arith}
use Rattle.columns.proofs.SentBits.{below_all}
use Rattle.columns.proofs.bits.copy_bytes.Goals as goal

pub returns-clause-bytes : goal.returns-clause-bytes
returns-clause-bytes c = below_all 256 c.args.bytes.now (λ i l. omega (arith, c.type_inv.bytes i))
