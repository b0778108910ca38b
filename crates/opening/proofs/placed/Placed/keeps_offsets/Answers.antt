use Rattle.std.proofs.Common.{arith}
use Rattle.std.proofs.lemmas.Grind.{common_steps}
use Rattle.opening.proofs.Subjects.{offset_is}
use Rattle.opening.proofs.placed.Placed.keeps_offsets.Goals as goal

pub returns-in-None : goal.returns-in-None
returns-in-None c = let e = offset_is c.args.self.now.subject in grind (arith, common_steps)

pub returns-in-Some : goal.returns-in-Some
returns-in-Some c = let e = offset_is c.args.self.now.subject in grind (arith, common_steps)
