use Rattle.std.proofs.Common.{arith}
use Rattle.std.proofs.lemmas.Grind.{common_steps}
use Rattle.opening.proofs.Subjects.{key_is}
use Rattle.opening.proofs.placed.Placed.keeps_keys.Goals as goal

pub returns-in-Dictionary : goal.returns-in-Dictionary
returns-in-Dictionary c = let e = key_is c.args.self.now.subject in grind (arith, common_steps)

pub returns-in_default : goal.returns-in_default
returns-in_default c = let e = key_is c.args.self.now.subject in grind (arith, common_steps)
