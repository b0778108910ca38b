use Rattle.std.proofs.Common.{arith}
use Rattle.std.proofs.lemmas.Grind.{common_steps}
use Rattle.layout.specs.Tests.{placed_as}
use Rattle.opening.proofs.Subjects.{place_is}
use Rattle.opening.proofs.subject.Subject.keeps_places.Goals as goal

pub returns-then-bitmap_lies : goal.returns-then-bitmap_lies
unfolding placed_as
returns-then-bitmap_lies c = let e = place_is c.args.self.now in grind (arith, common_steps)

pub returns-else-bitmap_lies : goal.returns-else-bitmap_lies
unfolding placed_as
returns-else-bitmap_lies c = let e = place_is c.args.self.now in grind (arith, common_steps)
