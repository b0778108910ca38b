use Rattle.opening.proofs.Subjects.{element_stands}
use Rattle.opening.proofs.placed.Placed.reach.Goals as goal

pub child-requires : goal.child-requires
child-requires c = element_stands c.args.self.now c.in-List32.is
