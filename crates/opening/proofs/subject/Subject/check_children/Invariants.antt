use Rattle.opening.proofs.Walking.{Along}
use Rattle.opening.proofs.subject.Subject.check_children.Given as goal

abbrev pub invariant-loop-child : goal.invariant-loop-child
invariant-loop-child l = Along l.self l.child-iterator l.count
