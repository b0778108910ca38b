use Rattle.std.proofs.Common.{arith}
use Rattle.opening.proofs.Subjects.{end_within}
use Rattle.opening.proofs.placed.Placed.end.Goals as goal

pub overflow_add-result : goal.overflow_add-result
overflow_add-result c = record { fits = omega (arith, end_within c.args.self.now) }
