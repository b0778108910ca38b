use Rattle.std.proofs.Common.{length}
use Rattle.timing.proofs.plan.+copy_body.Given as goal

abbrev pub decreases-copy_body : goal.decreases-copy_body
decreases-copy_body l = length l.entries.now
