use Rattle.std.proofs.Common.{rules}
use Rattle.columns.proofs.PlanTold.{tells}
use Rattle.columns.proofs.plan.plan_batch.Goals as goal
use Rattle.columns.proofs.plan.plan_batch.Goals.{Start}

pub returns-clause-told : goal.returns-clause-told
returns-clause-told c = tells _ c.args.columns.now c.args.met.now c.args.memory.now _ _ (search rules)
