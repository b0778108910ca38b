use Rattle.std.proofs.Common.{◌≡◌, ℕ, true, List, [], Ok, Err, Result, inl, inr, refl, rules}
use Rattle.std.specs.Result.{is_err}
use Rattle.layout.specs.declared.fault.Fault.{Fault}
use Rattle.recording.specs.declared.columns.Columns.{Columns}
use Rattle.columns.specs.declared.memory.Memory.{Memory}
use Rattle.columns.specs.Memories.{PlanAnswer}
use Rattle.columns.specs.Plans.{messages_of}
use Rattle.timing.specs.Planning.{Room, TooShort}
use Rattle.timing.proofs.plan.copy_plan.Goals as goal

-- a plan is refused where a memory is too short
too_short : (al : ℕ) (c : Columns) (before after : Memory) (r : Result ℕ Fault) (ws ds out : List ℕ) → PlanAnswer al (messages_of c []) before after r → is_err r ≡ true → Room ws ds before
    → TooShort c ws ds out
too_short al c before after (Ok n) ws ds out p e room = cc
too_short al c before after (Err f) ws ds out p e room = inl (before, room, (p.column, p.short))

pub returns-then-is_err : goal.returns-then-is_err
returns-then-is_err c e =
    inr (
      too_short _ c.args.columns.now _ _ c.plan_batch.result _ _ c.args.out.now c.plan_batch.ensures.planned (search rules) record { fields = refl; buffers = refl; messages = refl; work = refl; metadata = refl },
      refl,
      refl,
    )
