use Rattle.std.proofs.Common.{◌≤◌, drop}
use Rattle.columns.specs.Plans.{all_sent}
use Rattle.columns.proofs.Batches.{NeedsLeft}
use Rattle.columns.proofs.plan.count_dictionaries.Given as goal

-- with the needs of what is left they are those of all
abbrev pub invariant-loop-id : goal.invariant-loop-id
invariant-loop-id l =
    record {
      left : NeedsLeft (all_sent l.fn.recording 0 l.fn.met) (all_sent l.fn.recording l.id (drop l.id l.fn.met)) l.needs l.messages;
      few : l.messages ≤ l.id;
    }
