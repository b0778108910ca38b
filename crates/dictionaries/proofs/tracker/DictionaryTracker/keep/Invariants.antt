use Rattle.std.proofs.Common.{◌≡◌, take}
use Rattle.dictionaries.specs.Batches.{kept_after}
use Rattle.dictionaries.specs.Tracking.{kept_windows}
use Rattle.dictionaries.proofs.tracker.DictionaryTracker.keep.Given as goal

abbrev pub invariant-loop-id : goal.invariant-loop-id
invariant-loop-id l =
    record {
      ids : l.self.dict_ids ≡ l.fn.self.dict_ids;
      kept : kept_windows l.self ≡ kept_after (kept_windows l.fn.self) (take l.id l.met);
    }
