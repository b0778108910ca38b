use Rattle.std.proofs.Common.{◌≡◌, length, sym, ap, ◌∙◌, rules, arith}
use Rattle.dictionaries.specs.declared.tracker.DictionaryTracker.{DictionaryTracker}
use Rattle.dictionaries.specs.declared.update.DictionaryUpdate.TheVariants as update
use Rattle.dictionaries.specs.declared.update.MetDictionary.{MetDictionary}
use Rattle.dictionaries.specs.Tracking.{kept_windows}
use Rattle.dictionaries.proofs.Keeping.{length_kept, step_set, step_none, step_past}
use Rattle.dictionaries.proofs.tracker.DictionaryTracker.keep.Goals.{then-id-self+then-ne, else-id-self, else-id-self-via-then-id-self+else-ne, else-id-self-via-else-id-self}
use Rattle.dictionaries.proofs.tracker.DictionaryTracker.keep.Goals as goal

pub loop-id-preserved : goal.loop-id-preserved
loop-id-preserved c =
    let old = c.args.self.now in
    let now = c.loop-id.self in
    let d : MetDictionary = record { column = 0; node = 0; values = record { node = 0; rows = 0 }; update = update.None } in
    let long : length (kept_windows old) ≡ now.dict_ids = length_kept old.dict_ids old.written.entries (omega arith) ∙ sym c.loop-id.invariant.ids in
    elim c.if-id-self.branch [
      | then-id-self+then-ne w ↦ record {
        ids = ap (λ (t : DictionaryTracker). t.dict_ids) w.self-is ∙ c.loop-id.invariant.ids;
        kept = ap kept_windows w.self-is ∙ step_set now.dict_ids now.written.entries (kept_windows old) long c.args.met.now c.loop-id.id (omega arith) c.loop-id.invariant.kept d w.insert.new.self.entries (omega arith) (search rules) w.insert.ensures;
      }
      | else-id-self w ↦ elim w.else-id-self.branch [
        | else-id-self-via-then-id-self+else-ne v ↦ record {
          ids = ap (λ (t : DictionaryTracker). t.dict_ids) w.self-is ∙ c.loop-id.invariant.ids;
          kept = ap kept_windows w.self-is ∙ step_none now.dict_ids now.written.entries (kept_windows old) long c.args.met.now c.loop-id.id (omega arith) c.loop-id.invariant.kept d (search rules);
        }
        | else-id-self-via-else-id-self v ↦ record {
          ids = ap (λ (t : DictionaryTracker). t.dict_ids) w.self-is ∙ c.loop-id.invariant.ids;
          kept = ap kept_windows w.self-is ∙ step_past now.dict_ids now.written.entries (kept_windows old) long c.args.met.now c.loop-id.id (omega arith) c.loop-id.invariant.kept (omega arith);
        }
      ]
    ]
