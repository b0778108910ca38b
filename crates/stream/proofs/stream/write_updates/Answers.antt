use Rattle.std.proofs.Common.{◌∙◌, ap}
use Rattle.std.specs.Prelude.{slice_set, slice_index_or}
use Rattle.stream.proofs.Updates.{blank, one_more}
use Rattle.stream.proofs.stream.write_updates.Goals as goal

pub loop-id-preserved : goal.loop-id-preserved
loop-id-preserved c =
    ap (λ us. slice_set us c.loop-id.id (slice_index_or c.args.met.now c.loop-id.id blank).update) c.loop-id.invariant ∙ one_more c.loop-id.id c.args.met.now c.args.updates.now c.loop-id-test.true
