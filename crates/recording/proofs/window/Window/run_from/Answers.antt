use Rattle.std.proofs.Common.{subst}
use Rattle.recording.specs.Contents.{TellValid}
use Rattle.recording.proofs.Contents.{run_marked}
use Rattle.recording.proofs.window.Window.run_from.Goals as goal

pub returns : goal.returns
returns c =
    run_marked c.args.self.now c.args.from c.requires c.in-Some.marks c.part-marks.result (subst (TellValid c.args.self.now) c.in-Some.is c.marks.ensures)
    c.part-marks.ensures c.is_set-valid.result c.count_leading-rows.result c.is_set-valid.ensures c.count_leading-rows.ensures
