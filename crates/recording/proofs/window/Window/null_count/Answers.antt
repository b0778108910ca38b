use Rattle.recording.proofs.WindowFacts.{nulls_of_window}
use Rattle.recording.proofs.window.Window.null_count.Goals as goal

pub returns : goal.returns
returns c = nulls_of_window c.args.self.now c.nulls_between.result c.nulls_between.ensures
