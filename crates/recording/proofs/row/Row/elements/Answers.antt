use Rattle.recording.proofs.WindowFacts.{list_child}
use Rattle.recording.proofs.row.Row.elements.Goals as goal

pub child-child-requires : goal.child-child-requires
child-child-requires c = list_child c.args.self.now.node c.requires.0 c.requires.1
