use Rattle.recording.proofs.WindowFacts.{list_child, listed}
use Rattle.recording.proofs.Contents.{next_child}
use Rattle.recording.proofs.window.Window.elements.Goals as goal

pub child-requires : goal.child-requires
child-requires c = list_child c.args.self.now.node c.requires.0 c.requires.1

pub passed_to-requires : goal.passed_to-requires
passed_to-requires c =
    let n = c.args.self.now.node in
    let (w, has) = c.requires in
    next_child n c.child.result has.0 has.1 (listed n has.0 w has.2 has.3).1 c.child.ensures
