use Rattle.layout.specs.declared.fault.Refusal.TheVariants.{Nesting}
use Rattle.layout.specs.declared.kind.Kind.TheVariants.{Dictionary}
use Rattle.layout.proofs.Facts.{child_stands}
use Rattle.recording.specs.NodeRefs.{table_of}
use Rattle.recording.proofs.Reading.{rules_at}
use Rattle.recording.proofs.Contents.{next_child}
use Rattle.recording.proofs.window.Window.values.Goals as goal

pub child-requires : goal.child-requires
child-requires c =
    let n = c.args.self.now.node in
    child_stands (table_of n) n.index (rules_at n Nesting) Dictionary c.requires (λ k h. h)

pub passed_to-requires : goal.passed_to-requires
passed_to-requires c = next_child c.args.self.now.node c.child.result Dictionary c.requires (λ m h. h) c.child.ensures
