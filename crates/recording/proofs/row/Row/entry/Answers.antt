use Rattle.layout.specs.declared.fault.Refusal.TheVariants.{Nesting}
use Rattle.layout.specs.declared.kind.Kind.TheVariants.{Dictionary}
use Rattle.layout.proofs.Facts.{child_stands}
use Rattle.recording.specs.NodeRefs.{table_of}
use Rattle.recording.proofs.Reading.{rules_at}
use Rattle.recording.proofs.row.Row.entry.Goals as goal

pub child-requires : goal.child-requires
child-requires c =
    let n = c.args.self.now.node in
    child_stands (table_of n) n.index (rules_at n Nesting) Dictionary c.requires.is (λ k h. h)
