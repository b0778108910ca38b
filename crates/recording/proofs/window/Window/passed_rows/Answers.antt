use Rattle.std.proofs.Common.{rules}
use Rattle.layout.specs.declared.fault.Refusal.TheVariants.{Nesting}
use Rattle.layout.specs.declared.kind.Kind.TheVariants.{Dictionary}
use Rattle.layout.proofs.Facts.{child_stands}
use Rattle.recording.specs.NodeRefs.{table_of}
use Rattle.recording.proofs.Reading.{rules_at}
use Rattle.recording.proofs.WindowFacts.{elements_passed, values_passed}
use Rattle.recording.proofs.window.Window.passed_rows.Goals as goal

pub child-requires : goal.child-requires
child-requires c =
    let n = c.args.self.now.node in
    child_stands (table_of n) n.index (rules_at n Nesting) Dictionary (search rules) (λ k h. h)

pub returns-in-List32 : goal.returns-in-List32
returns-in-List32 c = elements_passed c.args.self.now c.contents.result.0 c.contents.result.1 c.kind.result c.kind.ensures (search rules) c.contents.ensures

pub returns-in-Dictionary : goal.returns-in-Dictionary
returns-in-Dictionary c = values_passed c.args.self.now c.child.result c.node.result (search rules) c.child.ensures c.node.ensures.value
