use Rattle.recording.specs.Trees.{places_left}
use Rattle.recording.proofs.Children.{each_inside, each_passed, each_shown, each_smaller, each_after}
use Rattle.recording.proofs.window.Window.children.Goals as goal

pub invariant_of-result : goal.invariant_of-result
invariant_of-result c = record { has = each_inside c.args.self.now c.passed_rows-first.result.0 c.passed_rows-first.result.1 (places_left c.children.result) c.children.ensures.each c.passed_rows-first.ensures }

pub returns-clause-windows : goal.returns-clause-windows
returns-clause-windows c =
    each_passed c.args.self.now c.passed_rows-first.result.0 c.passed_rows-first.result.1 (places_left c.children.result) c.children.ensures.each c.children.ensures.nodes c.passed_rows-first.ensures

pub returns-clause-shown : goal.returns-clause-shown
returns-clause-shown c =
    each_shown c.args.self.now _
    (each_passed c.args.self.now c.passed_rows-first.result.0 c.passed_rows-first.result.1 (places_left c.children.result) c.children.ensures.each c.children.ensures.nodes c.passed_rows-first.ensures)

pub returns-clause-smaller : goal.returns-clause-smaller
returns-clause-smaller c = each_smaller c.args.self.now c.passed_rows-first.result.0 c.passed_rows-first.result.1 (places_left c.children.result) c.children.ensures.each

pub returns-clause-after : goal.returns-clause-after
returns-clause-after c = each_after c.args.self.now c.passed_rows-first.result.0 c.passed_rows-first.result.1 (places_left c.children.result) c.children.ensures.each
