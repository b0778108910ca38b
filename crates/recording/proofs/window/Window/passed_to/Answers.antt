use Rattle.recording.specs.Places.{place_of}
use Rattle.recording.proofs.WindowFacts.{place_inside, is_passed}
use Rattle.recording.proofs.Children.{place_smaller}
use Rattle.recording.proofs.window.Window.passed_to.Goals as goal

pub invariant_of-result : goal.invariant_of-result
invariant_of-result c = record { inside = place_inside c.args.self.now (place_of c.args.child) c.passed_rows-first.result.0 c.passed_rows-first.result.1 c.requires c.passed_rows-first.ensures }

pub returns-clause-rows : goal.returns-clause-rows
returns-clause-rows c = is_passed c.args.self.now (place_of c.args.child) c.passed_rows-first.result.0 c.passed_rows-first.result.1 c.requires c.passed_rows-first.ensures

pub returns-clause-smaller : goal.returns-clause-smaller
returns-clause-smaller c = place_smaller c.args.self.now c.passed_rows-first.result.0 c.passed_rows-first.result.1 (place_of c.args.child) c.requires
