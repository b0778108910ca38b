use Rattle.std.proofs.Common.{length, ap, arith, rules}
use Rattle.recording.proofs.SideBySide.{places_none, trees_step}
use Rattle.recording.proofs.trees.TreesIterator.next.Goals as goal

pub returns-then-self-clause-steps : goal.returns-then-self-clause-steps
returns-then-self-clause-steps c =
    let t = c.args.self.now in
    let none = places_none t.recording t.next t.end (omega arith) in
    (none, none)

pub returns-clause-steps : goal.returns-clause-steps
returns-clause-steps c = trees_step c.args.self.now c.at-node.result c.end-self.result (omega arith) c.at-node.ensures c.end-self.ensures.value

pub returns-clause-goes : goal.returns-clause-goes
returns-clause-goes c =
    let shorter = ap length (trees_step c.args.self.now c.at-node.result c.end-self.result (omega arith) c.at-node.ensures c.end-self.ensures.value) in
    search rules
