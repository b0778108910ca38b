use Rattle.std.proofs.Common.{◌+◌, ◌≤◌}
use Rattle.recording.specs.Places.{rows_at}
use Rattle.recording.specs.Trees.{places_left}
use Rattle.recording.proofs.Below.{first_has, rest_has}
use Rattle.recording.proofs.windows.WindowsIterator.next.Goals as goal

pub invariant_of-self : goal.invariant_of-self
invariant_of-self c =
    let s = c.args.self.now in
    record { has = rest_has (λ p. s.first + s.rows ≤ rows_at p) c.next.result (places_left s.nodes) (places_left c.next.new.self) c.next.ensures.steps s.has }

pub invariant_of-result : goal.invariant_of-result
invariant_of-result c =
    let s = c.args.self.now in
    record { inside = first_has (λ p. s.first + s.rows ≤ rows_at p) c.in_ok-node.node (places_left s.nodes) (places_left c.next.new.self) c.in_ok-node.ensures.steps s.has }
