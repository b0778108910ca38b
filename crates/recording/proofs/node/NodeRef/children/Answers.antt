use Rattle.std.proofs.Common.{ℕ, ◌+◌, All, sym, subst}
use Rattle.recording.specs.Places.{places_between, IsChildPlace}
use Rattle.recording.proofs.Below.{children_each}
use Rattle.recording.proofs.node.NodeRef.children.Goals as goal

pub returns-clause-each : goal.returns-clause-each
returns-clause-each c =
    let n = c.args.self.now in
    subst (λ (e : ℕ). All (IsChildPlace n) (places_between n.recording (n.index + 1) e)) (sym c.end.ensures.value) (children_each n)
