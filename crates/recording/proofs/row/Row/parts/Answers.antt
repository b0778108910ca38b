use Rattle.std.proofs.Common.{◌<◌, All, sym, subst}
use Rattle.recording.specs.Places.{rows_at}
use Rattle.recording.proofs.Below.{children_have}
use Rattle.recording.proofs.row.Row.parts.Goals as goal

pub invariant_of-result : goal.invariant_of-result
invariant_of-result c =
    let r = c.args.self.now in
    record { has = subst (All (λ p. r.index < rows_at p)) (sym c.children.ensures.nodes) (children_have r c.requires) }
