use Rattle.std.proofs.Common.{ℕ, List, length, ap, ◌∙◌}
use Rattle.std.proofs.Math.Facts.{to_z-of_z}
use Rattle.frames.specs.Frames.{signed_prefix}
use Rattle.frames.specs.Sinks.{piece_unless_empty}
use Rattle.frames.proofs.Sinks.{answer_along}
use Rattle.frames.proofs.frame.write_continuation.Goals as goal

pub returns-clause-answer : goal.returns-clause-answer
returns-clause-answer g c =
    let e = c.prefix_of.ensures ∙ ap signed_prefix (to_z-of_z c.ranges.metadata_len) in
    answer_along _ _ _ _ _ _ _ _ e (ap (λ (xs : List ℕ). piece_unless_empty (length xs)) e) c.write_slice.ensures.answer
