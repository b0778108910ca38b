use Rattle.std.proofs.Common.{length, ap, ◌∙◌}
use Rattle.std.proofs.lemmas.List.{length-replicate}
use Rattle.frames.specs.Sinks.{piece_unless_empty}
use Rattle.frames.proofs.Sinks.{answer_along}
use Rattle.frames.proofs.frame.write_padding.Goals as goal

pub returns-clause-answer : goal.returns-clause-answer
returns-clause-answer g c =
    let e = c.zeroed.ensures in
    let l = ap length e ∙ length-replicate c.args.len 0 in
    answer_along _ _ _ _ _ _ _ _ e (ap piece_unless_empty l) c.write_slice.ensures.answer
