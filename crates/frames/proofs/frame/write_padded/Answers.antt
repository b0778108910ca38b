use Rattle.frames.proofs.Sinks.{both_taken, must_take}
use Rattle.frames.proofs.frame.write_padded.Goals as goal

pub returns-clause-taken : goal.returns-clause-taken
returns-clause-taken g c =
    (both_taken _ _ _ _ _ _ tt _ _ _ _ c.requires.room c.write_slice.ensures.answer (λ room. must_take _ _ _ _ _ _ room c.write_padding.ensures.answer)).1
