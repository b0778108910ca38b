use Rattle.std.proofs.Common.{◌∙◌, ap, sym, inl}
use Rattle.recording.specs.View.{bytes_in}
use Rattle.timing.proofs.plan.timing_plan.Goals as goal

pub returns-in-Ok : goal.returns-in-Ok
returns-in-Ok c e = inl (c.in-Ok.columns, c.in-Ok.ensures, c.copy_plan.ensures (e ∙ ap bytes_in (sym c.in-Ok.ensures.1)))
