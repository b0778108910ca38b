use Rattle.std.proofs.Common.{ap, subst, ◌∙◌, ℕ}
use Rattle.std.specs.Prelude.{nat_lt}
use Rattle.recording.specs.Contents.{TellValid}
use Rattle.recording.proofs.Contents.{nulls_marked}
use Rattle.recording.proofs.window.Window.has_nulls.Goals as goal

pub returns-in-Some : goal.returns-in-Some
returns-in-Some c =
    let v = c.args.self.now in
    c.has_zeros.ensures ∙ ap (λ (n : ℕ). nat_lt 0 n) (nulls_marked v c.in-Some.marks (subst (TellValid v) c.in-Some.is c.marks.ensures))
