use Rattle.std.proofs.Common.{◌≡◌, Ok, Err, Result, MatchResult, sym, subst, rules}
use Rattle.layout.specs.declared.fault.Fault.{Fault}
use Rattle.layout.specs.Opening.{Answers}
use Rattle.layout.proofs.Opening.{sound_kept, answers}
use Rattle.recording.specs.declared.recording.Recording.{Recording}
use Rattle.recording.specs.View.{bytes_in}
use Rattle.recording.proofs.recording.Recording.try_new.Goals as goal

pub invariant_of-result : goal.invariant_of-result
invariant_of-result c = record { opened = sound_kept c.args.nodes.now c.args.bytes.now c.in_ok-judge.ensures }

pub returns-in_err-judge : goal.returns-in_err-judge
returns-in_err-judge c =
    let nb = c.args.nodes.now in
    let bs = c.args.bytes.now in
    let e : c.from_residual.result ≡ Err c.in_err-judge.field-0.0 = search rules in
    subst (λ (r : Result Recording Fault). MatchResult r (λ r. Answers nb bs (Ok tt) × (r.nodes.now ≡ nb) × (bytes_in r ≡ bs)) (λ f. Answers nb bs (Err f))) (sym e)
    (answers nb bs (Err c.in_err-judge.field-0.0) c.in_err-judge.ensures)
