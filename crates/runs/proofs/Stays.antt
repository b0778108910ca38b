-- What a refusal leaves.
use Rattle.std.proofs.Common.{◌≡◌, refl, subst}
use Rattle.layout.specs.declared.fault.Fault.{Fault}
use Rattle.runs.specs.Calls.{Call, Setting}
use Rattle.runs.specs.Calls.Answer.{refused}
use Rattle.runs.specs.Looks.{Recorded}
use Rattle.runs.specs.Turns.{State, Turn, turn}
use Rattle.runs.specs.Laws.{Stays}
use Rattle.runs.proofs.Went.{Bare, Went, went}
use Rattle.runs.proofs.Went.Went.{stays, numbers, clears, ends, goes}

module _ (e : Setting) (r : Recorded) where
  stays_went : {s : State} {c : Call} {t : Turn} (f : Fault) → Went e r s c t → t.answer ≡ refused f → Stays f s t
  stays_went {s} f (stays w g b) q =
      let same : g ≡ f = cc in
      let here = subst (λ x. Bare x w) same b in
      record { next = refl; frames = refl; pieces = refl; written = here.written; headers = here.headers; updates = here.updates; lengths = here.lengths }
  stays_went f (numbers h) q = cc
  stays_went f clears q = cc
  stays_went f (ends h) q = cc
  stays_went f (goes first columns rows lent ss later us l k g) q = cc

pub refusal_stays : (e : Setting) (r : Recorded) (c : Call) (s : State) (f : Fault) → (turn e r c s).answer ≡ refused f → Stays f s (turn e r c s)
refusal_stays e r c s f q = stays_went e r f (went e r s c) q
