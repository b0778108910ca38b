-- The number that tells an opening's answer.
use Rattle.std.specs.Prelude.{◌≡◌, ℕ, List, Ok, Err, Result}
use Rattle.layout.specs.declared.fault.Fault.{Fault}
use Rattle.layout.specs.Faults.{refusal_number}
use Rattle.layout.specs.Opening.{Verdict}

-- 0 for an opened recording, else the refusal's
abbrev pub number_in : Result (Unit {0}) Fault → ℕ
number_in (Ok _) = 0
number_in (Err f) = refusal_number f.refusal

-- the number of the answer that the rules give
pub record Told (nb bs : List ℕ) (n : ℕ) : Type 0 where
  pub answer : Result (Unit {0}) Fault
  pub verdict : Verdict nb bs answer
  pub number : n ≡ number_in answer
