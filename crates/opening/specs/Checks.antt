-- What the checks of one node answer.
use Rattle.std.specs.Prelude.{◌≡◌, ℕ, ◌<◌, true, false, List, Ok, Err, Result}
use Rattle.layout.specs.declared.fault.Refusal.{Refusal}
use Rattle.layout.specs.declared.node.Node.{Node}
use Rattle.layout.specs.Faults.{refusal_number}
use Rattle.layout.specs.Nodes.{end_of}
use Rattle.layout.specs.Tests.{holds}

-- every rule holds at node i
abbrev pub AllHold : List Node → List ℕ → ℕ → Type 0
AllHold ns bs i = (r : Refusal) → holds r ns bs i ≡ true

-- the rule of smallest number that node i breaks
pub record Breaks (ns : List Node) (bs : List ℕ) (i : ℕ) (q : Refusal) : Type 0 where
  pub here : holds q ns bs i ≡ false
  pub smaller : (r : Refusal) → refusal_number r < refusal_number q → holds r ns bs i ≡ true

-- every rule holds and this is where the node ends, or a rule is broken
abbrev pub NodeVerdict : List Node → List ℕ → ℕ → Result ℕ Refusal → Type 0
NodeVerdict ns bs i (Ok end) = AllHold ns bs i × (end ≡ end_of ns i)
NodeVerdict ns bs i (Err q) = Breaks ns bs i q
