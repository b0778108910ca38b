-- How an opening ends, and what every opened recording keeps.
use Rattle.std.specs.Prelude.{◌≡◌, ℕ, ◌/◌, ◌%◌, ◌<◌, ◌≤◌, true, ◌⊎◌, ◌↔◌, List, length, Ok, Err, Result}
use Rattle.layout.specs.declared.fault.Fault.{Fault}
use Rattle.layout.specs.declared.fault.Refusal.{Refusal}
use Rattle.layout.specs.declared.fault.Refusal.TheVariants.{NodeBytes, TooLarge}
use Rattle.layout.specs.declared.node.Node.{Node}
use Rattle.layout.specs.Faults.{refusal_number, fault_of}
use Rattle.layout.specs.Nodes.{nodes_of}
use Rattle.layout.specs.Rules.{Rule}
use Rattle.layout.specs.Tests.{holds, sound}

-- ---- the whole

-- the node bytes are whole nodes
abbrev pub WholeNodes : List ℕ → Type 0
WholeNodes nb = length nb % 80 ≡ 0

-- not too many nodes, and not too many bytes
pub record NotTooLarge (nb bs : List ℕ) : Type 0 where
  pub nodes : length nb / 80 ≤ 65535
  pub bytes : length bs ≤ 4294967295

-- ---- the answer

-- no rule is broken
pub record Sound (nb bs : List ℕ) : Type 0 where
  pub whole : WholeNodes nb
  pub small : NotTooLarge nb bs
  pub rules : (i : ℕ) → i < length (nodes_of nb) → (r : Refusal) → Rule r (nodes_of nb) bs i

-- the fault names the first broken rule of the nodes: nodes in order, and at a node the smaller number first
pub record FirstBroken (nb bs : List ℕ) (f : Fault) : Type 0 where
  pub whole : WholeNodes nb
  pub small : NotTooLarge nb bs
  pub column : f.column ≡ 0
  pub stands : f.node < length (nodes_of nb)
  pub broken : Rule f.refusal (nodes_of nb) bs f.node → ⊥
  pub before : (i : ℕ) → i < f.node → (r : Refusal) → Rule r (nodes_of nb) bs i
  pub smaller : (r : Refusal) → refusal_number r < refusal_number f.refusal → Rule r (nodes_of nb) bs f.node

-- the two checks of the whole come first
abbrev pub Refused : List ℕ → List ℕ → Fault → Type 0
Refused nb bs f =
    ((f ≡ fault_of NodeBytes 0 0) × (WholeNodes nb → ⊥))
    ⊎ (((f ≡ fault_of TooLarge 0 0) × WholeNodes nb × (NotTooLarge nb bs → ⊥))
    ⊎ FirstBroken nb bs f)

abbrev pub Verdict : List ℕ → List ℕ → Result (Unit {0}) Fault → Type 0
Verdict nb bs (Ok _) = Sound nb bs
Verdict nb bs (Err f) = Refused nb bs f

-- the answer is the one that the rules give, and no other is: opened exactly if no rule is broken
pub record Answers (nb bs : List ℕ) (r : Result (Unit {0}) Fault) : Type 0 where
  pub verdict : Verdict nb bs r
  pub only : (s : Result (Unit {0}) Fault) → Verdict nb bs s → s ≡ r
  pub opened : (r ≡ Ok tt) ↔ Sound nb bs

-- ---- what every opened recording keeps

abbrev pub Kept : List Node → List ℕ → Type 0
Kept ns bs =
    (length ns ≤ 65535)
    × (length bs ≤ 4294967295)
    × ((i : ℕ) → i < length ns → sound ns bs i ≡ true)

-- ---- laws

-- a test is true exactly if its rule holds
abbrev pub Tested : Type 0
Tested = (r : Refusal) (ns : List Node) (bs : List ℕ) (i : ℕ) → (holds r ns bs i ≡ true) ↔ Rule r ns bs i

-- no input has two answers
abbrev pub OneVerdict : Type 0
OneVerdict = (nb bs : List ℕ) (r s : Result (Unit {0}) Fault) → Verdict nb bs r → Verdict nb bs s → r ≡ s
