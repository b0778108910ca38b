use Rattle.std.proofs.Common.{◌≡◌, ℕ, ◌<◌, ◌≤◌, List, length, take, get_or}
use Rattle.opening.proofs.ancestors.Ancestors.leave.Given as goal

-- those that are left stand where they stood, and those that are gone end at node i or before it
abbrev pub invariant-loop-i : goal.invariant-loop-i
invariant-loop-i l =
    let old : List ℕ = l.initial.self-inside.ends.items in
    let new : List ℕ = l.self-inside.ends.items in
    record {
      fewer : length new ≤ length old;
      same : new ≡ take (length new) old;
      gone : (k : ℕ) → length new ≤ k → k < length old → get_or old k 0 ≤ l.i;
    }

abbrev pub decreases-loop-i : goal.decreases-loop-i
decreases-loop-i l = length l.self-inside.ends.items
