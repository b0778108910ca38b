-- The ends of the nodes that a walk stands below, the innermost last.
use Rattle.std.specs.Prelude.{◌≡◌, ℕ, ◌-◌, ◌<◌, ◌≤◌, List, length, take, slice_index}

-- the innermost ones that end at node i or before it are gone, and no more
pub record Leaves (i : ℕ) (old new : List ℕ) : Type 0 where
  pub fewer : length new ≤ length old
  pub same : new ≡ take (length new) old
  pub gone : (k : ℕ) → length new ≤ k → k < length old → slice_index old k ≤ i
  pub left : 0 < length new → i < slice_index new (length new - 1)
