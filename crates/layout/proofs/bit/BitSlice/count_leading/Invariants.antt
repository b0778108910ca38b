use Rattle.std.proofs.Common.{◌≡◌, ℕ, ◌-◌, ◌<◌, ◌≤◌}
use Rattle.layout.specs.BitSlices.{bit_in}
use Rattle.layout.proofs.bit.BitSlice.count_leading.Given as goal

-- those so far are so
abbrev pub invariant-loop-count : goal.invariant-loop-count
invariant-loop-count l =
    record {
      within : l.count ≤ l.self.len;
      alike : (i : ℕ) → i < l.count → bit_in l.self i ≡ l.bit;
    }

abbrev pub decreases-loop-count : goal.decreases-loop-count
decreases-loop-count l = l.self.len - l.count
