use Rattle.std.proofs.Common.{◌≡◌, ◌-◌, ◌≤◌}
use Rattle.layout.specs.Bits.{zeros}
use Rattle.layout.specs.BitSlices.{bit_in}
use Rattle.layout.specs.Lists.{rows}
use Rattle.recording.proofs.window.has_zeros.Given as goal

-- none of those so far is 0
abbrev pub invariant-loop-from : goal.invariant-loop-from
invariant-loop-from l =
    record {
      within : l.from ≤ l.bits.len;
      none : zeros (rows l.from (bit_in l.bits)) ≡ 0;
    }

abbrev pub decreases-loop-from : goal.decreases-loop-from
decreases-loop-from l = l.bits.len - l.from
