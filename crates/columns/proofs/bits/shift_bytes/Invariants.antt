use Rattle.std.proofs.Common.{◌≡◌, ◌/◌, ◌%◌, ◌^◌, length, take}
use Rattle.layout.specs.Lists.{rows}
use Rattle.columns.specs.Bits.{two_bytes}
use Rattle.columns.proofs.bits.shift_bytes.Given as goal

-- the bytes so far are written
abbrev pub invariant-loop-i : goal.invariant-loop-i
invariant-loop-i l =
    record {
      long : length l.out ≡ length l.fn.out;
      done : take l.i l.out ≡ rows l.i (λ k. two_bytes l.fn.bytes k / 2 ^ l.shift % 256);
    }
