use Rattle.std.proofs.Common.{◌≡◌, ℕ, ◌-◌, ◌*◌, length, take}
use Rattle.layout.specs.Lists.{rows}
use Rattle.layout.specs.Numbers.{wide, le_all}
use Rattle.recording.specs.Contents.{offset_in}
use Rattle.columns.proofs.offsets.write_offsets.Given as goal

-- the offsets so far are written
abbrev pub invariant-loop-i : goal.invariant-loop-i
invariant-loop-i g l =
    let w : ℕ = wide g.O.OffsetSizeTrait.WIDTH in
    record {
      long : length l.out ≡ length l.fn.out;
      done : take (l.i * w) l.out ≡ le_all w (rows l.i (λ k. offset_in l.fn.offsets w k - offset_in l.fn.offsets w 0));
    }
