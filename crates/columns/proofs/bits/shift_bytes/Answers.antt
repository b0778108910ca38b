use Rattle.std.proofs.Common.{ℕ, ◌/◌, ◌%◌, ◌^◌, ◌∙◌, ap, arith}
use Rattle.std.proofs.lemmas.List.{length-set}
use Rattle.columns.specs.Bits.{two_bytes}
use Rattle.columns.proofs.SentBits.{row_written}
use Rattle.columns.proofs.bits.shift_bytes.Goals as goal

pub loop-i-preserved : goal.loop-i-preserved
loop-i-preserved c =
    let i = c.loop-i.i in
    record {
      long = length-set c.loop-i.out i _ ∙ c.loop-i.invariant.long;
      done =
          row_written c.loop-i.out i (λ k. two_bytes c.args.bytes.now k / 2 ^ c.args.shift % 256) _ c.loop-i.invariant.done (omega (arith, c.loop-i.invariant.long))
          (ap (λ (x : ℕ). x / 2 ^ c.args.shift % 256) c.from_le_bytes.ensures);
    }
