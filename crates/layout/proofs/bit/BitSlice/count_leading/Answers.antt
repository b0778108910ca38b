use Rattle.std.proofs.Common.{arith, ap, ◌∙◌, sym}
use Rattle.std.specs.Bool.{beq}
use Rattle.layout.proofs.Leading.{bits_leading, alike_more}
use Rattle.layout.proofs.bit.BitSlice.count_leading.Goals as goal

pub loop-count-preserved : goal.loop-count-preserved
loop-count-preserved c =
    record {
      within = c.count_leading_in_byte-count.ensures.most;
      alike = alike_more c.args.self.now c.args.bit c.loop-count.count c.count_leading_in_byte-count.result c.loop-count.invariant.alike c.count_leading_in_byte-count.ensures.alike;
    }

pub returns-else-is_set-bit : goal.returns-else-is_set-bit
returns-else-is_set-bit c =
    bits_leading c.args.self.now c.args.bit c.loop-count.count c.loop-count.invariant.within c.loop-count.invariant.alike
    (λ h. ap (λ b. beq b c.args.bit) (sym c.is_set.ensures) ∙ c.if-is_set-bit.false)

pub returns-after-loop-count : goal.returns-after-loop-count
returns-after-loop-count c =
    bits_leading c.args.self.now c.args.bit c.loop-count.count c.loop-count.invariant.within c.loop-count.invariant.alike (λ h. absurd (omega arith))
