use Rattle.std.proofs.Common.{◌+◌, ◌-◌, ◌*◌, ◌/◌, ◌∙◌, refl, arith}
use Rattle.layout.specs.declared.bit.BitSlice.{BitSlice}
use Rattle.layout.specs.BitSlices.{bit_in}
use Rattle.layout.proofs.Bits.{counted, summed_le}
use Rattle.layout.proofs.Words.{zeros_among, part_zeros}
use Rattle.layout.proofs.bit.BitSlice.count_zeros.Goals as goal

pub count_zeros_by_bit-requires : goal.count_zeros_by_bit-requires
count_zeros_by_bit-requires c = omega (arith, summed_le c.part-before.result, c.part-before.ensures)

pub count_zeros_by_bit-requires-2 : goal.count_zeros_by_bit-requires-2
count_zeros_by_bit-requires-2 c = omega (arith, summed_le c.part-after.result, c.part-after.ensures)

pub overflow_add-result : goal.overflow_add-result
overflow_add-result c = omega (arith, summed_le c.part-before.result, c.count_zeros_by_bit.ensures, c.part-before.ensures)

pub overflow_add-result-2 : goal.overflow_add-result-2
overflow_add-result-2 c = omega (arith, summed_le c.part-before.result, summed_le c.part-after.result, c.count_zeros_by_bit.ensures, c.count_zeros_by_bit-2.ensures, c.part-before.ensures, c.part-after.ensures)

pub returns : goal.returns
returns c =
    let s = c.args.self.now in
    let p = c.among-parts.result in
    let from = (s.first + p.before) / 8 in
    let all =
    zeros_among s.bytes.now s.first s.len p.before p.bytes p.after from (from + p.bytes) (from + p.bytes - from)
    c.among-parts.ensures.before c.among-parts.ensures.bytes c.among-parts.ensures.all refl refl refl (omega arith) in
    let ones = λ (b : BitSlice). counted b.len 0 (bit_in b) in
    let before = part_zeros s c.part-before.result 0 p.before c.count_zeros_by_bit.result c.part-before.ensures (c.count_zeros_by_bit.ensures ∙ ones c.part-before.result) in
    let after = part_zeros s c.part-after.result (p.before + 8 * p.bytes) p.after c.count_zeros_by_bit-2.result c.part-after.ensures (c.count_zeros_by_bit-2.ensures ∙ ones c.part-after.result) in
    omega (arith, c.count_zeros_in_bytes.ensures.count)
