use Rattle.std.proofs.Common.{sym, refl, ◌∙◌, arith}
use Rattle.laws.proofs.Places.{bits_made}
use Rattle.columns.proofs.MadeBuffers.{makes_part}
use Rattle.columns.proofs.buffer.bit_slice.Goals as goal

pub returns : goal.returns
returns c =
    let s = c.args.bits.now in
    let long = (bits_made s.bytes.now s.first s.len).size in
    makes_part c.args.at c.args.work.now _ _ _ c.write_bits.new.out _ c.write_bits.ensures (omega (arith, long, c.bytes_for-len.ensures)) (omega (arith, long, c.requires)) refl refl (c.bytes_for-len.ensures ∙ sym long)
