use Rattle.std.proofs.Common.{[], arith}
use Rattle.laws.proofs.Places.{bits_made}
use Rattle.columns.proofs.Validity.{room_bytes}
use Rattle.columns.proofs.writer.IpcMessageWriter.write_bits.Goals as goal

pub bit_slice-buffer-requires : goal.bit_slice-buffer-requires
bit_slice-buffer-requires c =
    let s = c.args.bits.now in
    omega (arith, room_bytes [] _ c.args.self.now c.requires, (bits_made s.bytes.now s.first s.len).size)
