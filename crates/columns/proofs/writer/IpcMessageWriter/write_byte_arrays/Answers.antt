use Rattle.std.proofs.Common.{[], ◌∷◌, arith}
use Rattle.layout.specs.Numbers.{wide}
use Rattle.columns.specs.Buffers.{offsets_of, strings_of}
use Rattle.columns.proofs.Sending.{room_first}
use Rattle.columns.proofs.SentOffsets.{length-offsets}
use Rattle.columns.proofs.Validity.{room_bytes}
use Rattle.columns.proofs.writer.IpcMessageWriter.write_byte_arrays.Goals as goal

pub get_byte_array_buffers-requires-clause-room : goal.get_byte_array_buffers-requires-clause-room
get_byte_array_buffers-requires-clause-room g c =
    let v = c.args.window.now in
    let w = wide g.O.OffsetSizeTrait.WIDTH in
    let first = room_first [] [] (offsets_of w v ∷ []) (strings_of w v ∷ []) c.args.self.now c.requires.room in
    omega (arith, room_bytes [] _ c.args.self.now first, length-offsets v g.O.OffsetSizeTrait.WIDTH)
