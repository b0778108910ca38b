use Rattle.std.proofs.Common.{[], arith}
use Rattle.columns.proofs.SentOffsets.{length-offsets}
use Rattle.columns.proofs.Validity.{room_bytes}
use Rattle.columns.proofs.writer.IpcMessageWriter.write_list_offsets.Goals as goal

pub get_list_array_buffers-requires-clause-room : goal.get_list_array_buffers-requires-clause-room
get_list_array_buffers-requires-clause-room g c =
    omega (arith, room_bytes [] _ c.args.self.now c.requires.room, length-offsets c.args.window.now g.O.OffsetSizeTrait.WIDTH)
