use Rattle.std.proofs.Common.{◌∙◌, ap, refl, arith}
use Rattle.recording.specs.NodeRefs.{numbers_of}
use Rattle.columns.specs.Buffers.{slots_in}
use Rattle.columns.proofs.Sending.{sends_lies, room_lies}
use Rattle.columns.proofs.Validity.{first_slot, slots_lie}
use Rattle.columns.proofs.writer.IpcMessageWriter.write_slots.Goals as goal

pub overflow_add-start : goal.overflow_add-start
overflow_add-start c =
    let at = first_slot c.args.window.now c.requires.kind c.node-node.result c.first.result (c.node-node.ensures.value ∙ ap numbers_of c.node.ensures) c.first.ensures in
    record { fits = omega (arith, at.row) }

pub overflow_mul-start : goal.overflow_mul-start
overflow_mul-start c =
    let at = first_slot c.args.window.now c.requires.kind c.node-node.result c.first.result (c.node-node.ensures.value ∙ ap numbers_of c.node.ensures) c.first.ensures in
    record { fits = omega (arith, at.place) }

pub overflow_add-start-2 : goal.overflow_add-start-2
overflow_add-start-2 c =
    let at = first_slot c.args.window.now c.requires.kind c.node-node.result c.first.result (c.node-node.ensures.value ∙ ap numbers_of c.node.ensures) c.first.ensures in
    record { fits = omega (arith, at.place) }

pub encode_sink_buffer-requires : goal.encode_sink_buffer-requires
encode_sink_buffer-requires c =
    let v = c.args.window.now in
    let same = c.node-node.ensures.value ∙ ap numbers_of c.node.ensures in
    let lies = slots_lie v c.requires.kind c.node-node.result c.first.result _ c.slots.result.now same c.first.ensures c.slots.ensures refl in
    room_lies c.args.self.now _ (slots_in v) lies c.requires.room

pub returns : goal.returns
returns c =
    let v = c.args.window.now in
    let same = c.node-node.ensures.value ∙ ap numbers_of c.node.ensures in
    let lies = slots_lie v c.requires.kind c.node-node.result c.first.result _ c.slots.result.now same c.first.ensures c.slots.ensures refl in
    sends_lies c.args.self.now _ _ (slots_in v) lies c.encode_sink_buffer.ensures
