use Rattle.std.proofs.Common.{arith}
use Rattle.recording.proofs.Reading.{slot_there, slot_ends}
use Rattle.recording.proofs.row.Row.slot.Goals as goal

pub slot_place-start-requires : goal.slot_place-start-requires
slot_place-start-requires c =
    let t = slot_there c.args.self.now c.node-node.result c.node-node.ensures.value c.requires in
    record { row = t.row; place = t.place }

pub overflow_add-end : goal.overflow_add-end
overflow_add-end c =
    omega (arith, slot_ends c.args.self.now c.node-node.result c.node-node.ensures.value c.requires c.slot_place-start.result c.slot_place-start.ensures, c.args.self.now.node.recording.opened.1)

pub slice_bounds-result-end : goal.slice_bounds-result-end
slice_bounds-result-end c =
    omega (arith, slot_ends c.args.self.now c.node-node.result c.node-node.ensures.value c.requires c.slot_place-start.result c.slot_place-start.ensures)
