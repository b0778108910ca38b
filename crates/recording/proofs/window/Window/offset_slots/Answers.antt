use Rattle.std.proofs.Common.{refl, arith}
use Rattle.recording.proofs.Contents.{offsets_at, offsets_cut, offsets_long}
use Rattle.recording.proofs.window.Window.offset_slots.Goals as goal

pub slot_place-start-requires : goal.slot_place-start-requires
slot_place-start-requires c =
    let t = offsets_at c.args.self.now c.node.result c.offsets.result c.bytes-width.result c.node.ensures.value c.offsets.ensures c.bytes-width.ensures in
    record { row = t.row; place = t.place }

pub overflow_add-end : goal.overflow_add-end
overflow_add-end c =
    let t = offsets_at c.args.self.now c.node.result c.offsets.result c.bytes-width.result c.node.ensures.value c.offsets.ensures c.bytes-width.ensures in
    omega (arith, t.few)

pub overflow_mul-end : goal.overflow_mul-end
overflow_mul-end c =
    let t = offsets_at c.args.self.now c.node.result c.offsets.result c.bytes-width.result c.node.ensures.value c.offsets.ensures c.bytes-width.ensures in
    omega (arith, t.within, t.small)

pub overflow_add-end-2 : goal.overflow_add-end-2
overflow_add-end-2 c =
    let t = offsets_at c.args.self.now c.node.result c.offsets.result c.bytes-width.result c.node.ensures.value c.offsets.ensures c.bytes-width.ensures in
    omega (arith, t.within, t.small, c.slot_place-start.ensures)

pub slice_bounds-result-end : goal.slice_bounds-result-end
slice_bounds-result-end c =
    let t = offsets_at c.args.self.now c.node.result c.offsets.result c.bytes-width.result c.node.ensures.value c.offsets.ensures c.bytes-width.ensures in
    omega (arith, t.within, c.slot_place-start.ensures)

pub returns-clause-value : goal.returns-clause-value
returns-clause-value c =
    offsets_cut c.args.self.now c.node.result c.offsets.result c.bytes-width.result c.node.ensures.value c.offsets.ensures c.bytes-width.ensures c.slot_place-start.result _ c.slot_place-start.ensures refl

pub returns-clause-long : goal.returns-clause-long
returns-clause-long c =
    offsets_long c.args.self.now c.node.result c.offsets.result c.bytes-width.result c.node.ensures.value c.offsets.ensures c.bytes-width.ensures c.slot_place-start.result _ c.slot_place-start.ensures refl
