use Rattle.std.proofs.Common.{◌≡◌, ◌+◌, ◌⊎◌, arith}
use Rattle.layout.specs.declared.kind.Kind.TheVariants.{Fixed, Dictionary}
use Rattle.layout.specs.declared.node.Node.{Node}
use Rattle.layout.specs.Rules.{Is}
use Rattle.recording.specs.declared.window.Window.{Window}
use Rattle.recording.specs.NodeRefs.{numbers_of}
use Rattle.recording.proofs.Contents.{SlotsAt, slots_at, slots_cut}
use Rattle.recording.proofs.window.Window.slots.Goals as goal

first_at : (w : Window) (m : Node) → m ≡ numbers_of w.node → Is (numbers_of w.node) Fixed ⊎ Is (numbers_of w.node) Dictionary → SlotsAt w.node m w.first
first_at w m same is = slots_at w.node m same is w.first (omega (arith, w.inside))

end_at : (w : Window) (m : Node) → m ≡ numbers_of w.node → Is (numbers_of w.node) Fixed ⊎ Is (numbers_of w.node) Dictionary → SlotsAt w.node m (w.first + w.rows)
end_at w m same is = slots_at w.node m same is (w.first + w.rows) w.inside

pub slot_place-start-requires : goal.slot_place-start-requires
slot_place-start-requires c =
    let t = first_at c.args.self.now c.node-node.result c.node-node.ensures.value c.requires in
    record { row = t.row; place = t.place }

pub slot_place-end-requires : goal.slot_place-end-requires
slot_place-end-requires c =
    let t = end_at c.args.self.now c.node-node.result c.node-node.ensures.value c.requires in
    record { row = t.row; place = t.place }

pub slice_bounds-result-end : goal.slice_bounds-result-end
slice_bounds-result-end c =
    let t = end_at c.args.self.now c.node-node.result c.node-node.ensures.value c.requires in
    let e = slots_cut c.args.self.now c.node-node.result c.slot_place-start.result c.slot_place-end.result c.node-node.ensures.value c.slot_place-start.ensures c.slot_place-end.ensures in
    omega (arith, t.within, e.0)

pub returns : goal.returns
returns c =
    let e = slots_cut c.args.self.now c.node-node.result c.slot_place-start.result c.slot_place-end.result c.node-node.ensures.value c.slot_place-start.ensures c.slot_place-end.ensures in
    e.1
