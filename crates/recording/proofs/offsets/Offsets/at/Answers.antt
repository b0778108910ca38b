use Rattle.std.proofs.Common.{ℕ, ap, ◌∙◌, arith}
use Rattle.layout.specs.Numbers.{unsigned_at}
use Rattle.recording.specs.NodeRefs.{run_of}
use Rattle.recording.proofs.Reading.{offset_there, offset_read}
use Rattle.recording.proofs.offsets.Offsets.at.Goals as goal

pub slot_place-place-requires : goal.slot_place-place-requires
slot_place-place-requires c =
    let t = offset_there c.args.self.now c.node.result c.node.ensures.value c.args.r c.requires.row in
    record { row = t.row; place = rw c.bytes.ensures t.place }

pub number_at-requires : goal.number_at-requires
number_at-requires c =
    let t = offset_there c.args.self.now c.node.result c.node.ensures.value c.args.r c.requires.row in
    let place = rw c.bytes.ensures at c.slot_place-place.ensures in
    omega (arith, t.ends, place)

pub returns : goal.returns
returns c =
    let o = c.args.self.now in
    let place = rw c.bytes.ensures at c.slot_place-place.ensures in
    offset_read o c.node.result c.node.ensures.value c.args.r c.number_at.result c.requires.row c.requires.some
    (c.number_at.ensures ∙ ap (λ (p : ℕ). unsigned_at (run_of o.node) p o.width) place)
