use Rattle.std.proofs.Common.{ℕ, ◌+◌, not, ◌||◌, ltb, drop, ap, ◌∙◌}
use Rattle.layout.specs.declared.node.Node.{Node}
use Rattle.layout.specs.declared.number.Width.{Width}
use Rattle.layout.specs.Bits.{bit_at}
use Rattle.layout.specs.Lists.{every}
use Rattle.layout.specs.Numbers.{wide, unle}
use Rattle.layout.specs.Rows.{slot_at}
use Rattle.layout.specs.Tests.{keyed_below}
use Rattle.layout.proofs.Scans.{keys_unmarked, keys_marked}
use Rattle.opening.proofs.Sliced.{below_is, marked_is}
use Rattle.opening.proofs.Subjects.{values_stand, width_is, keys_within, marks_within}
use Rattle.opening.proofs.placed.Placed.keys_name_rows.Goals as goal

pub child-rows-requires : goal.child-rows-requires
child-rows-requires c = values_stand c.args.self.now c.requires

pub numbers-slots-requires : goal.numbers-slots-requires
numbers-slots-requires c =
    let w = c.unwrap-width.result in
    keys_within c.args.self.now c.requires w (width_is c.args.self.now c.requires c.try_from.result w c.try_from.ensures c.unwrap-width.ensures)

pub bits-marks-requires-clause-within : goal.bits-marks-requires-clause-within
bits-marks-requires-clause-within c = marks_within c.args.self.now c.requires c.in-Some.place c.in-Some.ensures

pub returns-in-None : goal.returns-in-None
returns-in-None c =
    let s = c.args.self.now.subject in
    let w : Width = c.unwrap-width.result in
    let size = width_is c.args.self.now c.requires c.try_from.result w c.try_from.ensures c.unwrap-width.ensures in
    let n = c.numbers-slots.ensures in
    c.all_below.ensures
    ∙ below_is c.numbers-slots.result s.bytes.now (wide w) s.node (rw n.count n.at) s.node.rows c.min-bound.result n.count
    ∙ ap (λ (b : ℕ). every s.node.rows (λ r. ltb (unle (slot_at s.bytes.now (wide w) s.node r)) b)) c.min-bound.ensures
    ∙ keys_unmarked s.bytes.now s.node (wide w) c.half.result c.child-rows.result.rows c.half.ensures size (keys_within c.args.self.now c.requires w size) c.in-None.ensures
    ∙ ap (λ (n : Node). keyed_below s.bytes.now s.node n.rows) c.child-rows.ensures

pub returns-in-Some : goal.returns-in-Some
returns-in-Some c =
    let s = c.args.self.now.subject in
    let w : Width = c.unwrap-width.result in
    let size = width_is c.args.self.now c.requires c.try_from.result w c.try_from.ensures c.unwrap-width.ensures in
    let n = c.numbers-slots.ensures in
    c.all_below-in-Some.ensures
    ∙ marked_is c.numbers-slots.result s.bytes.now (wide w) s.node (rw n.count n.at) c.bits-marks.result c.min-bound.result c.in-Some.place n.count c.bits-marks.ensures
    ∙ ap (λ (b : ℕ). every s.node.rows (λ r. not (bit_at (drop c.in-Some.place s.bytes.now) (s.node.from + r)) || ltb (unle (slot_at s.bytes.now (wide w) s.node r)) b)) c.min-bound.ensures
    ∙ keys_marked s.bytes.now s.node (wide w) c.half.result c.child-rows.result.rows c.half.ensures size (keys_within c.args.self.now c.requires w size) c.in-Some.place c.in-Some.ensures
    ∙ ap (λ (n : Node). keyed_below s.bytes.now s.node n.rows) c.child-rows.ensures
