use Rattle.std.proofs.Common.{◌∙◌, ap, arith, add_assoc}
use Rattle.std.proofs.lemmas.Grind.{common_steps}
use Rattle.layout.specs.Numbers.{wide}
use Rattle.layout.specs.Tests.{rises_to}
use Rattle.layout.proofs.Scans.{no_rows}
use Rattle.opening.proofs.Sliced.{offsets_tell}
use Rattle.opening.proofs.Subjects.{offsets_within}
use Rattle.opening.proofs.placed.Placed.offsets_rise.Goals as goal

pub numbers-offsets-requires : goal.numbers-offsets-requires
numbers-offsets-requires c = rw add_assoc at (offsets_within c.args.self.now c.args.width c.requires)

pub returns-then-rows-eq0 : goal.returns-then-rows-eq0
returns-then-rows-eq0 c =
    let s = c.args.self.now.subject in
    no_rows s.bytes.now (wide c.args.width) s.node _ c.if-rows-eq0.true

pub returns-then-last-most : goal.returns-then-last-most
returns-then-last-most c =
    let s = c.args.self.now.subject in
    let n = c.numbers-offsets.ensures in
    let w = wide c.args.width in
    let told = offsets_tell c.numbers-offsets.result s.bytes.now w s.node (rw n.count n.at) c.reach-most.result c.half.result c.half.ensures
    (offsets_within c.args.self.now c.args.width c.requires) n.count
    ∙ ap (rises_to s.bytes.now w s.node) c.reach-most.ensures in
    grind (arith, common_steps)

pub returns-else-last-most : goal.returns-else-last-most
returns-else-last-most c =
    let s = c.args.self.now.subject in
    let n = c.numbers-offsets.ensures in
    let w = wide c.args.width in
    let told = offsets_tell c.numbers-offsets.result s.bytes.now w s.node (rw n.count n.at) c.reach-most.result c.half.result c.half.ensures
    (offsets_within c.args.self.now c.args.width c.requires) n.count
    ∙ ap (rises_to s.bytes.now w s.node) c.reach-most.ensures in
    grind (arith, common_steps)
