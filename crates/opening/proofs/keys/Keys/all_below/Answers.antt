use Rattle.std.proofs.Common.{arith}
use Rattle.std.proofs.lemmas.Grind.{common_steps}
use Rattle.opening.specs.KeyScans.{marked_below}
use Rattle.opening.proofs.Flagged.{joined}
use Rattle.opening.proofs.keys.Keys.all_below.Goals as goal

pub returns-then-byte_by_byte : goal.returns-then-byte_by_byte
returns-then-byte_by_byte c =
    let p = c.among-parts.result in
    let all = joined (marked_below c.args.self.now) p.before p.bytes p.after c.args.self.now.marks.len c.among-parts.ensures.all in
    grind (arith, common_steps)

pub returns-else-byte_by_byte : goal.returns-else-byte_by_byte
returns-else-byte_by_byte c =
    let p = c.among-parts.result in
    let all = joined (marked_below c.args.self.now) p.before p.bytes p.after c.args.self.now.marks.len c.among-parts.ensures.all in
    grind (arith, common_steps)
