use Rattle.std.proofs.Common.{arith}
use Rattle.layout.specs.declared.fault.Refusal.TheVariants.{KindOrSize}
use Rattle.recording.proofs.Reading.{rules_at}
use Rattle.recording.proofs.window.Window.part.Goals as goal

pub overflow_add-result : goal.overflow_add-result
overflow_add-result c =
    let w = c.args.self.now in
    record { fits = omega (arith, c.requires, w.inside, (rules_at w.node KindOrSize).rows) }
