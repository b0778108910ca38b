use Rattle.std.proofs.Common.{ℕ, ap, ◌∙◌, is_some, sym, arith}
use Rattle.std.specs.Prelude.{is_ok}
use Rattle.layout.proofs.Facts.{found, answered}
use Rattle.layout.specs.Numbers.{unle, width_of}
use Rattle.recording.proofs.Reading.{key_width_some, key_wide, read_whole, key_below}
use Rattle.recording.proofs.row.Row.key.Goals as goal

pub unwrap-width-requires : goal.unwrap-width-requires
unwrap-width-requires c = ap is_ok c.try_from.ensures ∙ answered _ _ (ap (λ (n : ℕ). is_some (width_of n)) c.slot-slot.ensures.len ∙ key_width_some c.args.self.now c.requires)

pub returns : goal.returns
returns c =
    let wide = key_wide c.args.self.now c.requires c.slot-slot.result.now c.unwrap-width.result c.slot-slot.ensures.len (found _ _ c.unwrap-width.result (sym c.try_from.ensures ∙ c.unwrap-width.ensures)) in
    let value = c.read.ensures ∙ read_whole c.slot-slot.result.now c.unwrap-width.result wide ∙ ap unle c.slot-slot.ensures.value in
    record { value = value; bound = λ valid. omega (arith, value, key_below c.args.self.now c.requires valid) }
