use Rattle.std.proofs.Common.{sym, refl, ◌∙◌, arith}
use Rattle.columns.proofs.MadeBuffers.{makes_part}
use Rattle.columns.proofs.SentOffsets.{offsets_rise, offsets_made, length-offsets}
use Rattle.columns.proofs.offsets.reencode_offsets.Goals as goal

pub write_offsets-requires-clause-rise : goal.write_offsets-requires-clause-rise
write_offsets-requires-clause-rise g c =
    offsets_rise c.args.window.now c.offset_slots-offsets.result.now g.O.OffsetSizeTrait.WIDTH c.requires.width c.offset_slots-offsets.ensures.value c.rows.result c.rows.ensures

pub returns-clause-offsets : goal.returns-clause-offsets
returns-clause-offsets g c =
    let w = g.O.OffsetSizeTrait.WIDTH in
    let v = c.args.window.now in
    let made = c.write_offsets.ensures ∙ offsets_made v c.offset_slots-offsets.result.now w c.requires.width c.offset_slots-offsets.ensures.value c.rows.result c.rows.ensures in
    let slots = c.offset_slots-offsets.ensures.long w c.requires.width in
    let long = length-offsets v w in
    makes_part c.args.at c.args.work.now _ _ _ c.write_offsets.new.out _ made (omega (arith, slots, long)) (omega (arith, long, c.requires.room)) refl refl (slots ∙ sym long)
