use Rattle.std.proofs.Common.{ap, ◌∙◌, arith}
use Rattle.layout.specs.declared.node.Node.{Node}
use Rattle.recording.specs.NodeRefs.{numbers_of}
use Rattle.columns.proofs.SentOffsets.{strings_within}
use Rattle.columns.proofs.offsets.get_byte_array_buffers.Goals as goal

pub overflow_add-values : goal.overflow_add-values
overflow_add-values g c =
    let v = c.args.window.now in
    let within = strings_within v g.O.OffsetSizeTrait.WIDTH c.reencode_offsets-first.result.1 c.reencode_offsets-first.result.2 c.requires.width c.reencode_offsets-first.ensures.contents in
    let place = ap (λ (n : Node). n.«data») (c.node-2.ensures.value ∙ ap numbers_of c.node.ensures) in
    record { fits = omega (arith, within, place) }
