use Rattle.std.proofs.Common.{ℕ, ◌*◌, ◌+◌, List, get_or, length, refl, ap, ◌∙◌, subst, pos, rules, w64, arith}
use Rattle.std.proofs.lemmas.Int.{to_z-of_z}
use mir.Val.{SFits}
use Rattle.columns.specs.declared.record.BufferEntry.{BufferEntry}
use Rattle.columns.specs.declared.record.EncodedBuffer.TheVariants.{Recording}
use Rattle.columns.specs.Telling.{number}
use Rattle.frames.proofs.NumberBytes.{Written, one_written, buffer_more}
use Rattle.frames.proofs.numbers.write_buffers.Goals as goal

pub loop-i-preserved : goal.loop-i-preserved
loop-i-preserved c =
    let es = c.args.buffers.now in
    let i = c.loop-i.i in
    let room = length c.args.out.now in
    let d : BufferEntry = record { buffer = record { offset = pos 0; length = pos 0 }; source = Recording 0 } in
    let first : SFits w64 (get_or es i d).buffer.offset = search rules in
    let second : SFits w64 (get_or es i d).buffer.length = search rules in
    let offset = c.natural.ensures ∙ ap number (to_z-of_z w64 (get_or es i d).buffer.offset first) in
    let long = c.natural-in-loop-i.ensures ∙ ap number (to_z-of_z w64 (get_or es i d).buffer.length second) in
    let one = one_written _ c.natural.result (i * 16) (i * 16 + 8) room _ c.put.new.out c.loop-i.invariant refl (omega arith) c.put.ensures in
    let both = one_written _ c.natural-in-loop-i.result (i * 16 + 8) ((i + 1) * 16) room _ c.put-in-loop-i.new.out one (omega arith) (omega arith) c.put-in-loop-i.ensures in
    subst (λ (ns : List ℕ). Written ns ((i + 1) * 16) room c.put-in-loop-i.new.out) (buffer_more es i _ _ d (omega arith) offset long) both
