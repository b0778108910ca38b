use Rattle.std.proofs.Common.{pos, rules, arith}
use Rattle.columns.specs.declared.record.BufferEntry.{BufferEntry}
use Rattle.columns.specs.declared.record.EncodedBuffer.TheVariants.{Recording}
use Rattle.frames.proofs.NumbersFit.{buffer_fits}
use Rattle.frames.proofs.law.buffers_fit.Goals as goal

pub loop-entry-preserved : goal.loop-entry-preserved
loop-entry-preserved c =
    let d : BufferEntry = record { buffer = record { offset = pos 0; length = pos 0 }; source = Recording 0 } in
    buffer_fits c.args.buffers.now c.loop-entry.entry-index d (omega arith) (search rules) (search rules) c.loop-entry.invariant
