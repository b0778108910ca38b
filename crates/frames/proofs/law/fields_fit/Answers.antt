use Rattle.std.proofs.Common.{pos, rules, arith}
use Rattle.columns.specs.declared.record.FieldRecord.{FieldRecord}
use Rattle.frames.proofs.NumbersFit.{field_fits}
use Rattle.frames.proofs.law.fields_fit.Goals as goal

pub loop-field-preserved : goal.loop-field-preserved
loop-field-preserved c =
    let d : FieldRecord = record { rows = pos 0; nulls = pos 0 } in
    field_fits c.args.fields.now c.loop-field.field-index d (omega arith) (search rules) (search rules) c.loop-field.invariant
