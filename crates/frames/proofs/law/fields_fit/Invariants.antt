use Rattle.std.proofs.Common.{map, take}
use Rattle.std.specs.List.{All}
use Rattle.columns.specs.Telling.{field_read}
use Rattle.frames.specs.Numbers.{field_numbers}
use Rattle.frames.proofs.NumbersFit.{IsSmall}
use Rattle.frames.proofs.law.fields_fit.Given as goal

abbrev pub invariant-loop-field : goal.invariant-loop-field
invariant-loop-field l = All IsSmall (field_numbers (map field_read (take l.field-index l.fields)))
