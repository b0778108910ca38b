use Rattle.std.proofs.Common.{◌*◌, length, map, take}
use Rattle.columns.specs.Telling.{field_read}
use Rattle.frames.specs.Numbers.{field_numbers}
use Rattle.frames.proofs.NumberBytes.{Written}
use Rattle.frames.proofs.numbers.write_fields.Given as goal

-- the records so far are written
abbrev pub invariant-loop-i : goal.invariant-loop-i
invariant-loop-i l = Written (field_numbers (map field_read (take l.i l.fields))) (l.i * 16) (length l.fn.out) l.out
