use Rattle.std.proofs.Common.{◌*◌, length, map, take}
use Rattle.columns.specs.Telling.{buffer_read}
use Rattle.frames.specs.Numbers.{buffer_numbers}
use Rattle.frames.proofs.NumberBytes.{Written}
use Rattle.frames.proofs.numbers.write_buffers.Given as goal

-- the records so far are written
abbrev pub invariant-loop-i : goal.invariant-loop-i
invariant-loop-i l = Written (buffer_numbers (map buffer_read (take l.i l.buffers))) (l.i * 16) (length l.fn.out) l.out
