use Rattle.std.proofs.Common.{map, take}
use Rattle.std.specs.List.{All}
use Rattle.columns.specs.Telling.{buffer_read}
use Rattle.frames.specs.Numbers.{buffer_numbers}
use Rattle.frames.proofs.NumbersFit.{IsSmall}
use Rattle.frames.proofs.law.buffers_fit.Given as goal

abbrev pub invariant-loop-entry : goal.invariant-loop-entry
invariant-loop-entry l = All IsSmall (buffer_numbers (map buffer_read (take l.entry-index l.buffers)))
