use Rattle.std.proofs.Common.{take}
use Rattle.std.specs.Fmt.{HasWritten, IsPlainFormatter}
use Rattle.pack.specs.Bodies.{lengths_shown}
use Rattle.pack.proofs.body.LengthsTextDisplay.fmt.Given as goal

abbrev pub invariant-loop-len : goal.invariant-loop-len
invariant-loop-len g l =
    IsPlainFormatter l.initial.f → HasWritten g.W.Write.write_str_gives l.initial.f (lengths_shown (take l.len-index l.len-items)) l.f
