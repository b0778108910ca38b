use Rattle.std.proofs.Common.{subst, append_assoc}
use Rattle.std.specs.Fmt.{HasWritten}
use Rattle.pack.proofs.show.NodeLineDisplay.fmt.Goals as goal

-- a format of more than twelve pieces is written in two parts
pub returns-clause-writes : goal.returns-clause-writes
returns-clause-writes g c plain ok = subst (λ bs. HasWritten g.W.Write.write_str_gives c.args.f.now bs c.write.new.self) (simp append_assoc) (c.write.ensures.writes plain ok)
