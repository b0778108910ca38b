use Rattle.std.proofs.lemmas.List.{take-replicate}
use Rattle.frames.proofs.frame.zeroed.Goals as goal

pub returns : goal.returns
returns c = take-replicate c.args.len 64 0 c.requires
