use Rattle.std.proofs.Common.{refl}
use Rattle.frames.proofs.NumberBytes.{put_is}
use Rattle.frames.proofs.numbers.put.Goals as goal

pub returns : goal.returns
returns c = put_is c.args.at _ c.args.number c.args.out.now c.write.new.out refl c.write.ensures.after
