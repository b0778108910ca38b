use Rattle.frames.proofs.NumbersApart.{numbers_tell}
use Rattle.frames.proofs.law.numbers_tell_stands.Goals as goal

pub returns : goal.returns
returns c = numbers_tell
