use Rattle.opening.proofs.Flagged.{byte_tells}
use Rattle.opening.proofs.keys.Keys.eight_below.Goals as goal

pub returns : goal.returns
returns c = byte_tells c.args.self.now c.args.from c.eight_not_below.result c.requires.whole c.eight_not_below.ensures
