use Rattle.laws.proofs.passing_stands.Goals as goal
use Rattle.laws.proofs.Passing.{passing}

pub returns : goal.returns
returns c = passing
