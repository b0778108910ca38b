use Rattle.laws.proofs.sizes_stands.Goals as goal
use Rattle.laws.proofs.Fits.{sizes}

pub returns : goal.returns
returns c = sizes
