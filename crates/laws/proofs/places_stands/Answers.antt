use Rattle.laws.proofs.places_stands.Goals as goal
use Rattle.laws.proofs.Places.{places}

pub returns : goal.returns
returns c = places
