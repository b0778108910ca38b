use Rattle.laws.proofs.round_trip_stands.Goals as goal
use Rattle.laws.proofs.Windows.{round_trip}

pub returns : goal.returns
returns c = round_trip
