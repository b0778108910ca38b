use Rattle.cases.proofs.Openings.{openings}
use Rattle.cases.proofs.opening_cases_stand.Goals as goal

pub returns : goal.returns
returns c = openings
