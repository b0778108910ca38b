use Rattle.cases.proofs.Framed.{frame_cases}
use Rattle.cases.proofs.frame_cases_stand.Goals as goal

pub returns : goal.returns
returns c = frame_cases
