use Rattle.cases.proofs.Sent.{window_cases}
use Rattle.cases.proofs.window_cases_stand.Goals as goal

pub returns : goal.returns
returns c = window_cases
