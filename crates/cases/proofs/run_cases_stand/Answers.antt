use Rattle.cases.proofs.Run.{run_cases}
use Rattle.cases.proofs.run_cases_stand.Goals as goal

pub returns : goal.returns
returns c = run_cases
