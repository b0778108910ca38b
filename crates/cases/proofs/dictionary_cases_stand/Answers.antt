use Rattle.cases.proofs.Updates.{dictionary_cases}
use Rattle.cases.proofs.dictionary_cases_stand.Goals as goal

pub returns : goal.returns
returns c = dictionary_cases
