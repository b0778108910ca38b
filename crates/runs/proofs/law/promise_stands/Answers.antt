use Rattle.runs.proofs.Promise.{promise}
use Rattle.runs.proofs.law.promise_stands.Goals as goal

pub returns : goal.returns
returns c = promise
