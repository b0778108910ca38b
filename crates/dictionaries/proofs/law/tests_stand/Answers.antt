use Rattle.dictionaries.proofs.Tests.{tested}
use Rattle.dictionaries.proofs.law.tests_stand.Goals as goal

pub returns : goal.returns
returns c = tested
