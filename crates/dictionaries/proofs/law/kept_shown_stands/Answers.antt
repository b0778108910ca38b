use Rattle.dictionaries.proofs.Laws.{keeps_shown}
use Rattle.dictionaries.proofs.law.kept_shown_stands.Goals as goal

pub returns : goal.returns
returns c = keeps_shown
