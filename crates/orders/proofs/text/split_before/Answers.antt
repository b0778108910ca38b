use Rattle.std.proofs.lemmas.Iterator.{YieldsList-from_slice}
use Rattle.std.proofs.lemmas.Iterator.Search.{position_from_yields_List}
use Rattle.orders.proofs.Cuts.{cut_is}
use Rattle.orders.proofs.text.split_before.Goals as goal

pub returns : goal.returns
returns g c =
    λ p tests.
    let text = c.args.text.now in
    let found = position_from_yields_List p _ _ c.position.result c.position.ensures.ran (YieldsList-from_slice text cc) tests in
    cut_is p text c.position.result _ _ _ found c.unwrap_or.ensures c.split_at.ensures.front c.split_at.ensures.back
