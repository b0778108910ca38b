use Rattle.std.proofs.Common.{◌≡◌, suc, ◌-◌, length, get_or, vec_items, vec_len, ap, ◌∙◌, arith, rules}
use Rattle.orders.specs.Adding.{added}
use Rattle.orders.specs.Orders.{cases_in, to_last}
use Rattle.orders.proofs.Growth.{makes_map, some_begun, map_last}
use Rattle.orders.proofs.add_to_last.Goals as goal

pub returns : goal.returns
returns c =
    let mid = c.begin.new.cases in
    let told = c.in_ok-begin.ensures in
    let grow = added c.args.more in
    let last : suc (vec_len mid - 1) ≡ length (vec_items mid) = omega (arith, some_begun mid (cases_in c.args.cases.now) told, mid.ok.0) in
    let is : c.unwrap.result.now ≡ get_or (vec_items mid) (vec_len mid - 1) c.unwrap.result.now = search rules in
    makes_map c.add.result _ _ (λ e. map_last grow (vec_items mid) c.unwrap.result.now c.add.new.self (vec_len mid - 1) last is e ∙ ap (to_last grow) told) c.add.ensures
