use Rattle.std.proofs.Common.{◌≡◌, ◌≤◌, length, Some, sym, ap, ◌∙◌, subst, arith, rules}
use Rattle.std.proofs.lemmas.List.{take_rest}
use Rattle.orders.specs.Texts.{unblanked}
use Rattle.orders.proofs.Pairs.{PairsSoFar, pairs_start, pairs_more}
use Rattle.orders.proofs.hex.read_pairs.Goals as goal

pub loop-rest-init : goal.loop-rest-init
loop-rest-init c =
    subst (PairsSoFar c.args.text.now c.skip_blanks-rest.result.now) (sym c.new-bytes.ensures.items) (pairs_start _ _ c.skip_blanks-rest.ensures)

pub loop-rest-preserved : goal.loop-rest-preserved
loop-rest-preserved c =
    let rest = c.loop-rest.rest.now in
    let next = c.skip_blanks-rest-in-len2-up.result.now in
    let two : 2 ≤ length rest = search rules in
    let e = c.skip_blanks-rest-in-len2-up.ensures ∙ ap unblanked (take_rest rest 2) in
    let some : c.hex_pair.result ≡ Some c.in_ok-byte.byte = grind arith in
    subst (PairsSoFar c.args.text.now next) (sym c.in_ok-push.ensures.items)
    (pairs_more c.loop-rest.invariant two c.in_ok-byte.byte next (sym some ∙ c.hex_pair.ensures) e)
