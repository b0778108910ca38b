use Rattle.std.proofs.Common.{◌≡◌, ◌+◌, true, Ok, Err, MatchResult, length, ap, subst, sym, ◌∙◌, inl, arith, rules}
use Rattle.std.specs.Iterator.Adapters.{enumerate_count, enumerate_source}
use Rattle.std.proofs.lemmas.Result.{err_from_is_err_and}
use Rattle.orders.specs.declared.text.Lines.{Lines}
use Rattle.orders.specs.Texts.{lines_in}
use Rattle.orders.specs.Orders.{cases_in}
use Rattle.orders.proofs.Lines.{Sofar, one_more, first_bad, lines_le, followed_ok, followed_err}
use Rattle.orders.proofs.read_order.Goals as goal

pub loop-before-init-derived : goal.loop-before-init-derived
loop-before-init-derived g c =
    let same = c.into_iter-before-iterator.ensures.into_iter_gives in
    let none = ap enumerate_count same ∙ c.enumerate-before-items.ensures.count in
    let all = ap (λ (s : Lines). length (lines_in s.0.now)) (ap enumerate_source same ∙ c.enumerate-before-items.ensures.source) in
    ((tt, tt, inl (omega (arith, none, all, lines_le c.args.text.now, c.well_formed))), tt)

pub loop-before-preserved : goal.loop-before-preserved
loop-before-preserved g c =
    let steps = c.in-Some.ensures.steps in
    let line = c.in-Some.words.now in
    let f = followed_ok line _ _ c.follow.result (sym {a = true} c.in_ok-map_err.ensures.variant) c.follow.ensures in
    let more = one_more c.args.text.now c.loop-before.invariant line _ steps.0 _ f in
    subst (λ n. Sofar (lines_in c.args.text.now) (lines_in (enumerate_source c.next.new.self).0.now) n (cases_in c.follow.new.cases)) (sym steps.2) more

pub returns-in_err-map_err : goal.returns-in_err-map_err
returns-in_err-map_err g c =
    let steps = c.in-Some.ensures.steps in
    let line = c.in-Some.words.now in
    let told : MatchResult c.follow.result (λ u. c.map_err.result ≡ Ok u) (λ why. c.map_err.result ≡ Err (record { line = c.in-Some.before + 1; why = why })) = search rules in
    let bad = followed_err line _ _ (c.in-Some.before + 1) c.follow.result c.map_err.result told _ c.in_err-map_err.was c.follow.ensures in
    let p = err_from_is_err_and c.from_residual.result c.from_residual.ensures.1 in
    rw (p.1, p.2) (inl (first_bad c.args.text.now c.loop-before.invariant line _ steps.0 _ (bad.0 ∙ ap (λ n. n + 1) steps.1) bad.1))
