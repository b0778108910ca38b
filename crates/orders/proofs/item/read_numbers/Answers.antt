use Rattle.std.proofs.Common.{◌+◌, ◌<◌, length, Ok, sym, ap, ◌∙◌, subst, arith, length-set}
use Rattle.std.proofs.lemmas.List.{take_more_set, take_all}
use Rattle.std.proofs.lemmas.Result.{err_from_is_err_and}
use Rattle.orders.proofs.Numbers.{NumbersSoFar, missing, next_err, next_ok, ended_err, ended_ok}
use Rattle.orders.proofs.item.read_numbers.Goals as goal

pub returns-in_err-word : goal.returns-in_err-word
returns-in_err-word g c =
    let told = c.in_err-word.ensures.missing in
    let p = err_from_is_err_and c.from_residual.result c.from_residual.ensures.1 in
    rw (p.1, p.2, told.0) (sym (missing c.loop-number.invariant.so_far (omega arith) told.1))

pub returns-in_err-number : goal.returns-in_err-number
returns-in_err-number g c =
    let p = err_from_is_err_and c.from_residual-in_err-number.result c.from_residual-in_err-number.ensures.1 in
    rw (p.1, p.2) (sym (next_err c.loop-number.invariant.so_far (omega arith) c.in_ok-word.ensures.word _ c.in_err-number.ensures.value))

pub loop-number-preserved : goal.loop-number-preserved
loop-number-preserved g c =
    let k = c.loop-number.number-index in
    let old = c.loop-number.number-items in
    let n = c.in_ok-number.field-0 in
    let within : k < length old = omega arith in
    let more = next_ok c.loop-number.invariant.so_far (omega arith) c.in_ok-word.ensures.word n c.in_ok-number.ensures.value in
    record {
      long = length-set old k n ∙ c.loop-number.invariant.long;
      so_far = subst (NumbersSoFar g.row.N (k + 1) c.args.text.now c.in_ok-word.after.now) (sym (take_more_set old k n within)) more;
    }

pub returns-in_err-expect_end : goal.returns-in_err-expect_end
returns-in_err-expect_end g c =
    let p = err_from_is_err_and c.from_residual-in_err-expect_end.result c.from_residual-in_err-expect_end.ensures.1 in
    rw (p.1, p.2) (sym (ended_err c.loop-number.invariant.so_far (omega arith) _ c.in_err-expect_end.ensures))

pub returns : goal.returns
returns g c =
    let all = c.loop-number.number-items in
    let done = ended_ok c.loop-number.invariant.so_far (omega arith) _ c.in_ok-expect_end.ensures in
    sym (done ∙ ap (λ xs. Ok xs) (take_all c.loop-number.number-index all (omega arith)))
