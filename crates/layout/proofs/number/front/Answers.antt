use Rattle.std.proofs.Common.{ℕ, refl, get_or, take, sym, ◌∙◌, arith, rules}
use Rattle.std.proofs.lemmas.List.{ext_get_or, get_or-take, length-take-le}
use Rattle.layout.proofs.Arrays.{made}
use Rattle.layout.proofs.number.front.Goals as goal

pub returns : goal.returns
returns g c =
    let n : ℕ = g.row.N in
    let bs = c.args.bytes.now in
    let items = c.from_fn.ensures.items in
    ext_get_or 0 c.from_fn.result (take n bs) (items.long ∙ sym (length-take-le n bs c.requires))
    (λ k l.
    made (λ k. get_or bs k 0) (λ i y f' k. (search rules, search rules)) n 0 c.from_fn.result _ refl items.each k (omega arith) (omega (arith, items.long))
    ∙ sym (get_or-take n bs k 0 (omega (arith, items.long))))
