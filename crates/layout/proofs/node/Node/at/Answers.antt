use Rattle.std.proofs.Common.{ℕ, ◌*◌, ◌-◌, List, length, refl, take, drop, ap, ◌∙◌, arith, rules}
use Rattle.layout.specs.Numbers.{unle}
use Rattle.layout.proofs.Arrays.{made}
use Rattle.layout.proofs.Lists.{rest_is}
use Rattle.layout.proofs.Nodes.{read_node}
use Rattle.layout.proofs.node.Node.at.Goals as goal

pub returns : goal.returns
returns c =
    let bs : List ℕ = take (length c.args.table.now - c.args.i * 80) (drop (c.args.i * 80) c.args.table.now) in
    let number : ℕ → ℕ = λ k. unle (take 8 (take (length bs - 8 * k) (drop (8 * k) bs))) in
    read_node c.args.table.now c.from_fn.result c.args.i c.from.result c.requires c.from.ensures
    (λ j l. made number (λ i y f' k. (search rules, search rules)) 10 0 c.from_fn.result _ refl c.from_fn.ensures.items.each j (omega arith) (omega arith) ∙ ap (λ (xs : List ℕ). unle (take 8 xs)) (rest_is (8 * j) bs))
