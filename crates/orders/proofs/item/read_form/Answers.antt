use Rattle.std.proofs.Common.{Ok, codes, sym, ap, ◌∙◌, arith, rules}
use Rattle.std.proofs.lemmas.Slice.Eq.{text_from_reads}
use Rattle.orders.specs.Items.{chosen, form_of}
use Rattle.orders.proofs.item.read_form.Goals as goal

pub returns-in-supplied : goal.returns-in-supplied
returns-in-supplied c =
    let word = c.in_ok-only_word.field-0.now in
    let same = text_from_reads word (codes "supplied") (omega arith) (search rules) in
    sym (ap (chosen form_of) (c.in_ok-only_word.ensures ∙ ap (λ w. Ok w) same))
