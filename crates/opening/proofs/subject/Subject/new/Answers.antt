use Rattle.std.proofs.Common.{sym, ◌∙◌, rules}
use Rattle.layout.specs.Nodes.{nodes_of}
use Rattle.layout.proofs.Facts.{found, missed}
use Rattle.opening.proofs.Order.{handed_on, no_kind, not_tabled}
use Rattle.opening.proofs.subject.Subject.new.Goals as goal

pub returns-in_err-kind : goal.returns-in_err-kind
returns-in_err-kind c =
    let h = missed _ _ c.in_err-kind.field-0.0 (sym c.in_err-kind.ensures) in
    handed_on _ _ c.from_residual.result c.in_err-kind.field-0.0 (search rules)
    (h.1, no_kind (nodes_of c.args.nodes.now) c.args.bytes.now c.args.index c.at-node.result c.at-node.ensures h.0)

pub returns-in_err-ensure : goal.returns-in_err-ensure
returns-in_err-ensure c =
    let e = c.in_err-ensure.ensures in
    handed_on _ _ c.from_residual-in_err-ensure.result c.in_err-ensure.field-0.0 (search rules)
    (e.0, not_tabled (nodes_of c.args.nodes.now) c.args.bytes.now c.args.index c.at-node.result c.in_ok-kind.kind c.at-node.ensures (found _ _ c.in_ok-kind.kind (sym c.in_ok-kind.ensures)) (sym c.keeps_table.ensures ∙ e.1))
