use Rattle.std.proofs.Common.{rules}
use Rattle.opening.proofs.Walking.{nesting_unshaped, nesting_by}
use Rattle.opening.proofs.subject.Subject.check_nesting.Goals as goal

pub returns-in_err-check_children : goal.returns-in_err-check_children
returns-in_err-check_children c =
    let e = c.in_err-check_children.ensures in
    nesting_unshaped c.args.self.now c.from_residual.result c.in_err-check_children.field-0.0 (search rules) e.0 e.1

pub returns : goal.returns
returns c = nesting_by c.args.self.now c.in_ok-check_children.ensures c.ensure.result c.ensure.ensures
