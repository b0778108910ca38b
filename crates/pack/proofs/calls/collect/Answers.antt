use Rattle.std.proofs.Common.{◌≡◌, Err, inr, rules}
use Rattle.layout.specs.declared.fault.Fault.{Fault}
use Rattle.pack.proofs.calls.collect.Goals as goal

pub returns-in_err-met : goal.returns-in_err-met
returns-in_err-met c =
    let f : Fault = c.in_err-met.field-0.0 in
    let e : c.from_residual-in_err-met.result ≡ Err f = search rules in
    rw e (record { why = inr (c.in_ok-columns.columns, c.in_ok-columns.ensures, c.in_err-met.ensures.met); unchanged = c.in_err-met.ensures.kept })

pub returns : goal.returns
returns c =
    record {
      columns = c.in_ok-columns.columns;
      found = c.in_ok-columns.ensures;
      met = c.in_ok-met.ensures.met;
      kept = search rules;
    }
