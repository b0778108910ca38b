use Rattle.std.proofs.Common.{◌≡◌, Err, inl, inr, rules}
use Rattle.layout.specs.declared.fault.Fault.{Fault}
use Rattle.pack.proofs.plan.plan.Goals as goal

pub returns-in_err-met : goal.returns-in_err-met
returns-in_err-met c =
    let f : Fault = c.in_err-met.field-0.0 in
    let e : c.from_residual-in_err-met.result ≡ Err f = search rules in
    rw e (record { why = inr (inl (c.in_ok-columns.columns, c.in_ok-columns.ensures, c.in_err-met.ensures.met)); unchanged = c.in_err-met.ensures.kept; same_memory = search rules })

pub returns-in_err-messages : goal.returns-in_err-messages
returns-in_err-messages c =
    let f : Fault = c.in_err-messages.field-0.0 in
    let e : c.from_residual-in_err-messages.result ≡ Err f = search rules in
    rw e (record { why = inr (inr (record { columns = c.in_ok-columns.columns; met = c.in_ok-met.met.items; found = c.in_ok-columns.ensures; are_met = c.in_ok-met.ensures.met; refused = search rules })); unchanged = c.in_ok-met.ensures.kept; same_memory = search rules })

pub returns : goal.returns
returns c =
    record {
      columns = c.in_ok-columns.columns;
      found = c.in_ok-columns.ensures;
      met = c.in_ok-met.ensures.met;
      planned = search rules;
      told = search rules;
      kept = search rules;
    }
