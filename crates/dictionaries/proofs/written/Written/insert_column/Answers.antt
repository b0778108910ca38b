use Rattle.std.proofs.Common.{sym, ◌∙◌, rules}
use Rattle.layout.specs.Windows.{shown_in}
use Rattle.recording.specs.NodeRefs.{table_of, run_of}
use Rattle.recording.specs.Windows.{window_in}
use Rattle.dictionaries.specs.Tracking.{kept_at}
use Rattle.dictionaries.proofs.Updates.{update_found}
use Rattle.dictionaries.proofs.written.Written.insert_column.Goals as goal

pub returns-in_err-update-clause-update : goal.returns-in_err-update-clause-update
returns-in_err-update-clause-update c =
    let found = update_found c.args.options.now (table_of c.args.new.now.node) (run_of c.args.new.now.node) (kept_at c.args.self.now.entries c.args.dict_id) c.in-Some.old (shown_in (window_in c.args.new.now)) c.update_from-update.result c.allow.result
    (sym c.get.ensures ∙ c.in-Some.is) (search rules) (search rules) in
    search rules

pub returns-then-ne-clause-update : goal.returns-then-ne-clause-update
returns-then-ne-clause-update c =
    sym c.in_ok-update.was
    ∙ update_found c.args.options.now (table_of c.args.new.now.node) (run_of c.args.new.now.node) (kept_at c.args.self.now.entries c.args.dict_id) c.in-Some.old (shown_in (window_in c.args.new.now)) c.update_from-update.result c.allow.result
    (sym c.get.ensures ∙ c.in-Some.is) (search rules) (search rules)
