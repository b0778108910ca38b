use Rattle.std.proofs.Common.{◌≡◌, true, length, None, Ok, Err, refl, ap, arith, rules}
use Rattle.layout.specs.Shown.{met}
use Rattle.layout.specs.Windows.{shown_in}
use Rattle.recording.specs.Windows.{window_in}
use Rattle.dictionaries.specs.Collecting.{Met, alone}
use Rattle.dictionaries.specs.Walking.{placed}
use Rattle.dictionaries.specs.Walks.{walk_of, state_of}
use Rattle.dictionaries.proofs.Meeting.{shown_plain}
use Rattle.dictionaries.proofs.Walking.{no_id, judged_err, judged_ok}
use Rattle.dictionaries.proofs.Walks.{values_met, values_placed}
use Rattle.dictionaries.proofs.collect.collect_dictionary.Goals as goal

pub returns-then-id-walk : goal.returns-then-id-walk
returns-then-id-walk c =
    let long : length c.args.written.now.entries ≡ 64 = search rules in
    let d : Met = record { column = c.args.walk.now.column; node = c.args.node; values = shown_in (window_in c.args.values.now) } in
    let plain : alone (met d.values) ≡ true = ap alone (shown_plain (window_in c.args.values.now) c.requires.plain) in
    let refuses = no_id (walk_of c.args.walk.now c.args.values.now None) refl (state_of c.args.written.now c.args.met.now.items) d plain (omega arith) (omega arith) in
    rw c.fault.ensures refuses

pub returns-in_err-update : goal.returns-in_err-update
returns-in_err-update c =
    let long : length c.args.written.now.entries ≡ 64 = search rules in
    let d : Met = record { column = c.args.walk.now.column; node = c.args.node; values = shown_in (window_in c.args.values.now) } in
    let plain : alone (met d.values) ≡ true = ap alone (shown_plain (window_in c.args.values.now) c.requires.plain) in
    let e : placed c.args.walk.now.column c.args.node c.insert_column.result ≡ Err c.in_err-update.field-0.0 = search rules in
    let r : c.from_residual.result ≡ Err c.in_err-update.field-0.0 = search rules in
    rw r
    (judged_err (walk_of c.args.walk.now c.args.values.now None) refl (state_of c.args.written.now c.args.met.now.items) d plain c.len-id.result (search rules) (omega arith)
    c.insert_column.result c.insert_column.ensures.update (omega arith) _ _ e refl)

pub returns : goal.returns
returns c =
    let long : length c.args.written.now.entries ≡ 64 = search rules in
    let d : Met = record { column = c.args.walk.now.column; node = c.args.node; values = shown_in (window_in c.args.values.now) } in
    let plain : alone (met d.values) ≡ true = ap alone (shown_plain (window_in c.args.values.now) c.requires.plain) in
    let is : placed c.args.walk.now.column c.args.node c.insert_column.result ≡ Ok c.in_ok-update.update = search rules in
    judged_ok (walk_of c.args.walk.now c.args.values.now None) refl (state_of c.args.written.now c.args.met.now.items) d plain c.len-id.result (search rules) (omega arith)
    c.insert_column.result c.insert_column.ensures.update (omega arith) c.in_ok-update.update _ _ c.insert_column.new.self.entries c.push.new.self.items is c.insert_column.ensures.entries c.push.ensures.items refl
    (values_met c.args.values.now c.args.walk.now.column c.args.node c.index.result c.rows.result (search rules) c.rows.ensures c.requires.whole.0)
    (values_placed c.args.walk.now c.args.values.now c.args.node c.index.result c.rows.result c.in_ok-update.update (search rules) c.rows.ensures c.requires.node c.requires.whole.1)
