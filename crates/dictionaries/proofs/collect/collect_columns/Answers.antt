use Rattle.std.proofs.Common.{◌≡◌, List, Err, refl, subst, rules, arith}
use Rattle.layout.specs.declared.fault.Fault.{Fault}
use Rattle.layout.specs.Windows as layout
use Rattle.recording.specs.Passing.{windows_left}
use Rattle.dictionaries.specs.declared.collect.Walk.{Walk}
use Rattle.dictionaries.specs.Walking.{Told}
use Rattle.dictionaries.specs.Walks.{state_of}
use Rattle.dictionaries.proofs.BatchWalk.{LeftInBatch, batch_step, batch_refused, batch_end, few}
use Rattle.dictionaries.proofs.collect.collect_columns.Goals as goal

pub returns-in_err-collect_dict_updates : goal.returns-in_err-collect_dict_updates
returns-in_err-collect_dict_updates c =
    let f : Fault = c.in_err-collect_dict_updates.field-0.0 in
    let e : c.from_residual.result ≡ Err f = search rules in
    let k : Walk = record { options = c.args.options; ids = c.args.ids; column = c.loop-window.column; first = c.index.result } in
    let first : c.index.result ≡ c.in-Some.window.node.index = search rules in
    rw e
    (batch_refused c.args.options.now c.args.ids c.args.columns.now c.args.written.now.entries c.loop-window.column (windows_left c.loop-window.window-iterator) (windows_left c.next.new.self) (state_of c.loop-window.written c.loop-window.met.items) c.loop-window.invariant
    c.in-Some.window c.in-Some.ensures.steps k refl refl refl first f (subst (Told _ _ _ _) c.in_err-collect_dict_updates.was c.collect_dict_updates.ensures))

pub overflow_add-column : goal.overflow_add-column
overflow_add-column c =
    let k : Walk = record { options = c.args.options; ids = c.args.ids; column = c.loop-window.column; first = c.index.result } in
    let first : c.index.result ≡ c.in-Some.window.node.index = search rules in
    let l = few c.args.options.now c.args.ids c.args.columns.now c.args.written.now.entries c.loop-window.column (windows_left c.loop-window.window-iterator) (windows_left c.next.new.self) (state_of c.loop-window.written c.loop-window.met.items) c.loop-window.invariant
    c.in-Some.window c.in-Some.ensures.steps k refl refl refl first in
    record { fits = omega arith }

pub loop-window-preserved : goal.loop-window-preserved
loop-window-preserved c =
    let k : Walk = record { options = c.args.options; ids = c.args.ids; column = c.loop-window.column; first = c.index.result } in
    let first : c.index.result ≡ c.in-Some.window.node.index = search rules in
    batch_step c.args.options.now c.args.ids c.args.columns.now c.args.written.now.entries c.loop-window.column (windows_left c.loop-window.window-iterator) (windows_left c.next.new.self) (state_of c.loop-window.written c.loop-window.met.items) c.loop-window.invariant
    c.in-Some.window c.in-Some.ensures.steps k refl refl refl first (state_of c.collect_dict_updates.new.written c.collect_dict_updates.new.met.items)
    (subst (Told _ _ _ _) c.in_ok-collect_dict_updates.was c.collect_dict_updates.ensures)

pub returns : goal.returns
returns c =
    let s = state_of c.loop-window.written c.loop-window.met.items in
    batch_end c.args.options.now c.args.ids c.args.columns.now c.args.written.now.entries c.loop-window.column s
    (subst (λ (ws : List layout.Window). LeftInBatch c.args.options.now c.args.ids c.args.columns.now c.args.written.now.entries c.loop-window.column ws s) c.in-None.ensures.steps.0 c.loop-window.invariant)
