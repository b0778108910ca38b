use Rattle.std.proofs.Common.{◌≡◌, List, sym, subst, ◌∙◌, rules}
use Rattle.layout.specs.Windows as layout
use Rattle.recording.specs.Passing.{windows_left}
use Rattle.recording.specs.Windows.{window_in}
use Rattle.dictionaries.specs.Batches.{column_windows}
use Rattle.columns.proofs.Counting.{CountLeft, nothing, count_all, count_next, count_done}
use Rattle.columns.proofs.plan.count_columns.Goals as goal

pub loop-window-init : goal.loop-window-init
loop-window-init c =
    let all = column_windows c.args.columns.now in
    let ws : List layout.Window = windows_left c.into_iter-window-iterator.result in
    let same : windows_left c.windows-window-items.result ≡ ws = search rules in
    subst (λ (us : List layout.Window). CountLeft all us nothing) (sym c.windows-window-items.ensures ∙ same) (count_all all)

pub loop-window-preserved : goal.loop-window-preserved
loop-window-preserved c =
    let all = column_windows c.args.columns.now in
    let rest = windows_left c.next.new.self in
    subst (CountLeft all rest) (sym c.plus-needs.ensures)
    (count_next all (windows_left c.loop-window.window-iterator) rest (window_in c.in-Some.window) c.loop-window.needs c.count_array_data.result c.in-Some.ensures.steps c.loop-window.invariant c.count_array_data.ensures)

pub returns : goal.returns
returns c = count_done (column_windows c.args.columns.now) (windows_left c.loop-window.window-iterator) c.loop-window.needs c.in-None.ensures.steps.0 c.loop-window.invariant
