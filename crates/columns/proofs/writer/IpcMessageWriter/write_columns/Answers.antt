use Rattle.std.proofs.Common.{◌≡◌, List, sym, subst, ◌∙◌, rules}
use Rattle.layout.specs.Windows as layout
use Rattle.recording.specs.Passing.{windows_left}
use Rattle.recording.specs.Windows.{window_in}
use Rattle.dictionaries.specs.Batches.{column_windows}
use Rattle.columns.proofs.Writing.{Left, left_all, left_room, left_next, left_none}
use Rattle.columns.proofs.writer.IpcMessageWriter.write_columns.Goals as goal

pub loop-window-init : goal.loop-window-init
loop-window-init c =
    let all = column_windows c.args.columns.now in
    let ws : List layout.Window = windows_left c.into_iter-window-iterator.result in
    let same : windows_left c.windows-window-items.result ≡ ws = search rules in
    subst (λ (us : List layout.Window). Left all us c.args.self.now c.args.self.now) (sym c.windows-window-items.ensures ∙ same) (left_all all c.args.self.now c.requires)

pub write_array_data-requires : goal.write_array_data-requires
write_array_data-requires c =
    left_room (column_windows c.args.columns.now) (windows_left c.loop-window.window-iterator) (windows_left c.next.new.self) (window_in c.in-Some.window) c.args.self.now c.loop-window.self c.in-Some.ensures.steps c.loop-window.invariant

pub loop-window-preserved : goal.loop-window-preserved
loop-window-preserved c =
    left_next (column_windows c.args.columns.now) (windows_left c.loop-window.window-iterator) (windows_left c.next.new.self) (window_in c.in-Some.window) c.args.self.now c.loop-window.self c.in-Some.ensures.steps c.loop-window.invariant
    c.write_array_data.new.self c.write_array_data.ensures

pub returns : goal.returns
returns c = left_none (column_windows c.args.columns.now) (windows_left c.loop-window.window-iterator) c.args.self.now c.loop-window.self c.in-None.ensures.steps.0 c.loop-window.invariant
