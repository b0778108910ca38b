use Rattle.recording.specs.Passing.{windows_left}
use Rattle.dictionaries.specs.Batches.{column_windows}
use Rattle.columns.proofs.Counting.{CountLeft}
use Rattle.columns.proofs.plan.count_columns.Given as goal

-- with the needs of what is left they are those of all
abbrev pub invariant-loop-window : goal.invariant-loop-window
invariant-loop-window l = CountLeft (column_windows l.fn.columns) (windows_left l.window-iterator) l.needs
