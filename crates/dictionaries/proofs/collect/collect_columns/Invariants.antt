use Rattle.recording.specs.Passing.{windows_left}
use Rattle.dictionaries.specs.Walks.{state_of}
use Rattle.dictionaries.proofs.BatchWalk.{LeftInBatch}
use Rattle.dictionaries.proofs.collect.collect_columns.Given as goal

abbrev pub invariant-loop-window : goal.invariant-loop-window
invariant-loop-window l = LeftInBatch l.options l.ids l.columns l.fn.written.entries l.column (windows_left l.window-iterator) (state_of l.written l.met.items)
