use Rattle.recording.specs.Passing.{windows_left}
use Rattle.dictionaries.specs.Batches.{column_windows}
use Rattle.columns.proofs.Writing.{Left}
use Rattle.columns.proofs.writer.IpcMessageWriter.write_columns.Given as goal

-- there is room for what is left, and with it all is written
abbrev pub invariant-loop-window : goal.invariant-loop-window
invariant-loop-window l = Left (column_windows l.fn.columns) (windows_left l.window-iterator) l.fn.self l.self
