use Rattle.std.proofs.Common.{◌≡◌, take, map}
use Rattle.layout.specs.Messages.{body}
use Rattle.columns.specs.Telling.{bytes_named}
use Rattle.pack.proofs.told.body_of.Given as goal

abbrev pub invariant-loop-entry : goal.invariant-loop-entry
invariant-loop-entry l = l.made.items ≡ body l.alignment (map (bytes_named l.sources.recording.now l.sources.work.now) (take l.entry-index l.buffers))
