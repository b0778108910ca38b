use Rattle.std.proofs.Common.{map}
use Rattle.recording.specs.Alignments.{alignment_number}
use Rattle.columns.specs.Telling.{told_all}
use Rattle.pack.specs.Telling.{printed}
use Rattle.pack.proofs.Telling.{TellsOn}
use Rattle.pack.proofs.told.tell_messages.Given as goal

abbrev pub invariant-loop-index : goal.invariant-loop-index
invariant-loop-index l =
    let al = alignment_number l.opened.options.alignment in
    let bs = l.opened.bytes.now in
    let work = l.memory.work.now in
    TellsOn al bs work (map (printed al) (told_all bs work l.memory.fields.now l.memory.buffers.now l.messages)) l.messages l.index l.records.fields.now l.records.buffers.now l.told.items
