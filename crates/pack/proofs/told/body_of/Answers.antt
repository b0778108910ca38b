use Rattle.std.proofs.Common.{◌≡◌, ◌+◌, ◌++◌, length, take, map, replicate, get_or, sym, ap, ◌∙◌, arith, rules, pos}
use Rattle.std.proofs.lemmas.List.{append_assoc}
use Rattle.columns.specs.declared.record.BufferEntry.{BufferEntry}
use Rattle.columns.specs.declared.record.EncodedBuffer.TheVariants.{Recording}
use Rattle.columns.specs.Telling.{bytes_named}
use Rattle.layout.specs.Messages.{body, padding}
use Rattle.pack.proofs.Bodies.{body_next}
use Rattle.pack.proofs.told.body_of.Goals as goal

abbrev blank : BufferEntry
blank = record { buffer = record { offset = pos 0; length = pos 0 }; source = Recording 0 }

pub loop-entry-preserved : goal.loop-entry-preserved
loop-entry-preserved c =
    let i = c.loop-entry.entry-index in
    let xs = c.args.buffers.now in
    let f = bytes_named c.args.sources.now.recording.now c.args.sources.now.work.now in
    let al = c.args.alignment in
    let bs = c.bytes-bytes.result.now in
    let made = c.loop-entry.made.items in
    let named : bs ≡ f (get_or xs i blank) = search rules in
    let bytes : c.extend_from_slice.new.self.items ≡ made ++ bs = search rules in
    let zeros : c.extend_from_slice-in-loop-entry.new.self.items ≡ c.extend_from_slice.new.self.items ++ replicate (padding al (length bs)) 0 = search rules in
    let more = body_next al f xs i blank (omega arith) in
    let joined : (made ++ bs) ++ replicate (padding al (length bs)) 0 ≡ body al (map f (take i xs)) ++ (bs ++ replicate (padding al (length bs)) 0) = rw (c.loop-entry.invariant) (append_assoc (body al (map f (take i xs))) bs (replicate (padding al (length bs)) 0)) in
    let last : body al (map f (take i xs)) ++ (bs ++ replicate (padding al (length bs)) 0) ≡ body al (map f (take (i + 1) xs)) = rw named (sym more) in
    zeros ∙ ap (λ t. t ++ replicate (padding al (length bs)) 0) bytes ∙ joined ∙ last
