use Rattle.std.proofs.Common.{◌≡◌, ℕ, ◌+◌, true, List, [], ◌∷◌, ◌++◌, length, drop, get_or, sym, ◌∙◌, ap, subst, subst₂, refl, arith, rules}
use Rattle.std.proofs.lemmas.List.{drop_all}
use Rattle.layout.specs.Messages.{padding}
use Rattle.columns.specs.Telling.{bytes_named}
use Rattle.frames.specs.Frames.{zeros, named}
use Rattle.frames.specs.Sinks.{has_room, piece_unless_empty, with_pieces}
use Rattle.frames.proofs.Framing.{BuffersLeft, blank, named_next, room_for_buffer, after_buffer, all_taken}
use Rattle.frames.proofs.frame.write_buffers.Goals as goal

pub write_buffer-requires-clause-room : goal.write_buffer-requires-clause-room
write_buffer-requires-clause-room g c =
    let cost = g.S.IpcMessageSink.cost in
    let al = c.args.alignment in
    let es = c.args.buffers.now in
    let ss = c.args.sources.now in
    let i = c.loop-entry.entry-index in
    let b = bytes_named ss.recording.now ss.work.now (get_or es i blank) in
    let first = g.S.IpcMessageSink.meaning c.args.sink.now in
    let m = g.S.IpcMessageSink.meaning c.loop-entry.sink in
    let P : List (List ℕ) → Type 0 = λ bs. BuffersLeft cost al (named ss es) bs first m in
    let room = room_for_buffer cost al (named ss es) b (named ss (drop (i + 1) es)) first m (subst P (named_next ss i es blank (omega arith)) c.loop-entry.invariant.left) in
    let bytes : c.bytes-bytes.result.now ≡ b = search rules in
    let pad : c.pad_to_alignment-padding.result ≡ padding al (length b) = c.pad_to_alignment-padding.ensures.value ∙ ap (λ (xs : List ℕ). padding al (length xs)) bytes in
    let Q : List ℕ → ℕ → Type 0 = λ xs p. has_room cost (length (xs ++ zeros p)) (length (length xs ∷ piece_unless_empty p)) m ≡ true in
    subst₂ Q (sym bytes) (sym pad) room

pub loop-entry-preserved : goal.loop-entry-preserved
loop-entry-preserved g c =
    let cost = g.S.IpcMessageSink.cost in
    let al = c.args.alignment in
    let es = c.args.buffers.now in
    let ss = c.args.sources.now in
    let i = c.loop-entry.entry-index in
    let b = bytes_named ss.recording.now ss.work.now (get_or es i blank) in
    let first = g.S.IpcMessageSink.meaning c.args.sink.now in
    let m = g.S.IpcMessageSink.meaning c.loop-entry.sink in
    let after = g.S.IpcMessageSink.meaning c.write_buffer.new.sink in
    let P : List (List ℕ) → Type 0 = λ bs. BuffersLeft cost al (named ss es) bs first m in
    let left = subst P (named_next ss i es blank (omega arith)) c.loop-entry.invariant.left in
    let bytes : c.bytes-bytes.result.now ≡ b = search rules in
    let pad : c.pad_to_alignment-padding.result ≡ padding al (length b) = c.pad_to_alignment-padding.ensures.value ∙ ap (λ (xs : List ℕ). padding al (length xs)) bytes in
    let Q : List ℕ → ℕ → Type 0 = λ xs p. after ≡ with_pieces cost (xs ++ zeros p) (length xs ∷ piece_unless_empty p) m in
    record { left = after_buffer cost al (named ss es) b (named ss (drop (i + 1) es)) first m left after (subst₂ Q bytes pad c.write_buffer.ensures.taken.taken); memories = c.write_buffer.ensures.memories ∙ c.loop-entry.invariant.memories }

pub returns-clause-taken : goal.returns-clause-taken
returns-clause-taken g c =
    let cost = g.S.IpcMessageSink.cost in
    let al = c.args.alignment in
    let es = c.args.buffers.now in
    let ss = c.args.sources.now in
    let i = c.loop-entry.entry-index in
    let first = g.S.IpcMessageSink.meaning c.args.sink.now in
    let m = g.S.IpcMessageSink.meaning c.loop-entry.sink in
    let none : named ss (drop i es) ≡ [] = ap (named ss) (drop_all i es (omega arith)) in
    let P : List (List ℕ) → Type 0 = λ bs. BuffersLeft cost al (named ss es) bs first m in
    record { answered = refl; taken = all_taken cost al (named ss es) first m (subst P none c.loop-entry.invariant.left) }
