use Rattle.std.proofs.Common.{◌≡◌, ℕ, ◌+◌, List, ◌∷◌, length, drop, get_or, sym, ◌∙◌, ap, subst, subst₂, Some, None, arith, rules}
use Rattle.layout.specs.Messages.{padding}
use Rattle.columns.specs.Telling.{bytes_named}
use Rattle.frames.specs.Frames.{named}
use Rattle.frames.specs.Sinks.{room_after, piece_unless_empty}
use Rattle.frames.proofs.Framing.{blank, named_next}
use Rattle.frames.proofs.Rooms.{RoomLeft, room_next, no_room_next}
use Rattle.frames.proofs.room.room_after_buffers.Goals as goal

pub returns-in_err-left : goal.returns-in_err-left
returns-in_err-left c =
    let cost = c.args.cost in
    let al = c.args.alignment in
    let es = c.args.buffers.now in
    let ss = c.args.sources.now in
    let i = c.loop-entry.entry-index in
    let b = bytes_named ss.recording.now ss.work.now (get_or es i blank) in
    let P : List (List ℕ) → Type 0 = λ bs. RoomLeft cost al (named ss es) bs c.args.room c.loop-entry.left in
    let left = subst P (named_next ss i es blank (omega arith)) c.loop-entry.invariant in
    let bytes : c.bytes.result.now ≡ b = search rules in
    let pad : c.pad_to_alignment.result ≡ padding al (length b) = c.pad_to_alignment.ensures.value ∙ ap (λ (xs : List ℕ). padding al (length xs)) bytes in
    let Q : List ℕ → ℕ → Type 0 = λ xs p. c.after_buffer.result ≡ room_after cost (length xs + p) (length (length xs ∷ piece_unless_empty p)) c.loop-entry.left in
    let step = subst₂ Q bytes pad c.after_buffer.ensures in
    let none : c.after_buffer.result ≡ None = search rules in
    let answer : c.from_residual.result ≡ None = search rules in
    answer ∙ sym (no_room_next cost al (named ss es) b (named ss (drop (i + 1) es)) c.args.room c.loop-entry.left left (sym step ∙ none))

pub loop-entry-preserved : goal.loop-entry-preserved
loop-entry-preserved c =
    let cost = c.args.cost in
    let al = c.args.alignment in
    let es = c.args.buffers.now in
    let ss = c.args.sources.now in
    let i = c.loop-entry.entry-index in
    let b = bytes_named ss.recording.now ss.work.now (get_or es i blank) in
    let P : List (List ℕ) → Type 0 = λ bs. RoomLeft cost al (named ss es) bs c.args.room c.loop-entry.left in
    let left = subst P (named_next ss i es blank (omega arith)) c.loop-entry.invariant in
    let bytes : c.bytes.result.now ≡ b = search rules in
    let pad : c.pad_to_alignment.result ≡ padding al (length b) = c.pad_to_alignment.ensures.value ∙ ap (λ (xs : List ℕ). padding al (length xs)) bytes in
    let Q : List ℕ → ℕ → Type 0 = λ xs p. c.after_buffer.result ≡ room_after cost (length xs + p) (length (length xs ∷ piece_unless_empty p)) c.loop-entry.left in
    let step = subst₂ Q bytes pad c.after_buffer.ensures in
    let some : c.after_buffer.result ≡ Some c.in_ok-left.left = search rules in
    room_next cost al (named ss es) b (named ss (drop (i + 1) es)) c.args.room c.loop-entry.left left c.in_ok-left.left (sym step ∙ some)
