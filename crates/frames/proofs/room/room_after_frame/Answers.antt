use Rattle.std.proofs.Common.{◌≡◌, ℕ, length, sym, ◌∙◌, ap, refl, Some, None, rules}
use mir.Val.{bool_byte}
use Rattle.std.specs.Prelude.{nat_lt}
use Rattle.layout.specs.Lists.{lengths}
use Rattle.layout.specs.Messages.{body}
use Rattle.frames.specs.Frames.{named, body_pieces}
use Rattle.frames.specs.Sinks.{then_after}
use Rattle.frames.proofs.Rooms.{after_header}
use Rattle.frames.proofs.room.room_after_frame.Goals as goal

pub returns-in_err-left : goal.returns-in_err-left
returns-in_err-left c =
    let bs = named c.args.sources.now c.args.buffers.now in
    let whole = after_header c.args.cost c.args.alignment c.args.metadata_len _ _ _ _ bs c.args.room c.after.result c.new-layout.ensures.header c.from.ensures (c.from-2.ensures ∙ ap (λ (p : ℕ). bool_byte (nat_lt 0 p)) c.new-layout.ensures.padding) refl c.after.ensures in
    let none : c.after.result ≡ None = search rules in
    let answer : c.from_residual.result ≡ None = search rules in
    answer ∙ sym (ap (then_after c.args.cost (length (body c.args.alignment bs)) (length (body_pieces c.args.alignment (lengths bs)))) none) ∙ whole

pub returns : goal.returns
returns c =
    let bs = named c.args.sources.now c.args.buffers.now in
    let whole = after_header c.args.cost c.args.alignment c.args.metadata_len _ _ _ _ bs c.args.room c.after.result c.new-layout.ensures.header c.from.ensures (c.from-2.ensures ∙ ap (λ (p : ℕ). bool_byte (nat_lt 0 p)) c.new-layout.ensures.padding) refl c.after.ensures in
    let some : c.after.result ≡ Some c.in_ok-left.left = search rules in
    c.room_after_buffers.ensures ∙ sym (ap (then_after c.args.cost (length (body c.args.alignment bs)) (length (body_pieces c.args.alignment (lengths bs)))) some) ∙ whole
