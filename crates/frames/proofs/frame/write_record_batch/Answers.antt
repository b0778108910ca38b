use Rattle.std.proofs.Common.{◌≡◌, ℕ, length, ◌∙◌, ap, Ok}
use Rattle.layout.specs.Lists.{lengths}
use Rattle.layout.specs.Messages.{body}
use Rattle.frames.specs.Frames.{named, header, header_length, header_pieces, body_pieces}
use Rattle.frames.specs.Sinks.{has_room, with_pieces}
use Rattle.frames.proofs.Sinks.{room_first, room_then, taken_twice}
use Rattle.frames.proofs.frame.write_record_batch.Goals as goal

pub write_header-requires-clause-room : goal.write_header-requires-clause-room
write_header-requires-clause-room g c =
    let al = c.args.alignment in
    let md = c.args.metadata.now in
    let bs = named c.args.sources.now c.args.buffers.now in
    room_first g.S.IpcMessageSink.cost (header al md) (body al bs) (header_pieces al (length md)) (body_pieces al (lengths bs)) (g.S.IpcMessageSink.meaning c.args.sink.now) c.requires.room

pub write_buffers-requires-clause-room : goal.write_buffers-requires-clause-room
write_buffers-requires-clause-room g c =
    let cost = g.S.IpcMessageSink.cost in
    let al = c.args.alignment in
    let md = c.args.metadata.now in
    let bs = named c.args.sources.now c.args.buffers.now in
    ap (has_room cost (length (body al bs)) (length (body_pieces al (lengths bs)))) c.write_header.ensures.taken.taken
    ∙ room_then cost (header al md) (body al bs) (header_pieces al (length md)) (body_pieces al (lengths bs)) (g.S.IpcMessageSink.meaning c.args.sink.now) c.requires.room

pub returns-clause-taken : goal.returns-clause-taken
returns-clause-taken g c =
    let cost = g.S.IpcMessageSink.cost in
    let al = c.args.alignment in
    let md = c.args.metadata.now in
    let bs = named c.args.sources.now c.args.buffers.now in
    let both = c.write_buffers.ensures.taken.taken ∙ ap (with_pieces cost (body al bs) (body_pieces al (lengths bs))) c.write_header.ensures.taken.taken
    ∙ taken_twice cost (header al md) (body al bs) (header_pieces al (length md)) (body_pieces al (lengths bs)) (g.S.IpcMessageSink.meaning c.args.sink.now) in
    let was = c.in_ok-header_len.was in
    let told = c.write_header.ensures.taken.answered in
    let long : c.in_ok-header_len.header_len ≡ header_length al (length md) = cc (was, told) in
    record { answered = ap (λ (n : ℕ). Ok (n, c.args.body_len)) long; taken = both }
