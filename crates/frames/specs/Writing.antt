-- Messages as a form is told them, and what is free after their frames.
use Rattle.std.specs.Prelude.{◌≡◌, ℕ, true, false, List, ◌++◌, length, Ok, Err, Result, Option}
use Rattle.layout.specs.declared.fault.Fault.{Fault}
use Rattle.layout.specs.declared.fault.Refusal.TheVariants as refused
use Rattle.layout.specs.Faults.{fault_of}
use Rattle.layout.specs.Lists.{lengths}
use Rattle.layout.specs.Messages.{body}
use Rattle.columns.specs.declared.message.Message.{Message}
use Rattle.columns.specs.declared.reader.Records.{Records}
use Rattle.columns.specs.declared.reader.Sources.{Sources}
use Rattle.columns.specs.Telling.{Told, told_all}
use Rattle.frames.specs.declared.form.Description.{Description}
use Rattle.frames.specs.declared.room.Room.{Room}
use Rattle.frames.specs.Frames.{FormBytes, header, header_pieces, body_pieces, has_headers, frames, pieces}
use Rattle.frames.specs.Sinks.{room_after}

abbrev pub description_of : Message → Records → Description
description_of m r = record { kind = m.kind; id = m.id; rows = m.rows; body_len = m.lengths.1; fields = r.fields; buffers = r.buffers }

-- what messages with these records tell
abbrev pub messages_told : Sources → Records → List Message → List Told
messages_told s r ms = told_all s.recording.now s.work.now r.fields.now r.buffers.now ms

-- the frame of a message with these buffers, and its pieces
abbrev pub message_frame : ℕ → List ℕ → List (List ℕ) → List ℕ
message_frame al md bs = header al md ++ body al bs

abbrev pub message_pieces : ℕ → List ℕ → List (List ℕ) → List ℕ
message_pieces al md bs = header_pieces al (length md) ++ body_pieces al (lengths bs)

-- where the form has a header for each, what is free after their frames
abbrev pub IsRoomAfter : ℕ → ℕ → FormBytes → ℕ → List Told → Room → Result (Option Room) Fault → Type 0
IsRoomAfter cost al form o ts room (Ok left) = (has_headers form o ts ≡ true) × (left ≡ room_after cost (length (frames al form o ts)) (length (pieces al form o ts)) room)
IsRoomAfter cost al form o ts room (Err f) = (has_headers form o ts ≡ false) × (f ≡ fault_of refused.Header 0 0)
