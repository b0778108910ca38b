-- What the frames of a batch come to: the memories, and the sink.
use Rattle.std.specs.Prelude.{◌≡◌, ℕ, ◌⊎◌, true, false, List, map, length, None, Ok, Err, Result}
use Rattle.layout.specs.declared.fault.Fault.{Fault}
use Rattle.layout.specs.declared.fault.Refusal.TheVariants as refused
use Rattle.layout.specs.Faults.{fault_of}
use Rattle.columns.specs.declared.memory.Memory.{Memory}
use Rattle.columns.specs.declared.message.Message.{Message}
use Rattle.columns.specs.Lists.{over}
use Rattle.columns.specs.Memories.{short_for, Planned, Refused}
use Rattle.columns.specs.Pieces.{work_of}
use Rattle.columns.specs.Plans.{ToSend, all_fields, all_pieces, all_entries, message_entry}
use Rattle.columns.specs.Telling.{Told, sent_as}
use Rattle.frames.specs.Frames.{FormBytes, has_headers, frames, pieces, framed, with_headers}
use Rattle.frames.specs.Sinks.{SinkMeaning, has_room, with_pieces}

-- ---- messages that stand in memory

-- the form has a header for each, and the sink takes their frames
pub record Goes (cost al : ℕ) (form : FormBytes) (o : ℕ) (ts : List Told) (before after : List Message) (metadata_before metadata_after : List ℕ) (sink_before sink_after : SinkMeaning) : Type 0 where
  pub headed : has_headers form o ts ≡ true
  pub room : has_room cost (length (frames al form o ts)) (length (pieces al form o ts)) sink_before ≡ true
  pub messages : after ≡ framed al form o ts before
  pub metadata : metadata_after ≡ with_headers form o ts metadata_before
  pub taken : sink_after ≡ with_pieces cost (frames al form o ts) (pieces al form o ts) sink_before

-- it has none for one of them, or else the sink has too little room
abbrev pub StaysFor : ℕ → ℕ → FormBytes → ℕ → List Told → SinkMeaning → Fault → Type 0
StaysFor cost al form o ts sink f =
    ((has_headers form o ts ≡ false) × (f ≡ fault_of refused.Header 0 0))
    ⊎ ((has_headers form o ts ≡ true) × (has_room cost (length (frames al form o ts)) (length (pieces al form o ts)) sink ≡ false) × (f ≡ fault_of refused.Sink 0 0))

-- ---- a batch with its dictionaries

-- what they send
abbrev pub sent_all : ℕ → List ToSend → List Told
sent_all al ms = map (sent_as al) ms

-- the memories hold what is planned, with the length of each header; each header was put at the front of the metadata memory;
-- and the sink took the frames
pub record Written (cost al : ℕ) (form : FormBytes) (o : ℕ) (ms : List ToSend) (before after : Memory) (sink_before sink_after : SinkMeaning) (n : ℕ) : Type 0 where
  pub count : n ≡ length ms
  pub enough : short_for ms before ≡ None
  pub headed : has_headers form o (sent_all al ms) ≡ true
  pub room : has_room cost (length (frames al form o (sent_all al ms))) (length (pieces al form o (sent_all al ms))) sink_before ≡ true
  pub fields : after.fields.now ≡ over before.fields.now 0 (all_fields ms)
  pub buffers : after.buffers.now ≡ over before.buffers.now 0 (all_entries al 0 ms)
  pub messages : after.messages.now ≡ over before.messages.now 0 (framed al form o (sent_all al ms) (map (message_entry al) ms))
  pub work : after.work.now ≡ over before.work.now 0 (work_of (all_pieces ms))
  pub metadata : after.metadata.now ≡ with_headers form o (sent_all al ms) before.metadata.now
  pub taken : sink_after ≡ with_pieces cost (frames al form o (sent_all al ms)) (pieces al form o (sent_all al ms)) sink_before
  pub same_fields : after.fields.ghost_name ≡ before.fields.ghost_name
  pub same_buffers : after.buffers.ghost_name ≡ before.buffers.ghost_name
  pub same_messages : after.messages.ghost_name ≡ before.messages.ghost_name
  pub same_work : after.work.ghost_name ≡ before.work.ghost_name
  pub same_metadata : after.metadata.ghost_name ≡ before.metadata.ghost_name

-- a memory is too short, and nothing changes; or what is planned stays in the memories, with no header's length
abbrev pub Unwritten : ℕ → ℕ → FormBytes → ℕ → List ToSend → Memory → Memory → SinkMeaning → Fault → Type 0
Unwritten cost al form o ms before after sink f = Refused ms before after f ⊎ (Planned al ms before after (length ms) × StaysFor cost al form o (sent_all al ms) sink f)

abbrev pub WriteAnswer : ℕ → ℕ → FormBytes → ℕ → List ToSend → Memory → Memory → SinkMeaning → SinkMeaning → Result ℕ Fault → Type 0
WriteAnswer cost al form o ms before after sink_before sink_after (Ok n) = Written cost al form o ms before after sink_before sink_after n
WriteAnswer cost al form o ms before after sink_before sink_after (Err f) = Unwritten cost al form o ms before after sink_before f
