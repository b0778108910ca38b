-- What is written of a message into lent memory.
use Rattle.std.specs.Prelude.{◌≡◌, ℕ, ◌+◌, ◌^◌, ◌<◌, ◌≤◌, List, [], ◌∷◌, length, pos}
use Rattle.layout.specs.Messages.{padded}
use Rattle.columns.specs.declared.buffer.Buffer.{Buffer}
use Rattle.columns.specs.declared.record.BufferEntry.{BufferEntry}
use Rattle.columns.specs.declared.record.FieldRecord.{FieldRecord}
use Rattle.columns.specs.declared.writer.IpcMessageWriter.{IpcMessageWriter}
use Rattle.columns.specs.Lists.{Lent, Grows}
use Rattle.columns.specs.Pieces.{Piece, entries, work_of, body_size}

-- its lists
abbrev pub lent_nodes : IpcMessageWriter → Lent FieldRecord
lent_nodes w = record { memory = w.fields.now; name = w.fields.ghost_name; len = w.field_count }

abbrev pub lent_buffers : IpcMessageWriter → Lent BufferEntry
lent_buffers w = record { memory = w.buffers.now; name = w.buffers.ghost_name; len = w.buffer_count }

abbrev pub lent_work : IpcMessageWriter → Lent ℕ
lent_work w = record { memory = w.work.now; name = w.work.ghost_name; len = w.work_len }

-- these fields and buffers are written after those so far, and nothing else changes
pub record Sends (fs : List FieldRecord) (ps : List Piece) (before after : IpcMessageWriter) : Type 0 where
  pub nodes : Grows (lent_nodes before) (lent_nodes after) fs
  pub buffers : Grows (lent_buffers before) (lent_buffers after) (entries before.alignment before.offset (lent_work before).len ps)
  pub work : Grows (lent_work before) (lent_work after) (work_of ps)
  pub offset : after.offset ≡ before.offset + body_size before.alignment ps
  pub alignment : after.alignment ≡ before.alignment

-- there is room for them
pub record RoomFor (fs : List FieldRecord) (ps : List Piece) (w : IpcMessageWriter) : Type 0 where
  pub nodes : (lent_nodes w).len + length fs ≤ length (lent_nodes w).memory
  pub buffers : (lent_buffers w).len + length ps ≤ length (lent_buffers w).memory
  pub work : (lent_work w).len + length (work_of ps) ≤ length (lent_work w).memory
  pub body : w.offset + body_size w.alignment ps < 2 ^ 63
  pub aligned : 0 < w.alignment

-- ---- one buffer, whose bytes are there

pub record Encodes (before after : IpcMessageWriter) (b : Buffer) : Type 0 where
  pub nodes : Grows (lent_nodes before) (lent_nodes after) []
  pub buffers : Grows (lent_buffers before) (lent_buffers after) (record { buffer = record { offset = pos before.offset; length = pos b.len }; source = b.source } ∷ [])
  pub work : Grows (lent_work before) (lent_work after) []
  pub offset : after.offset ≡ before.offset + padded before.alignment b.len
  pub alignment : after.alignment ≡ before.alignment

pub record RoomToEncode (w : IpcMessageWriter) (b : Buffer) : Type 0 where
  pub buffers : (lent_buffers w).len < length (lent_buffers w).memory
  pub body : w.offset + padded w.alignment b.len < 2 ^ 63
  pub aligned : 0 < w.alignment
