-- What the layers below a stream say of a batch is what its turn says.
use Rattle.std.specs.Prelude.{◌≡◌, ℕ, ◌≤◌, List, map, length, Option, Ok, Err}
use Rattle.layout.specs.declared.fault.Fault.{Fault}
use Rattle.layout.specs.declared.fault.Refusal.TheVariants as refused
use Rattle.layout.specs.Faults.{fault_of}
use Rattle.layout.specs.Shown.{Shown}
use Rattle.layout.specs.Windows.{shown_side}
use Rattle.recording.specs.declared.columns.Columns.{Columns}
use Rattle.recording.specs.declared.options.IpcWriteOptions.{IpcWriteOptions}
use Rattle.recording.specs.declared.recording.Recording.{Recording}
use Rattle.recording.specs.ColumnPlaces.{ColumnsFound}
use Rattle.recording.specs.View.{nodes_in, bytes_in}
use Rattle.dictionaries.specs.Batches.{AreMet, column_windows, met_in_batch}
use Rattle.dictionaries.specs.Walking.{updates_in}
use Rattle.dictionaries.specs.declared.update.DictionaryValues.{DictionaryValues}
use Rattle.dictionaries.specs.declared.update.MetDictionary.{MetDictionary}
use Rattle.columns.specs.Laws.{EachMessageInside}
use Rattle.columns.specs.Memories.{short_for}
use Rattle.columns.specs.Pieces.{work_of}
use Rattle.columns.specs.Plans as plan
use Rattle.columns.specs.Plans.{ToSend, messages_of, message_entry, all_pieces, all_entries}
use Rattle.columns.specs.Telling.{kind_read, field_read, buffer_read, shows, sent_as}
use Rattle.columns.specs.declared.memory.Memory.{Memory}
use Rattle.columns.specs.declared.message.Message.{Message}
use Rattle.frames.specs.Frames.{framed}
use Rattle.runs.specs.Calls.{Lent, Entry, Setting, alignment}
use Rattle.runs.specs.Looks as look
use Rattle.runs.specs.Looks.{Look, Recorded, look, column_nodes, met_trees, later}
use Rattle.runs.specs.Turns.{all_sends, short, all_made, all_fields, all_buffers, entry, entries}

-- ---- what code has, as the definitions have it

abbrev pub recorded : Recording → Recorded
recorded rec = record { nodes = nodes_in rec; bytes = bytes_in rec }

abbrev pub later_in : Recording → ℕ → ℕ → ℕ → ℕ → Shown
later_in rec first count = later (bytes_in rec) (met_trees (nodes_in rec) (column_nodes (nodes_in rec) first count))

abbrev pub lent_by : Memory → Lent
lent_by m = record { fields = length m.fields.now; buffers = length m.buffers.now; messages = length m.messages.now; work = length m.work.now; metadata = length m.metadata.now }

abbrev pub entry_read : Message → Entry
entry_read m = record { kind = kind_read m.kind; id = m.id; rows = m.rows; fields = m.fields; buffers = m.buffers; lengths = record { header = m.lengths.0; body = m.lengths.1 } }

-- ---- they agree

pub record LayersAgree : Type 0 where
  -- columns that are found are those that the recording shows
  pub found : (rec : Recording) (first count n : ℕ) (c : Columns) → ColumnsFound rec first count n (Ok c) → look (recorded rec) first count n ≡ look.shows (shown_side (column_windows c)) (later_in rec first count)
  -- and where none are, though the rows are not too many, the recording lacks the one that is named
  pub lacked : (rec : Recording) (first count n : ℕ) (f : Fault) → n ≤ 2147483647 → ColumnsFound rec first count n (Err f)
      → (k : ℕ) × (look (recorded rec) first count n ≡ look.lacks k) × (f ≡ fault_of refused.Column k 0)
  -- the messages that are planned show what the batch sends
  pub sent : (rec : Recording) (first count n : ℕ) (c : Columns) (o : IpcWriteOptions) (ks : List (Option DictionaryValues)) (ms : List MetDictionary) → ColumnsFound rec first count n (Ok c) → AreMet o ks c ms
      → map shows (messages_of c ms) ≡ all_sends (later_in rec first count) (met_in_batch c) (updates_in ms) n (shown_side (column_windows c))
  -- their columns are windows that the recording has
  pub inside : (c : Columns) (ms : List MetDictionary) → EachMessageInside (messages_of c ms)
  -- the same memory is too short
  pub short : (ms : List ToSend) (m : Memory) → EachMessageInside ms → short_for ms m ≡ short (lent_by m) (map shows ms)
  -- the memories hold the same records, entries and work
  pub fields : (al : ℕ) (ms : List ToSend) → map field_read (plan.all_fields ms) ≡ all_fields (map (sent_as al) ms)
  pub buffers : (al : ℕ) (ms : List ToSend) → EachMessageInside ms → map buffer_read (all_entries al 0 ms) ≡ all_buffers (map (sent_as al) ms)
  pub messages : (al : ℕ) (ms : List ToSend) → EachMessageInside ms → map entry_read (map (message_entry al) ms) ≡ map (entry 0) (map (sent_as al) ms)
  pub framed_messages : (e : Setting) (o : ℕ) (ms : List ToSend) → EachMessageInside ms
      → map entry_read (framed (alignment e) e.form o (map (sent_as (alignment e)) ms) (map (message_entry (alignment e)) ms)) ≡ entries e o (map (sent_as (alignment e)) ms)
  pub work : (ms : List ToSend) → EachMessageInside ms → work_of (all_pieces ms) ≡ all_made (map shows ms)
