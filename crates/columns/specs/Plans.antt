-- The messages of a batch, and what is planned of them.
use Rattle.std.specs.Prelude.{◌≡◌, ℕ, ◌+◌, ◌^◌, ◌<◌, ◌≤◌, Bool, cond, ◌&&◌, List, [], ◌∷◌, ◌++◌, map, length, Some, None, Option, nat_lt, nat_le}
use Rattle.layout.specs.Windows as layout
use Rattle.recording.specs.declared.columns.Columns.{Columns}
use Rattle.recording.specs.declared.recording.Recording.{Recording}
use Rattle.recording.specs.View.{nodes_in, node_of}
use Rattle.recording.specs.Windows.{window_at, window_in}
use Rattle.dictionaries.specs.declared.update.DictionaryToEncode.{DictionaryToEncode}
use Rattle.dictionaries.specs.declared.update.MetDictionary.{MetDictionary}
use Rattle.dictionaries.specs.Batches.{column_windows}
use Rattle.dictionaries.specs.Sending.{encoded_by}
use Rattle.columns.specs.declared.message.Message.{Message}
use Rattle.columns.specs.declared.message.MessageKind.{MessageKind}
use Rattle.columns.specs.declared.message.MessageKind.TheVariants.{Batch, Dictionary, Delta}
use Rattle.columns.specs.declared.plan.DictionaryMessage.{DictionaryMessage}
use Rattle.columns.specs.declared.record.BufferEntry.{BufferEntry}
use Rattle.columns.specs.declared.record.FieldRecord.{FieldRecord}
use Rattle.columns.specs.declared.writer.IpcMessageWriter.{IpcMessageWriter}
use Rattle.columns.specs.Lists.{Lent, Grows}
use Rattle.columns.specs.Writing.{lent_nodes, lent_buffers, lent_work}
use Rattle.columns.specs.Pieces.{Piece, work_of, body_size, entries, fields_side, pieces_side}

-- ---- the messages

-- what a message is, and the windows of its columns
pub record ToSend : Type 0 where
  pub kind : MessageKind
  pub id : ℕ
  pub rows : ℕ
  pub columns : List layout.Window

abbrev pub dictionary_kind : DictionaryToEncode → MessageKind
dictionary_kind d = cond d.is_delta Delta Dictionary

abbrev pub dictionary_message : DictionaryToEncode → layout.Window → ToSend
dictionary_message d w = record { kind = dictionary_kind d; id = d.id; rows = d.rows; columns = w ∷ [] }

abbrev pub batch_message : Columns → ToSend
batch_message c = record { kind = Batch; id = 0; rows = c.rows; columns = column_windows c }

-- the recording has the rows that are sent
abbrev pub has_rows : Recording → DictionaryToEncode → Bool
has_rows rec d = nat_lt d.node (length (nodes_in rec)) && nat_le (d.first + d.rows) (node_of rec d.node).rows

abbrev pub sent_by : Recording → Option DictionaryToEncode → List ToSend
sent_by rec None = []
sent_by rec (Some d) = cond (has_rows rec d) (dictionary_message d (window_at rec d.node d.first d.rows) ∷ []) []

-- what is sent of a dictionary under an id
abbrev pub sent_of : Recording → ℕ → MetDictionary → List ToSend
sent_of rec id m = sent_by rec (encoded_by id m m.update)

abbrev pub message_as : DictionaryMessage → ToSend
message_as m = dictionary_message m.sent (window_in m.window)

abbrev pub IsSent : Recording → ℕ → MetDictionary → Option DictionaryMessage → Type 0
IsSent rec id m None = sent_of rec id m ≡ []
IsSent rec id m (Some s) = sent_of rec id m ≡ message_as s ∷ []

-- of dictionaries that are met under the ids from one on
abbrev pub all_sent : Recording → ℕ → List MetDictionary → List ToSend
all_sent rec id [] = []
all_sent rec id (m ∷ ms) = sent_of rec id m ++ all_sent rec (id + 1) ms

-- the dictionaries in the order met, and then the batch
abbrev pub messages_of : Columns → List MetDictionary → List ToSend
messages_of c ms = all_sent c.recording 0 ms ++ batch_message c ∷ []

-- ---- what is planned of them

abbrev pub message_fields : ToSend → List FieldRecord
message_fields m = fields_side m.columns

abbrev pub message_pieces : ToSend → List Piece
message_pieces m = pieces_side m.columns

abbrev pub message_entry : ℕ → ToSend → Message
message_entry al m =
    record { kind = m.kind; id = m.id; rows = m.rows; fields = length (message_fields m); buffers = length (message_pieces m); lengths = (0, body_size al (message_pieces m)) }

abbrev pub all_fields : List ToSend → List FieldRecord
all_fields [] = []
all_fields (m ∷ ms) = message_fields m ++ all_fields ms

abbrev pub all_pieces : List ToSend → List Piece
all_pieces [] = []
all_pieces (m ∷ ms) = message_pieces m ++ all_pieces ms

-- each message's body begins at 0, and the work memory goes on
abbrev pub all_entries : ℕ → ℕ → List ToSend → List BufferEntry
all_entries al work [] = []
all_entries al work (m ∷ ms) = entries al 0 work (message_pieces m) ++ all_entries al (work + length (work_of (message_pieces m))) ms

pub record MessagesSent (ms : List ToSend) (before after : IpcMessageWriter) (from to : Lent Message) : Type 0 where
  pub nodes : Grows (lent_nodes before) (lent_nodes after) (all_fields ms)
  pub buffers : Grows (lent_buffers before) (lent_buffers after) (all_entries before.alignment (lent_work before).len ms)
  pub work : Grows (lent_work before) (lent_work after) (work_of (all_pieces ms))
  pub messages : Grows from to (map (message_entry before.alignment) ms)
  pub alignment : after.alignment ≡ before.alignment

-- 63 bits hold the length of each body
abbrev pub BodiesFit : ℕ → List ToSend → Type 0
BodiesFit al [] = Unit {0}
BodiesFit al (m ∷ ms) = (body_size al (message_pieces m) < 2 ^ 63) × BodiesFit al ms

pub record RoomForMessages (ms : List ToSend) (w : IpcMessageWriter) (l : Lent Message) : Type 0 where
  pub nodes : (lent_nodes w).len + length (all_fields ms) ≤ length (lent_nodes w).memory
  pub buffers : (lent_buffers w).len + length (all_pieces ms) ≤ length (lent_buffers w).memory
  pub work : (lent_work w).len + length (work_of (all_pieces ms)) ≤ length (lent_work w).memory
  pub messages : l.len + length ms ≤ length l.memory
  pub bodies : BodiesFit w.alignment ms
  pub aligned : 0 < w.alignment
