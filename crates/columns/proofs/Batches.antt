-- The messages of dictionaries, one after another.
use Rattle.std.proofs.Common.{◌≡◌, ℕ, zero, suc, ◌+◌, ◌<◌, ◌≤◌, List, [], ◌∷◌, ◌++◌, length, drop, get_or, sym, refl, ap, ◌∙◌, subst, arith}
use Rattle.std.proofs.lemmas.List.{append-nil}
use Rattle.layout.specs.Windows as layout
use Rattle.recording.specs.declared.recording.Recording.{Recording}
use Rattle.recording.specs.declared.columns.Columns.{Columns}
use Rattle.dictionaries.specs.Batches.{column_windows}
use Rattle.dictionaries.specs.declared.update.DictionaryToEncode.{DictionaryToEncode}
use Rattle.dictionaries.specs.declared.update.DictionaryUpdate.TheVariants as update
use Rattle.dictionaries.specs.declared.update.MetDictionary.{MetDictionary}
use Rattle.columns.specs.declared.message.Message.{Message}
use Rattle.columns.specs.declared.needs.Needs.{Needs}
use Rattle.columns.specs.declared.writer.IpcMessageWriter.{IpcMessageWriter}
use Rattle.columns.specs.Lists.{Lent}
use Rattle.columns.specs.Writing.{lent_nodes, lent_buffers, lent_work}
use Rattle.columns.specs.Needs.{Counts, added}
use Rattle.columns.specs.declared.record.FieldRecord.{FieldRecord}
use Rattle.columns.specs.Pieces.{Piece, work_of, fields_in, fields_side, pieces_in, pieces_side}
use Rattle.columns.specs.Plans.{ToSend, BodiesFit, messages_of, dictionary_message, batch_message, sent_of, all_sent, all_fields, all_pieces, MessagesSent, RoomForMessages}
use Rattle.columns.proofs.Counting.{nothing, Few, counts_none, counts_more}
use Rattle.columns.proofs.Planning.{messages_none, messages_more, messages_first, messages_next, all_fields-append, all_pieces-append, bodies_both}
use Rattle.columns.proofs.Bodies.{window_body, columns_body}
use Rattle.columns.proofs.EachMessage.{HoldsOfEach, holds_of_messages}

-- those from one id on are those of that id, and of the later ones
pub sent_next : (rec : Recording) (id i : ℕ) (ms : List MetDictionary) (d : MetDictionary) → i < length ms → all_sent rec id (drop i ms) ≡ sent_of rec id (get_or ms i d) ++ all_sent rec (id + 1) (drop (i + 1) ms)
sent_next rec id i [] d l = absurd (omega arith)
sent_next rec id zero (m ∷ ms) d l = refl
sent_next rec id (suc i) (m ∷ ms) d l =
    let after : suc (i + 1) ≡ suc i + 1 = omega arith in
    sent_next rec id i ms d (omega arith) ∙ ap (λ (k : ℕ). sent_of rec id (get_or ms i d) ++ all_sent rec (id + 1) (drop k (m ∷ ms))) after

-- what a read past the last would give
abbrev pub blank : MetDictionary
blank = record { column = 0; node = 0; values = record { node = 0; rows = 0 }; update = update.None }

-- ---- what is written

-- there is room for the messages that are left, and once they are written all are
pub record MessagesLeft (all left : List ToSend) (first now : IpcMessageWriter) (from to : Lent Message) : Type 0 where
  pub room : RoomForMessages left now to
  pub whole : (last : IpcMessageWriter) (end : Lent Message) → MessagesSent left now last to end → MessagesSent all first last from end

pub left_start : (ms : List ToSend) (a : IpcMessageWriter) (l : Lent Message) → RoomForMessages ms a l → MessagesLeft ms ms a a l l
left_start ms a l r = record { room = r; whole = λ last end s. s }

module _ (all left here rest : List ToSend) (first now : IpcMessageWriter) (from to : Lent Message) (e : left ≡ here ++ rest) (h : MessagesLeft all left first now from to) where
  as_parts : MessagesLeft all (here ++ rest) first now from to
  as_parts = subst (λ (ms : List ToSend). MessagesLeft all ms first now from to) e h

  pub here_room : RoomForMessages here now to
  here_room = messages_first here rest now now to to as_parts.room

  pub here_sent : (next : IpcMessageWriter) (end : Lent Message) → MessagesSent here now next to end → MessagesLeft all rest first next from end
  here_sent next end s = record {
    room = messages_next here rest now next to end as_parts.room s;
    whole = λ last last_end t. as_parts.whole last last_end (messages_more here rest now next to end s last last_end t);
  }

pub left_end : (all left : List ToSend) (first now : IpcMessageWriter) (from to : Lent Message) → left ≡ [] → MessagesLeft all left first now from to → MessagesSent all first now from to
left_end all left first now from to e h = (subst (λ (ms : List ToSend). MessagesLeft all ms first now from to) e h).whole now to (messages_none now to)

-- ---- what is counted

-- with the needs of the messages that are left they are those of all
pub record NeedsLeft (all left : List ToSend) (now : Needs) (count : ℕ) : Type 0 where
  pub few : Few now
  pub whole : (m : Needs) → Counts (all_fields left) (all_pieces left) m → Counts (all_fields all) (all_pieces all) (added now m)
  pub messages : count + length left ≡ length all

pub needs_start : (ms : List ToSend) → NeedsLeft ms ms nothing 0
needs_start ms = record {
  few = record { fields = omega arith; buffers = omega arith; work = omega arith };
  whole = λ m h. record { fields = omega (arith, h.fields); buffers = omega (arith, h.buffers); work = omega (arith, h.work) };
  messages = omega arith;
}

module _ (all left rest : List ToSend) (now : Needs) (count : ℕ) where
  -- where nothing is sent
  pub needs_same : (here : List ToSend) → left ≡ here ++ rest → here ≡ [] → NeedsLeft all left now count → NeedsLeft all rest now count
  needs_same here e z h = subst (λ (ms : List ToSend). NeedsLeft all ms now count) (e ∙ ap (λ (ms : List ToSend). ms ++ rest) z) h

  -- the message of a dictionary
  pub needs_next : (here : List ToSend) (d : DictionaryToEncode) (w : layout.Window) (n : Needs) → left ≡ here ++ rest → here ≡ dictionary_message d w ∷ [] → NeedsLeft all left now count
      → Counts (fields_in w) (pieces_in w) n → NeedsLeft all rest (added now n) (count + 1)
  needs_next here d w n e z h c =
      let g = subst (λ (ms : List ToSend). NeedsLeft all ms now count) (e ∙ ap (λ (ms : List ToSend). ms ++ rest) z) h in
      let alone =
      subst (λ (fs : List FieldRecord). Counts fs (pieces_side (w ∷ [])) n) (sym (append-nil (fields_in w)))
      (subst (λ (ps : List Piece). Counts (fields_in w) ps n) (sym (append-nil (pieces_in w))) c) in
      record {
        few = record { fields = omega arith; buffers = omega arith; work = omega arith };
        whole = λ m t.
            let all_of = g.whole (added n m) (counts_more (fields_side (w ∷ [])) (all_fields rest) (pieces_side (w ∷ [])) (all_pieces rest) n m alone t) in
            record { fields = omega (arith, all_of.fields); buffers = omega (arith, all_of.buffers); work = omega (arith, all_of.work) };
        messages = omega (arith, g.messages);
      }

pub needs_end : (all left : List ToSend) (now : Needs) (count : ℕ) → left ≡ [] → NeedsLeft all left now count → Counts (all_fields all) (all_pieces all) now × (count ≡ length all)
needs_end all left now count e h =
    let g = subst (λ (ms : List ToSend). NeedsLeft all ms now count) e h in
    let all_of = g.whole nothing counts_none in
    let f = g.few in
    (record { fields = omega (arith, all_of.fields, f.fields); buffers = omega (arith, all_of.buffers, f.buffers); work = omega (arith, all_of.work, f.work) }, omega (arith, g.messages))

-- ---- a batch after its dictionaries

pub batch_counted : (c : Columns) (ms : List ToSend) (m n whole : Needs) → whole ≡ added m n → Counts (all_fields ms) (all_pieces ms) m → Counts (fields_side (column_windows c)) (pieces_side (column_windows c)) n
    → Counts (all_fields (ms ++ batch_message c ∷ [])) (all_pieces (ms ++ batch_message c ∷ [])) whole
batch_counted c ms m n whole e a b =
    let fs = fields_side (column_windows c) in
    let ps = pieces_side (column_windows c) in
    let fields = all_fields-append ms (batch_message c ∷ []) ∙ ap (λ (x : List FieldRecord). all_fields ms ++ x) (append-nil fs) in
    let parts = all_pieces-append ms (batch_message c ∷ []) ∙ ap (λ (x : List Piece). all_pieces ms ++ x) (append-nil ps) in
    subst (λ (k : Needs). Counts (all_fields (ms ++ batch_message c ∷ [])) (all_pieces (ms ++ batch_message c ∷ [])) k) (sym e)
    (subst (λ (xs : List FieldRecord). Counts xs (all_pieces (ms ++ batch_message c ∷ [])) (added m n)) (sym fields)
    (subst (λ (xs : List Piece). Counts (all_fields ms ++ fs) xs (added m n)) (sym parts) (counts_more (all_fields ms) fs (all_pieces ms) ps m n a b)))

-- ---- 63 bits hold the length of each body

pub messages_fit : (c : Columns) (ms : List MetDictionary) (al : ℕ) → 0 < al → al ≤ 64 → BodiesFit al (messages_of c ms)
messages_fit c ms al some few =
    let each : HoldsOfEach c.recording (BodiesFit al) = record { none = tt; both = bodies_both al; one = λ d g. (window_body c.recording d.node d.first d.rows g al some few, tt) } in
    holds_of_messages c ms (BodiesFit al) each (columns_body c al some few, tt)

-- ---- a batch is written after its dictionaries

module _ (c : Columns) (ms : List MetDictionary) (rec : Recording) (e : rec ≡ c.recording) (w : IpcMessageWriter) (l : Lent Message) where
  abbrev pub sent : List ToSend
  sent = all_sent rec 0 ms

  abbrev pub batch : List ToSend
  batch = batch_message c ∷ []

  same : all_sent c.recording 0 ms ≡ sent
  same = ap (λ (r : Recording). all_sent r 0 ms) (sym e)

  -- the memories have room for all
  abbrev pub HasRoom : Type 0
  HasRoom = RoomForMessages (sent ++ batch) w l

  pub has_room : 0 < w.alignment → w.alignment ≤ 64 → (lent_nodes w).len + length (all_fields (messages_of c ms)) ≤ length (lent_nodes w).memory → (lent_buffers w).len + length (all_pieces (messages_of c ms)) ≤ length (lent_buffers w).memory
      → l.len + length (messages_of c ms) ≤ length l.memory → (lent_work w).len + length (work_of (all_pieces (messages_of c ms))) ≤ length (lent_work w).memory → HasRoom
  has_room some few fields buffers messages work =
      subst (λ (xs : List ToSend). RoomForMessages (xs ++ batch) w l) same
      record { nodes = fields; buffers = buffers; work = work; messages = messages; bodies = messages_fit c ms w.alignment some few; aligned = some }

  pub dictionaries_room : HasRoom → RoomForMessages sent w l
  dictionaries_room h = messages_first sent batch w w l l h

  pub batch_room : HasRoom → (next : IpcMessageWriter) (end : Lent Message) → MessagesSent sent w next l end → RoomForMessages batch next end
  batch_room h next end s = messages_next sent batch w next l end h s

  pub both_sent : (next last : IpcMessageWriter) (end last_end : Lent Message) → MessagesSent sent w next l end → MessagesSent batch next last end last_end → MessagesSent (messages_of c ms) w last l last_end
  both_sent next last end last_end s t =
      subst (λ (xs : List ToSend). MessagesSent (xs ++ batch) w last l last_end) (sym same) (messages_more sent batch w next l end s last last_end t)
