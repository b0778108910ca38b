-- What is planned of messages, by what they show: the records, the entries, what is made, and how much memory they need.
use Rattle.std.proofs.Common.{◌≡◌, ℕ, suc, ◌+◌, ◌≤◌, List, [], ◌∷◌, ◌++◌, map, length, sym, refl, ap, ap₂, ◌∙◌, arith}
use Rattle.std.proofs.lemmas.List.{append_assoc, length-append, length-map, length-replicate, map-append}
use Rattle.layout.specs.Lists.{rows, join_all, lengths, total}
use Rattle.layout.specs.Messages as sent
use Rattle.layout.specs.Messages.{mark_bytes, offset_bytes, made, made_all, fields_all, buffers, buffers_all, body, body_of, padded, records, field_entries, buffer_entries, work_bytes}
use Rattle.layout.specs.Rows.{count_at}
use Rattle.layout.specs.Trees.{Tree, Forest, nulls, bools, fixed, bytes, lists, struct, dictionary, none, more, rows_of}
use Rattle.layout.specs.Windows.{Window, Inside, EachInside, tree_in, shown_in, shown_side, marks_at, shown, shown_all, passed_first, passed_count}
use Rattle.layout.proofs.Lists.{length_cut}
use Rattle.laws.proofs.Kept.{opened_at, tree_rows}
use Rattle.laws.proofs.Opened.{RowsAll, Opened, OpenedAll}
use Rattle.laws.proofs.Says.{passed, strings_fit}
use Rattle.recording.specs.declared.columns.Columns.{Columns}
use Rattle.dictionaries.specs.declared.update.MetDictionary.{MetDictionary}
use Rattle.columns.specs.declared.memory.Memory.{Memory}
use Rattle.columns.specs.Laws.{EachMessageInside}
use Rattle.columns.specs.Memories.{short_by, short_for}
use Rattle.columns.specs.Pieces as piece
use Rattle.columns.specs.Pieces.{Piece, lies, size_of, bytes_of, made_of, pieces, pieces_all, pieces_in, pieces_side, fields_side, work_of, body_size}
use Rattle.columns.specs.Plans as plan
use Rattle.columns.specs.Plans.{ToSend, messages_of, message_entry, message_fields, message_pieces, all_pieces, all_entries}
use Rattle.columns.specs.Telling.{Shows, shows, sent_as, field_read, buffer_read}
use Rattle.columns.proofs.Bodies.{columns_all}
use Rattle.columns.proofs.EachMessage.{HoldsOfEach, holds_of_messages}
use Rattle.columns.proofs.PieceBytes.{AllOf, Within, window_within, window_bytes}
use Rattle.columns.proofs.Sending.{work_of-append}
use Rattle.columns.proofs.Told.{side_read}
use Rattle.frames.specs.Frames.{framed, header_length}
use Rattle.runs.specs.Calls.{Entry, Setting, alignment}
use Rattle.runs.specs.Layers.{entry_read, lent_by}
use Rattle.runs.specs.Turns.{total_of, short, all_made, all_fields, all_buffers, entry, entries}

-- ---- what is made

joins : (xs ys : List (List ℕ)) → join_all (xs ++ ys) ≡ join_all xs ++ join_all ys
joins [] ys = refl
joins (x ∷ xs) ys = ap (λ (r : List ℕ). x ++ r) (joins xs ys) ∙ sym (append_assoc x (join_all xs) (join_all ys))

length-joined : (xs : List (List ℕ)) → length (join_all xs) ≡ total (lengths xs)
length-joined [] = refl
length-joined (x ∷ xs) = length-append x (join_all xs) ∙ ap (λ (n : ℕ). length x + n) (length-joined xs)

mutual
  unfolding pieces made shown

  made_are : (bs : List ℕ) (t : Tree) (a c : ℕ) → Opened bs t → a + c ≤ rows_of t → work_of (pieces bs t a c) ≡ join_all (made (shown bs t a c))
  made_are bs (nulls n) a c g l = refl
  made_are bs (bools n) a c g l = refl
  made_are bs (fixed n) a c g l = refl
  made_are bs (bytes w n) a c g l = ap (λ (cs : List ℕ). mark_bytes (marks_at bs n a c) ++ (offset_bytes w cs ++ [])) (sym (strings_fit bs w n g.3 g.2 a c l))
  made_are bs (lists w n t) a c g l =
      ap (λ (xs : List ℕ). mark_bytes (marks_at bs n a c) ++ (offset_bytes w (rows c (λ r. count_at bs w n (a + r))) ++ xs)) (made_are bs t (passed_first bs w n a c) (passed_count bs w n a c) g.1 (passed bs w n (rows_of t) g.0.2 a c l))
  made_are bs (struct n f) a c g l = ap (λ (xs : List ℕ). mark_bytes (marks_at bs n a c) ++ xs) (made_are_all bs f n.rows a c g.1 g.0.1 l)
  made_are bs (dictionary n t) a c g l = refl

  made_are_all : (bs : List ℕ) (f : Forest) (n a c : ℕ) → OpenedAll bs f → RowsAll f n → a + c ≤ n → work_of (pieces_all bs f a c) ≡ join_all (made_all (shown_all bs f a c))
  made_are_all bs none n a c g h l = refl
  made_are_all bs (more t f) n a c g h l =
      work_of-append (pieces bs t a c) (pieces_all bs f a c)
      ∙ ap₂ (λ (x y : List ℕ). x ++ y) (made_are bs t a c g.0 (omega (arith, h.0))) (made_are_all bs f n a c g.1 h.1 l)
      ∙ sym (joins (made (shown bs t a c)) (made_all (shown_all bs f a c)))

window_made : (w : Window) → Inside w → work_of (pieces_in w) ≡ join_all (made (shown_in w))
window_made w g = made_are w.bytes (tree_in w) w.first w.rows (opened_at w.nodes w.bytes g.opened w.node g.stands) (omega (arith, g.within, tree_rows w.nodes w.node))

side_made : (ws : List Window) → EachInside ws → work_of (pieces_side ws) ≡ join_all (made_all (shown_side ws))
unfolding made_all
side_made [] h = refl
side_made (w ∷ ws) h =
    work_of-append (pieces_in w) (pieces_side ws) ∙ ap₂ (λ (x y : List ℕ). x ++ y) (window_made w h.0) (side_made ws h.1) ∙ sym (joins (made (shown_in w)) (made_all (shown_side ws)))

pub work_is : (ms : List ToSend) → EachMessageInside ms → work_of (all_pieces ms) ≡ all_made (map shows ms)
work_is [] h = refl
work_is (m ∷ ms) h = work_of-append (message_pieces m) (all_pieces ms) ∙ ap₂ (λ (x y : List ℕ). x ++ y) (side_made m.columns h.0) (work_is ms h.1)

-- ---- how long the buffers are

sizes : (bs : List ℕ) (ps : List Piece) → Within bs ps → map size_of ps ≡ lengths (map (bytes_of bs) ps)
sizes bs [] h = refl
sizes bs (piece.made xs ∷ ps) h = ap (λ (ns : List ℕ). length xs ∷ ns) (sizes bs ps h)
sizes bs (lies p n ∷ ps) h = ap₂ (λ (k : ℕ) (ns : List ℕ). k ∷ ns) (sym (length_cut p n bs h.0)) (sizes bs ps h.1)

side_sizes : (ws : List Window) → EachInside ws → map size_of (pieces_side ws) ≡ lengths (buffers_all (shown_side ws))
unfolding buffers_all
side_sizes [] h = refl
side_sizes (w ∷ ws) h =
    map-append size_of (pieces_in w) (pieces_side ws)
    ∙ ap₂ (λ (x y : List ℕ). x ++ y) (sizes w.bytes (pieces_in w) (window_within w h.0) ∙ ap lengths (window_bytes w h.0)) (side_sizes ws h.1)
    ∙ sym (map-append length (buffers (shown_in w)) (buffers_all (shown_side ws)))

-- by their lengths alone: where each stands, and how long they are together
abbrev stand : ℕ → ℕ → List ℕ → List sent.BufferRecord
stand al at [] = []
stand al at (n ∷ ns) = record { offset = at; length = n } ∷ stand al (at + padded al n) ns

abbrev reach : ℕ → List ℕ → ℕ
reach al [] = 0
reach al (n ∷ ns) = padded al n + reach al ns

records_stand : (al at : ℕ) (bs : List (List ℕ)) → records al at bs ≡ stand al at (lengths bs)
records_stand al at [] = refl
records_stand al at (b ∷ bs) = ap (λ (rs : List sent.BufferRecord). record { offset = at; length = length b } ∷ rs) (records_stand al (at + padded al (length b)) bs)

entries_stand : (al at k : ℕ) (ps : List Piece) → map buffer_read (piece.entries al at k ps) ≡ stand al at (map size_of ps)
entries_stand al at k [] = refl
entries_stand al at k (p ∷ ps) = ap (λ (rs : List sent.BufferRecord). record { offset = at; length = size_of p } ∷ rs) (entries_stand al (at + padded al (size_of p)) (k + length (made_of p)) ps)

body_reaches : (al : ℕ) (bs : List (List ℕ)) → length (body al bs) ≡ reach al (lengths bs)
body_reaches al [] = refl
body_reaches al (b ∷ bs) = let rest = body_reaches al bs in simp (length-append, length-replicate) (ap (λ (n : ℕ). padded al (length b) + n) rest)

size_reaches : (al : ℕ) (ps : List Piece) → body_size al ps ≡ reach al (map size_of ps)
size_reaches al [] = refl
size_reaches al (p ∷ ps) = ap (λ (n : ℕ). padded al (size_of p) + n) (size_reaches al ps)

-- ---- of one message

module _ (m : ToSend) where
  fields_long : length (message_fields m) ≡ length (fields_all (shown_side m.columns))
  fields_long = sym (length-map (message_fields m) field_read) ∙ ap length (side_read m.columns)

  module _ (h : EachInside m.columns) where
    pieces_long : length (message_pieces m) ≡ length (buffers_all (shown_side m.columns))
    pieces_long = sym (length-map (message_pieces m) size_of) ∙ ap length (side_sizes m.columns h) ∙ length-map (buffers_all (shown_side m.columns)) length

    module _ (al : ℕ) where
      entries_read : (k : ℕ) → map buffer_read (piece.entries al 0 k (message_pieces m)) ≡ records al 0 (buffers_all (shown_side m.columns))
      entries_read k = entries_stand al 0 k (message_pieces m) ∙ ap (stand al 0) (side_sizes m.columns h) ∙ sym (records_stand al 0 (buffers_all (shown_side m.columns)))

      records_long : length (message_pieces m) ≡ length (records al 0 (buffers_all (shown_side m.columns)))
      records_long =
          sym (length-map (message_pieces m) size_of) ∙ stand_long 0 (map size_of (message_pieces m)) ∙ ap (λ (ns : List ℕ). length (stand al 0 ns)) (side_sizes m.columns h)
          ∙ ap length (sym (records_stand al 0 (buffers_all (shown_side m.columns))))
        where
          stand_long : (at : ℕ) (ns : List ℕ) → length ns ≡ length (stand al at ns)
          stand_long at [] = refl
          stand_long at (n ∷ ns) = ap suc (stand_long (at + padded al n) ns)

      body_long : body_size al (message_pieces m) ≡ length (body_of al (shown_side m.columns))
      body_long = size_reaches al (message_pieces m) ∙ ap (reach al) (side_sizes m.columns h) ∙ sym (body_reaches al (buffers_all (shown_side m.columns)))

      -- with any length of a header
      entry_is : (n : ℕ) → entry_read (record (message_entry al m) { lengths = (n, body_size al (message_pieces m)) }) ≡ entry n (sent_as al m)
      entry_is n = rw (fields_long, records_long, body_long) refl

-- ---- of all messages

pub fields_are : (al : ℕ) (ms : List ToSend) → map field_read (plan.all_fields ms) ≡ all_fields (map (sent_as al) ms)
fields_are al [] = refl
fields_are al (m ∷ ms) = map-append field_read (message_fields m) (plan.all_fields ms) ∙ ap₂ (λ (x y : List sent.FieldRecord). x ++ y) (side_read m.columns) (fields_are al ms)

buffers_from : (al k : ℕ) (ms : List ToSend) → EachMessageInside ms → map buffer_read (all_entries al k ms) ≡ all_buffers (map (sent_as al) ms)
buffers_from al k [] h = refl
buffers_from al k (m ∷ ms) h =
    let after = k + length (work_of (message_pieces m)) in
    map-append buffer_read (piece.entries al 0 k (message_pieces m)) (all_entries al after ms) ∙ ap₂ (λ (x y : List sent.BufferRecord). x ++ y) (entries_read m h.0 al k) (buffers_from al after ms h.1)

pub buffers_are : (al : ℕ) (ms : List ToSend) → EachMessageInside ms → map buffer_read (all_entries al 0 ms) ≡ all_buffers (map (sent_as al) ms)
buffers_are al ms h = buffers_from al 0 ms h

pub messages_are : (al : ℕ) (ms : List ToSend) → EachMessageInside ms → map entry_read (map (message_entry al) ms) ≡ map (entry 0) (map (sent_as al) ms)
messages_are al [] h = refl
messages_are al (m ∷ ms) h = ap₂ (λ (x : Entry) (xs : List Entry). x ∷ xs) (entry_is m h.0 al 0) (messages_are al ms h.1)

pub framed_are : (e : Setting) (o : ℕ) (ms : List ToSend) → EachMessageInside ms
    → map entry_read (framed (alignment e) e.form o (map (sent_as (alignment e)) ms) (map (message_entry (alignment e)) ms)) ≡ entries e o (map (sent_as (alignment e)) ms)
framed_are e o [] h = refl
framed_are e o (m ∷ ms) h =
    ap₂ (λ (x : Entry) (xs : List Entry). x ∷ xs) (entry_is m h.0 (alignment e) (header_length (alignment e) (length (e.form o (sent_as (alignment e) m).message)))) (framed_are e (o + 1) ms h.1)

-- ---- how much memory they need

all_fields_need : (ms : List ToSend) → length (plan.all_fields ms) ≡ total_of field_entries (map shows ms)
all_fields_need [] = refl
all_fields_need (m ∷ ms) = length-append (message_fields m) (plan.all_fields ms) ∙ ap₂ (λ (x y : ℕ). x + y) (fields_long m) (all_fields_need ms)

all_buffers_need : (ms : List ToSend) → EachMessageInside ms → length (all_pieces ms) ≡ total_of buffer_entries (map shows ms)
all_buffers_need [] h = refl
all_buffers_need (m ∷ ms) h = length-append (message_pieces m) (all_pieces ms) ∙ ap₂ (λ (x y : ℕ). x + y) (pieces_long m h.0) (all_buffers_need ms h.1)

all_work_need : (ms : List ToSend) → EachMessageInside ms → length (work_of (all_pieces ms)) ≡ total_of work_bytes (map shows ms)
all_work_need [] h = refl
all_work_need (m ∷ ms) h =
    ap length (work_of-append (message_pieces m) (all_pieces ms)) ∙ length-append (work_of (message_pieces m)) (work_of (all_pieces ms))
    ∙ ap₂ (λ (x y : ℕ). x + y) (ap length (side_made m.columns h.0) ∙ length-joined (made_all (shown_side m.columns))) (all_work_need ms h.1)

pub short_is : (ms : List ToSend) (m : Memory) → EachMessageInside ms → short_for ms m ≡ short (lent_by m) (map shows ms)
short_is ms m h =
    let ss : List Shows = map shows ms in
    rw (all_fields_need ms, all_buffers_need ms h, all_work_need ms h)
    (ap (λ (n : ℕ). short_by (total_of field_entries ss) (total_of buffer_entries ss) n (total_of work_bytes ss) m) (sym (length-map ms shows)))

-- ---- they are inside

both_inside : (ms ns : List ToSend) → EachMessageInside ms → EachMessageInside ns → EachMessageInside (ms ++ ns)
both_inside [] ns g h = h
both_inside (m ∷ ms) ns g h = (g.0, both_inside ms ns g.1 h)

windows_inside : (bs : List ℕ) (ws : List Window) → AllOf bs ws → EachInside ws
windows_inside bs [] h = tt
windows_inside bs (w ∷ ws) h = (h.0, windows_inside bs ws h.2)

pub each_message_inside : (c : Columns) (ms : List MetDictionary) → EachMessageInside (messages_of c ms)
each_message_inside c ms =
    let each : HoldsOfEach c.recording EachMessageInside = record { none = tt; both = both_inside; one = λ d g. ((g, tt), tt) } in
    holds_of_messages c ms EachMessageInside each (windows_inside _ _ (columns_all c), tt)
