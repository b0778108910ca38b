-- What is planned in lent memory tells what the definitions send.
use Rattle.std.proofs.Common.{◌≡◌, ℕ, ◌+◌, ◌≤◌, List, [], ◌∷◌, ◌++◌, map, length, take, drop, sym, refl, ap, ap₂, ◌∙◌, arith}
use Rattle.std.proofs.Math.Seq.{take-append_seam, drop-append_seam}
use Rattle.std.proofs.lemmas.List.{map-append, length-map, drop-drop, append_assoc}
use Rattle.layout.specs.Lists.{cut}
use Rattle.layout.specs.Messages as sent
use Rattle.layout.specs.Messages.{records, body, body_of, padded, fields, fields_all, buffers_all}
use Rattle.layout.specs.Windows as layout
use Rattle.layout.specs.Windows.{shown_in, shown_side, EachInside}
use Rattle.layout.proofs.Lists.{length_cut}
use Rattle.laws.proofs.Windows.{round_trip}
use Rattle.columns.specs.declared.message.Message.{Message}
use Rattle.columns.specs.declared.record.BufferEntry.{BufferEntry}
use Rattle.columns.specs.declared.record.FieldRecord.{FieldRecord}
use Rattle.columns.specs.Lists.{over}
use Rattle.columns.specs.Pieces as piece
use Rattle.columns.specs.Pieces.{Piece, lies, bytes_of, size_of, made_of, work_of, body_size, entries, field_record, fields_in, fields_side, pieces_side}
use Rattle.columns.specs.Plans.{ToSend, message_fields, message_pieces, message_entry, all_fields, all_pieces, all_entries}
use Rattle.columns.specs.Telling.{field_read, buffer_read, bytes_named, kind_read, Told, told, told_all, sent_as, EachGivesBack}
use Rattle.columns.proofs.Lists.{over_is}
use Rattle.columns.proofs.Planning.{length-all_entries}
use Rattle.columns.proofs.Sending.{work_of-append, length-entries}
use Rattle.columns.proofs.PieceBytes.{Within, AllOf, side_within, side_bytes, body_told}

-- ---- records

fields_read : (fs : List sent.FieldRecord) → map field_read (map field_record fs) ≡ fs
fields_read [] = refl
fields_read (f ∷ fs) = ap (λ (xs : List sent.FieldRecord). f ∷ xs) (fields_read fs)

-- those of windows are what they show
pub side_read : (ws : List layout.Window) → map field_read (fields_side ws) ≡ fields_all (shown_side ws)
unfolding fields_all
side_read [] = refl
side_read (w ∷ ws) = map-append field_read (fields_in w) (fields_side ws) ∙ ap₂ (λ (xs ys : List sent.FieldRecord). xs ++ ys) (fields_read (fields (shown_in w))) (side_read ws)

long : (bs : List ℕ) (p : Piece) (ps : List Piece) → Within bs (p ∷ ps) → length (bytes_of bs p) ≡ size_of p
long bs (piece.made xs) ps h = refl
long bs (lies p n) ps h = length_cut p n bs h.0

rest_within : (bs : List ℕ) (p : Piece) (ps : List Piece) → Within bs (p ∷ ps) → Within bs ps
rest_within bs (piece.made xs) ps h = h
rest_within bs (lies p n) ps h = h.1

buffers_read : (al at k : ℕ) (bs : List ℕ) (ps : List Piece) → Within bs ps → map buffer_read (entries al at k ps) ≡ records al at (map (bytes_of bs) ps)
buffers_read al at k bs [] h = refl
buffers_read al at k bs (p ∷ ps) h =
    let l = sym (long bs p ps h) in
    ap₂ (λ (r : sent.BufferRecord) (rs : List sent.BufferRecord). r ∷ rs) (ap (λ (n : ℕ). record { offset = at; length = n }) l)
    (buffers_read al (at + padded al (size_of p)) (k + length (made_of p)) bs ps (rest_within bs p ps h) ∙ ap (λ (n : ℕ). records al (at + padded al n) (map (bytes_of bs) ps)) l)

-- ---- bytes

-- what is made stands in work memory
bytes_read : (al at k : ℕ) (bs work rest : List ℕ) (ps : List Piece) → drop k work ≡ work_of ps ++ rest → map (bytes_named bs work) (entries al at k ps) ≡ map (bytes_of bs) ps
bytes_read al at k bs work rest [] e = refl
bytes_read al at k bs work rest (piece.made xs ∷ ps) e =
    let here = e ∙ append_assoc xs (work_of ps) rest in
    let next = ap (λ (j : ℕ). drop j work) (omega arith) ∙ sym (drop-drop (length xs) k work) ∙ ap (drop (length xs)) here ∙ drop-append_seam xs (work_of ps ++ rest) in
    ap₂ (λ (x : List ℕ) (ys : List (List ℕ)). x ∷ ys) (ap (take (length xs)) here ∙ take-append_seam xs (work_of ps ++ rest)) (bytes_read al (at + padded al (length xs)) (k + length xs) bs work rest ps next)
bytes_read al at k bs work rest (lies p n ∷ ps) e =
    ap (λ (ys : List (List ℕ)). cut p n bs ∷ ys) (bytes_read al (at + padded al n) (k + 0) bs work rest ps (ap (λ (j : ℕ). drop j work) (omega arith) ∙ e))

-- ---- messages

-- the buffers of a message, where its part of work memory begins with what is made of them
module _ (al k : ℕ) (bs work rest : List ℕ) (m : ToSend) (h : AllOf bs m.columns) (e : drop k work ≡ work_of (message_pieces m) ++ rest) where
  abbrev own : List BufferEntry
  own = entries al 0 k (message_pieces m)

  read_bytes : map (bytes_named bs work) own ≡ buffers_all (shown_side m.columns)
  read_bytes = bytes_read al 0 k bs work rest (message_pieces m) e ∙ side_bytes bs m.columns h

  read_records : map buffer_read own ≡ records al 0 (buffers_all (shown_side m.columns))
  read_records = buffers_read al 0 k bs (message_pieces m) (side_within bs m.columns h) ∙ ap (records al 0) (side_bytes bs m.columns h)

  pub told_one : (fs : List FieldRecord) (es : List BufferEntry) → told bs work (message_fields m ++ fs) (own ++ es) (message_entry al m) ≡ sent_as al m
  told_one fs es =
      let taken = ap (λ (j : ℕ). take j (own ++ es)) (sym (length-entries al 0 k (message_pieces m))) ∙ take-append_seam own es in
      let fields = ap (map field_read) (take-append_seam (message_fields m) fs) ∙ side_read m.columns in
      let buffers = ap (map buffer_read) taken ∙ read_records in
      let bytes = ap (map (bytes_named bs work)) taken ∙ read_bytes in
      rw (fields, buffers, bytes, body_told al bs m.columns h) refl

-- the columns of each are windows of the recording
abbrev pub AllInside : List ℕ → List ToSend → Type 0
AllInside bs [] = Unit {0}
AllInside bs (m ∷ ms) = AllOf bs m.columns × AllInside bs ms

pub inside_both : (bs : List ℕ) (ms ns : List ToSend) → AllInside bs ms → AllInside bs ns → AllInside bs (ms ++ ns)
inside_both bs [] ns g h = h
inside_both bs (m ∷ ms) ns g h = (g.0, inside_both bs ms ns g.1 h)

next_entries : (al k : ℕ) (m : ToSend) (es : List BufferEntry) → drop (length (message_pieces m)) (entries al 0 k (message_pieces m) ++ es) ≡ es
next_entries al k m es = ap (λ (j : ℕ). drop j (entries al 0 k (message_pieces m) ++ es)) (sym (length-entries al 0 k (message_pieces m))) ∙ drop-append_seam (entries al 0 k (message_pieces m)) es

pub all_told : (al k : ℕ) (bs work rest : List ℕ) (ms : List ToSend) → AllInside bs ms → drop k work ≡ work_of (all_pieces ms) ++ rest → (fs : List FieldRecord) (es : List BufferEntry)
    → told_all bs work (all_fields ms ++ fs) (all_entries al k ms ++ es) (map (message_entry al) ms) ≡ map (sent_as al) ms
all_told al k bs work rest [] h e fs es = refl
all_told al k bs work rest (m ∷ ms) h e fs es =
    let own = entries al 0 k (message_pieces m) in
    let made = work_of (message_pieces m) in
    let after = k + length made in
    let parts = e ∙ ap (λ (x : List ℕ). x ++ rest) (work_of-append (message_pieces m) (all_pieces ms)) ∙ append_assoc made (work_of (all_pieces ms)) rest in
    let next = sym (drop-drop (length made) k work) ∙ ap (drop (length made)) parts ∙ drop-append_seam made (work_of (all_pieces ms) ++ rest) in
    let late = all_told al after bs work rest ms h.1 next fs es in
    ap₂ (λ (f : List FieldRecord) (b : List BufferEntry). told_all bs work f b (map (message_entry al) (m ∷ ms))) (append_assoc (message_fields m) (all_fields ms) fs) (append_assoc own (all_entries al after ms) es)
    ∙ ap₂ (λ (t : Told) (ts : List Told). t ∷ ts) (told_one al k bs work (work_of (all_pieces ms) ++ rest) m h.0 parts (all_fields ms ++ fs) (all_entries al after ms ++ es))
    (ap₂ (λ (f : List FieldRecord) (b : List BufferEntry). told_all bs work f b (map (message_entry al) ms)) (drop-append_seam (message_fields m) (all_fields ms ++ fs)) (next_entries al k m (all_entries al after ms ++ es)) ∙ late)

-- ---- they are read back

each_inside : (bs : List ℕ) (ws : List layout.Window) → AllOf bs ws → EachInside ws
each_inside bs [] h = tt
each_inside bs (w ∷ ws) h = (h.0, each_inside bs ws h.2)

pub each_gives_back : (al : ℕ) (bs : List ℕ) (ms : List ToSend) → AllInside bs ms → EachGivesBack al ms
each_gives_back al bs [] h = tt
each_gives_back al bs (m ∷ ms) h = (λ rest. round_trip al (kind_read m.kind) m.id m.rows m.columns rest (each_inside bs m.columns h.0), each_gives_back al bs ms h.1)

-- ---- in lent memory

at_first : {X : Type 0} (ys xs : List X) → length ys ≤ length xs → over xs 0 ys ≡ ys ++ drop (length ys) xs
at_first ys xs l = over_is ys xs 0 (omega (arith, l)) ∙ ap (λ (k : ℕ). ys ++ drop k xs) (omega arith)

pub told_in : (al : ℕ) (bs : List ℕ) (ms : List ToSend) → AllInside bs ms → (fs : List FieldRecord) (es : List BufferEntry) (ns : List Message) (work : List ℕ)
    → length (all_fields ms) ≤ length fs → length (all_pieces ms) ≤ length es → length ms ≤ length ns → length (work_of (all_pieces ms)) ≤ length work
    → told_all bs (over work 0 (work_of (all_pieces ms))) (over fs 0 (all_fields ms)) (over es 0 (all_entries al 0 ms)) (take (length ms) (over ns 0 (map (message_entry al) ms))) ≡ map (sent_as al) ms
told_in al bs ms h fs es ns work f e n w =
    let entries_long = length-all_entries al 0 ms in
    let taken = ap (take (length ms)) (at_first (map (message_entry al) ms) ns (omega (arith, n, length-map ms (message_entry al)))) ∙ ap (λ (k : ℕ). take k (map (message_entry al) ms ++ drop (length (map (message_entry al) ms)) ns)) (sym (length-map ms (message_entry al))) ∙ take-append_seam (map (message_entry al) ms) _ in
    rw (at_first (all_fields ms) fs f, at_first (all_entries al 0 ms) es (omega (arith, e, entries_long)), taken)
    (all_told al 0 bs _ (drop (length (work_of (all_pieces ms))) work) ms h (at_first (work_of (all_pieces ms)) work w) _ _)
