-- What is planned depends on what is shown alone.
use Rattle.std.proofs.Common.{◌≡◌, ℕ, ◌+◌, ◌≤◌, Option, List, [], ◌∷◌, ◌++◌, map, length, sym, refl, ap, ap₂, ◌∙◌, arith}
use Rattle.std.proofs.lemmas.List.{append_assoc, length-append, length-map}
use Rattle.std.proofs.lemmas.Simd.{map-map}
use Rattle.layout.specs.Lists.{join_all}
use Rattle.layout.specs.Messages.{mark_bytes, offset_bytes, made, made_all, fields_all, buffers, buffers_all}
use Rattle.layout.specs.Rows.{count_at}
use Rattle.layout.specs.Lists.{rows}
use Rattle.layout.specs.Trees.{Tree, Forest, nulls, bools, fixed, bytes, lists, struct, dictionary, none, more, rows_of}
use Rattle.layout.specs.Windows as layout
use Rattle.layout.specs.Windows.{Inside, EachInside, tree_in, shown_in, shown_side, marks_at, shown, shown_all, passed_first, passed_count}
use Rattle.laws.proofs.Kept.{opened_at, tree_rows}
use Rattle.laws.proofs.Opened.{RowsAll, Opened, OpenedAll}
use Rattle.laws.proofs.Says.{passed, strings_fit}
use Rattle.columns.specs.declared.memory.Memory.{Memory}
use Rattle.columns.specs.Laws.{EachMessageInside, NothingElseCounts}
use Rattle.columns.specs.Memories.{short_by, short_for}
use Rattle.columns.specs.Pieces.{bytes_of, pieces, pieces_all, pieces_in, pieces_side, fields_side, work_of}
use Rattle.columns.specs.Plans.{ToSend, message_fields, message_pieces, all_fields, all_pieces}
use Rattle.columns.specs.Telling.{Shows, shows, sent_of, field_read}
use Rattle.columns.proofs.PieceBytes.{window_bytes}
use Rattle.columns.proofs.Sending.{work_of-append}
use Rattle.columns.proofs.Told.{side_read}

-- ---- what is made

joins : (xs ys : List (List ℕ)) → join_all (xs ++ ys) ≡ join_all xs ++ join_all ys
joins [] ys = refl
joins (x ∷ xs) ys = ap (λ (r : List ℕ). x ++ r) (joins xs ys) ∙ sym (append_assoc x (join_all xs) (join_all ys))

mutual
  unfolding pieces made shown

  made_are : (bs : List ℕ) (t : Tree) (a c : ℕ) → Opened bs t → a + c ≤ rows_of t → work_of (pieces bs t a c) ≡ join_all (made (shown bs t a c))
  made_are bs (nulls n) a c g l = refl
  made_are bs (bools n) a c g l = refl
  made_are bs (fixed n) a c g l = refl
  made_are bs (bytes w n) a c g l = ap (λ (cs : List ℕ). mark_bytes (marks_at bs n a c) ++ (offset_bytes w cs ++ [])) (sym (strings_fit bs w n g.3 g.2 a c l))
  made_are bs (lists w n t) a c g l =
      ap (λ (xs : List ℕ). mark_bytes (marks_at bs n a c) ++ (offset_bytes w (rows c (λ r. count_at bs w n (a + r))) ++ xs)) (made_are bs t (passed_first bs w n a c) (passed_count bs w n a c) g.1 (passed bs w n (rows_of t) g.0.2 a c l))
  made_are bs (struct n f) a c g l = ap (λ (xs : List ℕ). mark_bytes (marks_at bs n a c) ++ xs) (made_are_all bs f n.rows a c g.1 g.0.1 l)
  made_are bs (dictionary n t) a c g l = refl

  made_are_all : (bs : List ℕ) (f : Forest) (n a c : ℕ) → OpenedAll bs f → RowsAll f n → a + c ≤ n → work_of (pieces_all bs f a c) ≡ join_all (made_all (shown_all bs f a c))
  made_are_all bs none n a c g h l = refl
  made_are_all bs (more t f) n a c g h l =
      work_of-append (pieces bs t a c) (pieces_all bs f a c)
      ∙ ap₂ (λ (x y : List ℕ). x ++ y) (made_are bs t a c g.0 (omega (arith, h.0))) (made_are_all bs f n a c g.1 h.1 l)
      ∙ sym (joins (made (shown bs t a c)) (made_all (shown_all bs f a c)))

-- ---- windows

window_made : (w : layout.Window) → Inside w → work_of (pieces_in w) ≡ join_all (made (shown_in w))
window_made w g = made_are w.bytes (tree_in w) w.first w.rows (opened_at w.nodes w.bytes g.opened w.node g.stands) (omega (arith, g.within, tree_rows w.nodes w.node))

side_made : (ws : List layout.Window) → EachInside ws → work_of (pieces_side ws) ≡ join_all (made_all (shown_side ws))
unfolding made_all
side_made [] h = refl
side_made (w ∷ ws) h =
    work_of-append (pieces_in w) (pieces_side ws) ∙ ap₂ (λ (x y : List ℕ). x ++ y) (window_made w h.0) (side_made ws h.1) ∙ sym (joins (made (shown_in w)) (made_all (shown_side ws)))

side_buffers : (ws : List layout.Window) → EachInside ws → length (pieces_side ws) ≡ length (buffers_all (shown_side ws))
unfolding buffers_all
side_buffers [] h = refl
side_buffers (w ∷ ws) h =
    length-append (pieces_in w) (pieces_side ws)
    ∙ ap₂ (λ (x y : ℕ). x + y) (sym (length-map (pieces_in w) (bytes_of w.bytes)) ∙ ap length (window_bytes w h.0)) (side_buffers ws h.1)
    ∙ sym (length-append (buffers (shown_in w)) (buffers_all (shown_side ws)))

side_fields : (ws : List layout.Window) → length (fields_side ws) ≡ length (fields_all (shown_side ws))
side_fields ws = sym (length-map (fields_side ws) field_read) ∙ ap length (side_read ws)

-- ---- messages

abbrev fields_of_all : List Shows → ℕ
fields_of_all [] = 0
fields_of_all (s ∷ ss) = length (fields_all s.shown) + fields_of_all ss

abbrev buffers_of_all : List Shows → ℕ
buffers_of_all [] = 0
buffers_of_all (s ∷ ss) = length (buffers_all s.shown) + buffers_of_all ss

abbrev work_of_all : List Shows → ℕ
work_of_all [] = 0
work_of_all (s ∷ ss) = length (join_all (made_all s.shown)) + work_of_all ss

all_fields_need : (ms : List ToSend) → length (all_fields ms) ≡ fields_of_all (map shows ms)
all_fields_need [] = refl
all_fields_need (m ∷ ms) = length-append (message_fields m) (all_fields ms) ∙ ap₂ (λ (x y : ℕ). x + y) (side_fields m.columns) (all_fields_need ms)

all_buffers_need : (ms : List ToSend) → EachMessageInside ms → length (all_pieces ms) ≡ buffers_of_all (map shows ms)
all_buffers_need [] h = refl
all_buffers_need (m ∷ ms) h = length-append (message_pieces m) (all_pieces ms) ∙ ap₂ (λ (x y : ℕ). x + y) (side_buffers m.columns h.0) (all_buffers_need ms h.1)

all_work_need : (ms : List ToSend) → EachMessageInside ms → length (work_of (all_pieces ms)) ≡ work_of_all (map shows ms)
all_work_need [] h = refl
all_work_need (m ∷ ms) h =
    ap length (work_of-append (message_pieces m) (all_pieces ms)) ∙ length-append (work_of (message_pieces m)) (work_of (all_pieces ms))
    ∙ ap₂ (λ (x y : ℕ). x + y) (ap length (side_made m.columns h.0)) (all_work_need ms h.1)

abbrev short_of : List Shows → Memory → Option ℕ
short_of ss m = short_by (fields_of_all ss) (buffers_of_all ss) (length ss) (work_of_all ss) m

short_is : (ms : List ToSend) → EachMessageInside ms → (m : Memory) → short_for ms m ≡ short_of (map shows ms) m
short_is ms h m = rw (all_fields_need ms, all_buffers_need ms h, all_work_need ms h) (ap (λ (n : ℕ). short_by (fields_of_all (map shows ms)) (buffers_of_all (map shows ms)) n (work_of_all (map shows ms)) m) (sym (length-map ms shows)))

pub nothing_else_counts : NothingElseCounts
nothing_else_counts = record {
  told = λ al ms ns e. sym (map-map (sent_of al) shows ms) ∙ ap (map (sent_of al)) e ∙ map-map (sent_of al) shows ns;
  refused = λ ms ns g h e m. short_is ms g m ∙ ap (λ (ss : List Shows). short_of ss m) e ∙ sym (short_is ns h m);
}
