-- Numbers in bytes: how many these are, and where each is written.
use Rattle.std.proofs.Common.{◌≡◌, ℕ, ◌+◌, ◌-◌, ◌*◌, ◌<◌, ◌≤◌, Bool, true, false, cond, List, [], ◌∷◌, ◌++◌, length, map, take, drop, get_or, Some, None, refl, ap, ap₂, sym, ◌∙◌, suc-mul, arith}
use Rattle.std.proofs.lemmas.List.{append-nil, append_assoc, length-append, length-map, length-drop, length-take-le, map-append, take_more, take_at, take_all, drop_all, drop-drop}
use borrow.Rule.Slice.PartMut.{put_mid, mid_of}
use Rattle.std.proofs.lemmas.Bool.{le-leb, lt-leb}
use Rattle.layout.specs.Messages.{Message, FieldRecord, BufferRecord}
use Rattle.layout.specs.Numbers.{le, le_all}
use Rattle.layout.specs.Spelling.{length-le}
use Rattle.columns.specs.declared.record.FieldRecord.{FieldRecord as Rows}
use Rattle.columns.specs.declared.record.BufferEntry.{BufferEntry as Entry}
use Rattle.columns.specs.Telling.{number, kind_read, field_read, buffer_read}
use Rattle.frames.specs.declared.form.Description.{Description}
use Rattle.frames.specs.Headers.{described, is_header, header_of, size_of}
use Rattle.frames.specs.Numbers.{kind_number, field_numbers, buffer_numbers, numbers_of, number_bytes}

-- ---- numbers one after another

pub le_all-append : (w : ℕ) (ms ns : List ℕ) → le_all w (ms ++ ns) ≡ le_all w ms ++ le_all w ns
le_all-append w [] ns = refl
le_all-append w (m ∷ ms) ns = ap (λ (bs : List ℕ). le w m ++ bs) (le_all-append w ms ns) ∙ sym (append_assoc (le w m) (le_all w ms) (le_all w ns))

pub length-le_all : (w : ℕ) (ns : List ℕ) → length (le_all w ns) ≡ length ns * w
length-le_all w [] = omega arith
length-le_all w (n ∷ ns) = simp length-append (omega (arith, length-le w n, length-le_all w ns, suc-mul (length ns) w))

pub length-field_numbers : (fs : List FieldRecord) → length (field_numbers fs) ≡ 2 * length fs
length-field_numbers [] = refl
length-field_numbers (f ∷ fs) = omega (arith, length-field_numbers fs)

pub length-buffer_numbers : (bs : List BufferRecord) → length (buffer_numbers bs) ≡ 2 * length bs
length-buffer_numbers [] = refl
length-buffer_numbers (b ∷ bs) = omega (arith, length-buffer_numbers bs)

pub field_numbers-append : (fs gs : List FieldRecord) → field_numbers (fs ++ gs) ≡ field_numbers fs ++ field_numbers gs
field_numbers-append [] gs = refl
field_numbers-append (f ∷ fs) gs = ap (λ (ns : List ℕ). f.rows ∷ f.nulls ∷ ns) (field_numbers-append fs gs)

pub buffer_numbers-append : (bs cs : List BufferRecord) → buffer_numbers (bs ++ cs) ≡ buffer_numbers bs ++ buffer_numbers cs
buffer_numbers-append [] cs = refl
buffer_numbers-append (b ∷ bs) cs = ap (λ (ns : List ℕ). b.offset ∷ b.length ∷ ns) (buffer_numbers-append bs cs)

-- ---- of a message

count_of : (m : Message) → length (numbers_of m) ≡ 6 + 2 * (length m.fields + length m.buffers)
count_of m = simp length-append (omega (arith, length-field_numbers m.fields, length-buffer_numbers m.buffers))

pub length-described : (d : Description) → length (number_bytes (described d)) ≡ 48 + 16 * (length d.fields.now + length d.buffers.now)
length-described d =
    omega (arith, length-le_all 8 (numbers_of (described d)), count_of (described d), length-map d.fields.now field_read, length-map d.buffers.now buffer_read)

-- ---- whether there is a header

pub size_within : (bs : List ℕ) (n : ℕ) → length bs ≡ n → 1 ≤ n → n ≤ 65536 → Some n ≡ size_of bs
size_within bs n e some few = rw (e, le-leb 1 n some, le-leb n 65536 few) refl

pub size_beyond : (bs : List ℕ) → 65536 < length bs → None ≡ size_of bs
size_beyond bs many = rw (le-leb 1 (length bs) (omega arith), lt-leb (length bs) 65536 many) refl

by_test : (t : Bool) (bs : List ℕ) (n : ℕ) → Some n ≡ cond t (Some (length bs)) None → (cond t (Some bs) None ≡ Some bs) × (n ≡ length bs)
by_test true bs n e = (refl, cc)
by_test false bs n e = absurd cc

-- one that has a size has a header
pub some_header : (bs : List ℕ) (n : ℕ) → Some n ≡ size_of bs → (header_of bs ≡ Some bs) × (n ≡ length bs)
some_header bs n e = by_test (is_header bs) bs n e

-- ---- memory that is written from its front on

-- memory of a length with these numbers in so many first bytes
pub record Written (ns : List ℕ) (at room : ℕ) (out : List ℕ) : Type 0 where
  pub long : length out ≡ room
  pub front : take at out ≡ le_all 8 ns

pub none_written : (out : List ℕ) (room : ℕ) → length out ≡ room → Written [] 0 room out
none_written out room e = record { long = e; front = refl }

-- a number that is put through the part from a place on
pub put_is : (at k n : ℕ) (out new : List ℕ) → k ≡ length out - at → new ≡ le 8 n ++ drop 8 (mid_of at k out) → put_mid at k out new ≡ take at out ++ (le 8 n ++ drop (at + 8) out)
put_is at k n out new size e =
    ap (λ (bs : List ℕ). take at out ++ bs)
    (ap₂ (λ (us vs : List ℕ). us ++ vs)
    (e ∙ ap (λ (bs : List ℕ). le 8 n ++ bs) (ap (drop 8) (take_all k (drop at out) (omega (arith, length-drop at out))) ∙ drop-drop 8 at out))
    (drop_all k (drop at out) (omega (arith, length-drop at out)))
    ∙ append-nil (le 8 n ++ drop (at + 8) out))

-- more numbers after these; what follows them is the rest
pub more_written : (ns ms : List ℕ) (at next room : ℕ) (out new rest : List ℕ)
    → Written ns at room out
    → next ≡ at + 8 * length ms
    → next + length rest ≡ room
    → new ≡ take at out ++ (le_all 8 ms ++ rest)
    → Written (ns ++ ms) next room new
more_written ns ms at next room out new rest w place fits e = record {
  long = ap length whole ∙ length-append (le_all 8 ns ++ le_all 8 ms) rest ∙ omega (arith, front);
  front = ap (take next) whole ∙ take_at (le_all 8 ns ++ le_all 8 ms) rest next front ∙ sym (le_all-append 8 ns ms);
}
  where
    whole : new ≡ (le_all 8 ns ++ le_all 8 ms) ++ rest
    whole = e ∙ ap (λ (bs : List ℕ). bs ++ (le_all 8 ms ++ rest)) w.front ∙ sym (append_assoc (le_all 8 ns) (le_all 8 ms) rest)

    front : length (le_all 8 ns ++ le_all 8 ms) ≡ next
    front =
        length-append (le_all 8 ns) (le_all 8 ms)
        ∙ ap₂ (λ (x y : ℕ). x + y) (sym (ap length w.front) ∙ length-take-le at out (omega (arith, w.long))) (length-le_all 8 ms)
        ∙ omega (arith, place)

pub one_written : (ns : List ℕ) (n at next room : ℕ) (out new : List ℕ)
    → Written ns at room out
    → next ≡ at + 8
    → next ≤ room
    → new ≡ take at out ++ (le 8 n ++ drop (at + 8) out)
    → Written (ns ++ (n ∷ [])) next room new
one_written ns n at next room out new w place fits e =
    more_written ns (n ∷ []) at next room out new (drop (at + 8) out) w place (omega (arith, length-drop (at + 8) out, w.long)) e

-- numbers that are written in a part
pub part_written : (ns ms : List ℕ) (at k next room : ℕ) (out new : List ℕ)
    → Written ns at room out
    → k ≡ 8 * length ms
    → next ≡ at + k
    → next ≤ room
    → new ≡ le_all 8 ms
    → Written (ns ++ ms) next room (put_mid at k out new)
part_written ns ms at k next room out new w size place fits e =
    more_written ns ms at next room out _ (drop k (drop at out)) w (omega (arith, size)) (omega (arith, length-drop k (drop at out), length-drop at out, w.long))
    (ap (λ (bs : List ℕ). take at out ++ (bs ++ drop k (drop at out))) e)

-- what is written to its end
pub all_written : (ns : List ℕ) (at room : ℕ) (out : List ℕ) → Written ns at room out → room ≤ at → out ≡ le_all 8 ns
all_written ns at room out w l = sym (take_all at out (omega (arith, w.long))) ∙ w.front

-- ---- the records, one more each time

pub field_more : (fs : List Rows) (i a b : ℕ) (d : Rows) → i < length fs → a ≡ number (get_or fs i d).rows → b ≡ number (get_or fs i d).nulls
    → (field_numbers (map field_read (take i fs)) ++ (a ∷ [])) ++ (b ∷ []) ≡ field_numbers (map field_read (take (i + 1) fs))
field_more fs i a b d l e f =
    let before : List ℕ = field_numbers (map field_read (take i fs)) in
    append_assoc before (a ∷ []) (b ∷ [])
    ∙ ap₂ (λ (x y : ℕ). before ++ (x ∷ y ∷ [])) e f
    ∙ sym (ap (λ (gs : List Rows). field_numbers (map field_read gs)) (take_more fs i d l)
    ∙ ap field_numbers (map-append field_read (take i fs) (get_or fs i d ∷ []))
    ∙ field_numbers-append (map field_read (take i fs)) (field_read (get_or fs i d) ∷ []))

pub buffer_more : (es : List Entry) (i a b : ℕ) (d : Entry) → i < length es → a ≡ number (get_or es i d).buffer.offset → b ≡ number (get_or es i d).buffer.length
    → (buffer_numbers (map buffer_read (take i es)) ++ (a ∷ [])) ++ (b ∷ []) ≡ buffer_numbers (map buffer_read (take (i + 1) es))
buffer_more es i a b d l e f =
    let before : List ℕ = buffer_numbers (map buffer_read (take i es)) in
    append_assoc before (a ∷ []) (b ∷ [])
    ∙ ap₂ (λ (x y : ℕ). before ++ (x ∷ y ∷ [])) e f
    ∙ sym (ap (λ (gs : List Entry). buffer_numbers (map buffer_read gs)) (take_more es i d l)
    ∙ ap buffer_numbers (map-append buffer_read (take i es) (get_or es i d ∷ []))
    ∙ buffer_numbers-append (map buffer_read (take i es)) (buffer_read (get_or es i d) ∷ []))

-- ---- a description, piece after piece

module _ (d : Description) where
  abbrev fs : List ℕ
  fs = field_numbers (map field_read d.fields.now)

  abbrev bs : List ℕ
  bs = buffer_numbers (map buffer_read d.buffers.now)

  pub length-fields : length fs ≡ 2 * length d.fields.now
  length-fields = length-field_numbers (map field_read d.fields.now) ∙ ap (λ (n : ℕ). 2 * n) (length-map d.fields.now field_read)

  pub length-buffers : length bs ≡ 2 * length d.buffers.now
  length-buffers = length-buffer_numbers (map buffer_read d.buffers.now) ∙ ap (λ (n : ℕ). 2 * n) (length-map d.buffers.now buffer_read)

  pub pieces_are : (kind : ℕ) → kind ≡ kind_number (kind_read d.kind)
      → (((kind ∷ d.id ∷ d.rows ∷ d.body_len ∷ length d.fields.now ∷ []) ++ fs) ++ (length d.buffers.now ∷ [])) ++ bs ≡ numbers_of (described d)
  pieces_are kind e =
      let head : ℕ → ℕ → List ℕ = λ (k n : ℕ). k ∷ d.id ∷ d.rows ∷ d.body_len ∷ n ∷ [] in
      append_assoc (head kind (length d.fields.now) ++ fs) (length d.buffers.now ∷ []) bs
      ∙ append_assoc (head kind (length d.fields.now)) fs (length d.buffers.now ∷ bs)
      ∙ ap₂ (λ (k n : ℕ). head k n ++ (fs ++ (length d.buffers.now ∷ bs))) e (sym (length-map d.fields.now field_read))
      ∙ ap (λ (n : ℕ). head (kind_number (kind_read d.kind)) (length (map field_read d.fields.now)) ++ (fs ++ (n ∷ bs))) (sym (length-map d.buffers.now buffer_read))
