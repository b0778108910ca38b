-- What is sent reads back.
use Rattle.std.proofs.Common.{◌≡◌, ℕ, zero, suc, ◌+◌, ◌*◌, ◌^◌, ◌<◌, ◌≤◌, Bool, true, false, cond, eqb, List, [], ◌∷◌, ◌++◌, map, length, get_or, take, sym, refl, ap, ◌∙◌, ap₂, append_assoc, append-nil, le_of_suc-le-suc, not-suc-le-zero, add-one, arith, length-append}
use lib.ListN.{length-map, get_or-map}
use Rattle.std.proofs.lemmas.Bool.{eqb-true, ne_eqb}
use Rattle.layout.specs.Lists.{cut, join_all, total, lengths}
use Rattle.layout.specs.Bits.{bytes_for, bit_at, zeros}
use Rattle.laws.proofs.Good.{Marked, Good, GoodAll}
use Rattle.layout.specs.Shown.{Bits, Marks, all, some, Shown, Showns, nulls, bools, fixed, bytes, lists, struct, dictionary, none, more, Value, null, held, marked, column, across, named, values, values_all, met, met_all, Shapes, shape, shapes}
use Rattle.layout.specs.Messages.{FieldRecord, bit_bytes, mark_bytes, offsets, offset_bytes, fields, fields_all, buffers, buffers_all, records_of, body_of}
use Rattle.layout.specs.Reading.{Got, GotAll, valid, slot_in, offset_in, between, decode, decode_all, parts}
use Rattle.layout.proofs.Lists.{rows_same}
use Rattle.laws.proofs.Lists.{map-append, get_or_front, join_at, cut_fixed, total-take, total_next}
use Rattle.laws.proofs.Bits.{pack-bit, length-pack, no_zeros, number_at}
use Rattle.laws.proofs.Body.{parts_records}

-- ---- validity

-- bit r of the bytes written
pub bits_at_lem : (b : Bits) (r : ℕ) → r < length b.bits → bit_at (bit_bytes b) r ≡ get_or b.bits r false
bits_at_lem b r h = pack-bit (b.bits ++ b.spare) r (simp length-append (omega arith)) ∙ get_or_front b.bits b.spare r false h

tested : (b : Bits) (r : ℕ) (t : Bool) → eqb (zeros b.bits) 0 ≡ t → r < length b.bits → valid (cond t [] (bit_bytes b)) r ≡ get_or b.bits r false
tested b r true z h = sym (no_zeros b.bits r (eqb-true (zeros b.bits) 0 z) h)
tested b r false z h =
    let l : length (b.bits ++ b.spare) ≡ length b.bits + length b.spare = length-append b.bits b.spare in
    let k : length (bit_bytes b) ≡ bytes_for (length (b.bits ++ b.spare)) = length-pack (b.bits ++ b.spare) in
    let e : eqb (length (bit_bytes b)) 0 ≡ false = ne_eqb (length (bit_bytes b)) 0 (λ x. omega arith) in
    ap (λ (x : Bool). cond x true (bit_at (bit_bytes b) r)) e ∙ bits_at_lem b r h

valid_marked : (n : ℕ) (m : Marks) (r : ℕ) → Marked m n → r < n → valid (mark_bytes m) r ≡ marked m r
valid_marked n all r g h = refl
valid_marked n (some b) r g h = tested b r (eqb (zeros b.bits) 0) refl (omega arith)

-- two columns are one where their rows are
column_same : (n : ℕ) (m : Marks) (f g : ℕ → Value) → Marked m n → ((r : ℕ) → r < n → f r ≡ g r)
    → column n (valid (mark_bytes m)) f ≡ column n (marked m) g
column_same n m f g k h =
    rows_same n (λ r. cond (valid (mark_bytes m) r) (f r) null) (λ r. cond (marked m r) (g r) null)
    (λ r l. ap₂ (λ (b : Bool) (v : Value). cond b v null) (valid_marked n m r k l) (h r l))

-- ---- offsets

pub length-offsets : (a : ℕ) (cs : List ℕ) → length (offsets a cs) ≡ suc (length cs)
length-offsets a [] = refl
length-offsets a (c ∷ cs) = ap suc (length-offsets (a + c) cs)

offset_at_lem : (a : ℕ) (cs : List ℕ) (r : ℕ) → r ≤ length cs → get_or (offsets a cs) r 0 ≡ a + total (take r cs)
offset_at_lem a [] zero h = omega arith
offset_at_lem a [] (suc r) h = absurd (not-suc-le-zero h)
offset_at_lem a (c ∷ cs) zero h = omega arith
offset_at_lem a (c ∷ cs) (suc r) h = offset_at_lem (a + c) cs r (le_of_suc-le-suc h) ∙ omega arith

offset_read : (w : ℕ) (cs : List ℕ) (r : ℕ) → 2 * total cs < 256 ^ w → r ≤ length cs → offset_in w (offset_bytes w cs) r ≡ total (take r cs)
offset_read w cs r g h =
    let e : get_or (offsets 0 cs) r 0 ≡ total (take r cs) = offset_at_lem 0 cs r h ∙ omega arith in
    number_at w (offsets 0 cs) r (omega (arith, total-take cs r)) (omega (arith, length-offsets 0 cs)) ∙ e

between_is : (w : ℕ) (cs : List ℕ) (r : ℕ) {X : Type 0} (xs : List X) → 2 * total cs < 256 ^ w → r < length cs
    → between w (offset_bytes w cs) r xs ≡ cut (total (take r cs)) (get_or cs r 0) xs
between_is w cs r {X} xs g h =
    let p : offset_in w (offset_bytes w cs) r ≡ total (take r cs) = offset_read w cs r g (omega arith) in
    let q : offset_in w (offset_bytes w cs) (r + 1) ≡ total (take (r + 1) cs) = offset_read w cs (r + 1) g (omega arith) in
    let n : total (take (r + 1) cs) ≡ total (take r cs) + get_or cs r 0 = rw add-one (total_next cs r h) in
    ap₂ (λ (a c : ℕ). cut a c xs) p (omega arith)

item : (w : ℕ) (vs : List (List ℕ)) (r : ℕ) → 2 * total (lengths vs) < 256 ^ w → r < length vs
    → between w (offset_bytes w (lengths vs)) r (join_all vs) ≡ get_or vs r []
item w vs r g h =
    between_is w (lengths vs) r (join_all vs) g (simp length-map h)
    ∙ ap (λ (c : ℕ). cut (total (take r (lengths vs))) c (join_all vs)) (get_or-map length vs r []) ∙ join_at vs r h

-- ---- a column reads back, and leaves what stands after it

got : (ds : List (List Value)) (fs : List FieldRecord) (bs : List (List ℕ)) {u v : List Value} → u ≡ v
    → ◌≡◌ {A = Got} (record { values = u; ids = ds; fields = fs; buffers = bs }) (record { values = v; ids = ds; fields = fs; buffers = bs })
got ds fs bs p = λ i. record { values = p i; ids = ds; fields = fs; buffers = bs }

mutual
  unfolding values fields buffers shape decode met

  pub reads : (s : Shown) (ds : List (List Value)) (fs : List FieldRecord) (bs : List (List ℕ)) → Good s
      → decode (shape s) (map values (met s) ++ ds) (fields s ++ fs) (buffers s ++ bs) ≡ record { values = values s; ids = ds; fields = fs; buffers = bs }
  reads (nulls l n) ds fs bs g = refl
  reads (bools l m b) ds fs bs g =
      got ds fs bs
      (column_same (length b.bits) m (λ r. Value.bit (bit_at (bit_bytes b) r)) (λ r. Value.bit (get_or b.bits r false)) g (λ r h. ap Value.bit (bits_at_lem b r h)))
  reads (fixed l w m vs) ds fs bs g =
      got ds fs bs
      (column_same (length vs) m (λ r. Value.bytes (slot_in w (join_all vs) r)) (λ r. Value.bytes (get_or vs r [])) g.0 (λ r h. ap Value.bytes (cut_fixed w vs r g.1 h)))
  reads (bytes l w m vs) ds fs bs g =
      got ds fs bs
      (column_same (length vs) m (λ r. Value.bytes (between w (offset_bytes w (lengths vs)) r (join_all vs))) (λ r. Value.bytes (get_or vs r [])) g.0
      (λ r h. ap Value.bytes (item w vs r g.1 h)))
  reads (lists l w m cs s) ds fs bs g =
      let step : Got → Got = λ x.
      record {
        values = column (length cs) (valid (mark_bytes m)) (λ r. Value.list (held (between w (offset_bytes w cs) r x.values)));
        ids = x.ids;
        fields = x.fields;
        buffers = x.buffers;
      } in
      ap step (reads s ds fs bs g.2)
      ∙ got ds fs bs
      (column_same (length cs) m
      (λ r. Value.list (held (between w (offset_bytes w cs) r (values s))))
      (λ r. Value.list (held (cut (total (take r cs)) (get_or cs r 0) (values s)))) g.0
      (λ r h. ap (λ (vs : List Value). Value.list (held vs)) (between_is w cs r (values s) g.1 h)))
  reads (struct l m n ss) ds fs bs g =
      let step : GotAll → Got = λ x.
      record { values = column n (valid (mark_bytes m)) (λ r. Value.struct (held (across r x.columns))); ids = x.ids; fields = x.fields; buffers = x.buffers } in
      ap step (reads_all ss ds fs bs g.1)
      ∙ got ds fs bs (column_same n m (λ r. Value.struct (held (across r (values_all ss)))) (λ r. Value.struct (held (across r (values_all ss)))) g.0 (λ r h. refl))
  reads (dictionary l w m ks s) ds fs bs g =
      got ds fs bs
      (column_same (length ks) m (λ r. named (values s) (slot_in w (join_all ks) r)) (λ r. named (values s) (get_or ks r [])) g.0
      (λ r h. ap (named (values s)) (cut_fixed w ks r g.1 h)))

  pub reads_all : (ss : Showns) (ds : List (List Value)) (fs : List FieldRecord) (bs : List (List ℕ)) → GoodAll ss
      → decode_all (shapes ss) (map values (met_all ss) ++ ds) (fields_all ss ++ fs) (buffers_all ss ++ bs) ≡ record { columns = values_all ss; ids = ds; fields = fs; buffers = bs }
  reads_all none ds fs bs g = refl
  reads_all (more s ss) ds fs bs g =
      let after : Got → GotAll = λ x.
      let h : GotAll = decode_all (shapes ss) x.ids x.fields x.buffers in
      record { columns = x.values ∷ h.columns; ids = h.ids; fields = h.fields; buffers = h.buffers } in
      let join : GotAll → GotAll = λ h. record { columns = values s ∷ h.columns; ids = h.ids; fields = h.fields; buffers = h.buffers } in
      ap (λ x. decode_all (Shapes.more (shape s) (shapes ss)) x ((fields s ++ fields_all ss) ++ fs) ((buffers s ++ buffers_all ss) ++ bs))
      (ap (λ x. x ++ ds) (map-append values (met s) (met_all ss)) ∙ append_assoc (map values (met s)) (map values (met_all ss)) ds)
      ∙ ap₂ (λ x y. decode_all (Shapes.more (shape s) (shapes ss)) (map values (met s) ++ (map values (met_all ss) ++ ds)) x y)
      (append_assoc (fields s) (fields_all ss) fs) (append_assoc (buffers s) (buffers_all ss) bs)
      ∙ ap after (reads s (map values (met_all ss) ++ ds) (fields_all ss ++ fs) (buffers_all ss ++ bs) g.0)
      ∙ ap join (reads_all ss ds fs bs g.1)

-- all that is sent is read, and no record is left over
pub read_back : (al : ℕ) (ss : Showns) (rest : List (List Value)) → GoodAll ss
    → decode_all (shapes ss) (map values (met_all ss) ++ rest) (fields_all ss) (parts (body_of al ss) (records_of al ss))
    ≡ record { columns = values_all ss; ids = rest; fields = []; buffers = [] }
read_back al ss rest g =
    ap (decode_all (shapes ss) (map values (met_all ss) ++ rest) (fields_all ss)) (parts_records al (buffers_all ss))
    ∙ ap₂ (decode_all (shapes ss) (map values (met_all ss) ++ rest)) (sym (append-nil (fields_all ss))) (sym (append-nil (buffers_all ss)))
    ∙ reads_all ss rest [] [] g
