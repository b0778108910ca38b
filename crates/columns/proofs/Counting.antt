-- How much lent memory messages need.
use Rattle.std.proofs.Common.{◌≡◌, ℕ, ◌+◌, ◌≤◌, Bool, true, false, cond, eqb, Some, None, Option, List, [], ◌∷◌, ◌++◌, length, drop, sym, refl, ap, ◌∙◌, subst, arith}
use Rattle.std.proofs.lemmas.List.{length-append, append-nil, append_assoc}
use Rattle.layout.specs.declared.kind.Kind.{Kind}
use Rattle.layout.specs.declared.kind.Kind.TheVariants.{Null, Boolean, Fixed, Bytes32, Bytes64, List32, List64, Struct, Dictionary}
use Rattle.layout.specs.Bits.{bytes_for, zeros}
use Rattle.layout.specs.Kinds.{has_bitmap}
use Rattle.layout.specs.Messages.{own_field, null_count, mark_bytes, bit_bytes}
use Rattle.layout.specs.declared.number.Width.TheVariants.{Four, Eight}
use Rattle.layout.specs.Nodes.{bitmap_of}
use Rattle.layout.specs.Rules.{Is}
use Rattle.layout.specs.Windows as layout
use Rattle.layout.specs.Windows.{bits_at, marks_at, shown_in}
use Rattle.layout.proofs.Facts.{one_kind}
use Rattle.laws.proofs.Places.{bits_made}
use Rattle.recording.specs.declared.window.Window.{Window}
use Rattle.recording.specs.NodeRefs.{run_of, numbers_of}
use Rattle.recording.specs.Windows.{window_in}
use Rattle.columns.specs.Buffers.{own_record, marks_in, offsets_in, validity_of, own_buffers, windows_below}
use Rattle.columns.specs.declared.needs.Needs.{Needs}
use Rattle.columns.specs.declared.record.FieldRecord.{FieldRecord}
use Rattle.columns.specs.Needs.{Counts, added, buffer_count, made_size}
use Rattle.columns.specs.Pieces.{Piece, work_of, pieces_in, pieces_side, fields_in, fields_side}
use Rattle.columns.proofs.Parts.{fields_parts, pieces_parts}
use Rattle.columns.proofs.Sending.{work_of-append}
use Rattle.columns.proofs.SentOffsets.{length-offsets}
use Rattle.columns.proofs.Validity.{counted}

abbrev pub nothing : Needs
nothing = record { fields = 0; buffers = 0; work = 0 }

pub counts_none : Counts [] [] nothing
counts_none = record { fields = refl; buffers = refl; work = refl }

pub counts_more : (fs gs : List FieldRecord) (ps qs : List Piece) (m n : Needs) → Counts fs ps m → Counts gs qs n → Counts (fs ++ gs) (ps ++ qs) (added m n)
counts_more fs gs ps qs m n a b = record {
  fields = omega (arith, a.fields, b.fields, length-append fs gs);
  buffers = omega (arith, a.buffers, b.buffers, length-append ps qs);
  work = omega (arith, a.work, b.work, ap length (work_of-append ps qs), length-append (work_of ps) (work_of qs));
}

-- ---- windows one after another

-- 64 bits hold each
pub record Few (n : Needs) : Type 0 where
  pub fields : n.fields ≤ 18446744073709551615
  pub buffers : n.buffers ≤ 18446744073709551615
  pub work : n.work ≤ 18446744073709551615

-- with the needs of the windows that are left they are those of all
pub record CountLeft (all left : List layout.Window) (now : Needs) : Type 0 where
  pub few : Few now
  pub whole : (m : Needs) → Counts (fields_side left) (pieces_side left) m → Counts (fields_side all) (pieces_side all) (added now m)

pub count_all : (ws : List layout.Window) → CountLeft ws ws (record { fields = 0; buffers = 0; work = 0 })
count_all ws = record {
  few = record { fields = omega arith; buffers = omega arith; work = omega arith };
  whole = λ m h. record { fields = omega (arith, h.fields); buffers = omega (arith, h.buffers); work = omega (arith, h.work) };
}

pub count_next : (all left rest : List layout.Window) (w : layout.Window) (now n : Needs) → left ≡ w ∷ rest → CountLeft all left now → Counts (fields_in w) (pieces_in w) n → CountLeft all rest (added now n)
count_next all left rest w now n e h c = record {
  few = record { fields = omega arith; buffers = omega arith; work = omega arith };
  whole = λ m t.
      let all_of = (subst (λ (ws : List layout.Window). CountLeft all ws now) e h).whole (added n m) (counts_more (fields_in w) (fields_side rest) (pieces_in w) (pieces_side rest) n m c t) in
      record { fields = omega (arith, all_of.fields); buffers = omega (arith, all_of.buffers); work = omega (arith, all_of.work) };
}

pub count_done : (all left : List layout.Window) (now : Needs) → left ≡ [] → CountLeft all left now → Counts (fields_side all) (pieces_side all) now
count_done all left now e h =
    let all_of = (subst (λ (ws : List layout.Window). CountLeft all ws now) e h).whole (record { fields = 0; buffers = 0; work = 0 }) (record { fields = refl; buffers = refl; work = refl }) in
    let f = h.few in
    record { fields = omega (arith, all_of.fields, f.fields); buffers = omega (arith, all_of.buffers, f.buffers); work = omega (arith, all_of.work, f.work) }

-- ---- a window of itself

-- how long its validity is
marks_long : (bs : List ℕ) (o : Option ℕ) (a c : ℕ) → length (mark_bytes (layout.marks_in bs o a c)) ≡ cond (eqb (null_count (layout.marks_in bs o a c)) 0) 0 (bytes_for c)
marks_long bs None a c = refl
marks_long bs (Some p) a c = by (eqb (zeros (bits_at (drop p bs) a c).bits) 0)
  where
    by : (b : Bool) → length (cond b [] (bit_bytes (bits_at (drop p bs) a c))) ≡ cond b 0 (bytes_for c)
    by true = refl
    by false = (bits_made (drop p bs) a c).size

module _ (v : Window) where
  pub validity_long : (k : Kind) → Is (numbers_of v.node) k → (n : ℕ) → n ≡ (own_field (shown_in (window_in v))).nulls
      → length (work_of (validity_of k v)) ≡ cond (has_bitmap k) (cond (eqb n 0) 0 (bytes_for v.rows)) 0
  validity_long k is n e = by (has_bitmap k) refl
    where
      by : (b : Bool) → has_bitmap k ≡ b → length (work_of (cond b (marks_in v ∷ []) [])) ≡ cond b (cond (eqb n 0) 0 (bytes_for v.rows)) 0
      by false h = refl
      by true h =
          let m = numbers_of v.node in
          let long = marks_long (run_of v.node) (bitmap_of m) (m.from + v.first) v.rows in
          let same = e ∙ counted v (λ j at. ap has_bitmap (one_kind m j k at is) ∙ h) in
          ap length (append-nil (mark_bytes (marks_at (run_of v.node) m v.first v.rows))) ∙ long ∙ ap (λ (z : ℕ). cond (eqb z 0) 0 (bytes_for v.rows)) (sym same)

  pub made_long : (k : Kind) → length (work_of (own_buffers k v)) ≡ made_size k v.rows
  made_long Null = refl
  made_long Boolean =
      let m = numbers_of v.node in
      let bits = bit_bytes (bits_at (drop m.slots (run_of v.node)) (m.from + v.first) v.rows) in
      ap length (append-nil bits) ∙ (bits_made (drop m.slots (run_of v.node)) (m.from + v.first) v.rows).size
  made_long Fixed = refl
  made_long Bytes32 = ap length (append-nil (offsets_in 4 v)) ∙ length-offsets v Four
  made_long Bytes64 = ap length (append-nil (offsets_in 8 v)) ∙ length-offsets v Eight
  made_long List32 = ap length (append-nil (offsets_in 4 v)) ∙ length-offsets v Four
  made_long List64 = ap length (append-nil (offsets_in 8 v)) ∙ length-offsets v Eight
  made_long Struct = refl
  made_long Dictionary = refl

  pub buffers_many : (k : Kind) → length (validity_of k v ++ own_buffers k v) ≡ buffer_count k
  buffers_many Null = refl
  buffers_many Boolean = refl
  buffers_many Fixed = refl
  buffers_many Bytes32 = refl
  buffers_many Bytes64 = refl
  buffers_many List32 = refl
  buffers_many List64 = refl
  buffers_many Struct = refl
  buffers_many Dictionary = refl

-- ---- by the tests that are made

pub long_some : (b : Bool) (n c x : ℕ) → x ≡ cond b (cond (eqb n 0) 0 c) 0 → b ≡ true → eqb n 0 ≡ false → x ≡ c
long_some true n c x e h z = e ∙ ap (λ (t : Bool). cond t 0 c) z
long_some false n c x e h z = cc

pub long_null : (b : Bool) (n c x : ℕ) → x ≡ cond b (cond (eqb n 0) 0 c) 0 → b ≡ false → x ≡ 0
long_null true n c x e h = cc
long_null false n c x e h = e

pub long_none : (b : Bool) (n c x : ℕ) → x ≡ cond b (cond (eqb n 0) 0 c) 0 → n ≡ 0 → x ≡ 0
long_none true n c x e z = e ∙ ap (λ (n : ℕ). cond (eqb n 0) 0 c) z
long_none false n c x e z = e

-- ---- a window

pub window_counted : (v : Window) (k : Kind) → Is (numbers_of v.node) k → (own below all : Needs) → all ≡ added own below
    → Counts (own_record v ∷ []) (validity_of k v ++ own_buffers k v) own → Counts (fields_side (windows_below k v)) (pieces_side (windows_below k v)) below
    → Counts (fields_in (window_in v)) (pieces_in (window_in v)) all
window_counted v k is own below all e c d =
    let parts = counts_more (own_record v ∷ []) (fields_side (windows_below k v)) (validity_of k v ++ own_buffers k v) (pieces_side (windows_below k v)) own below c d in
    subst (λ (n : Needs). Counts (fields_in (window_in v)) (pieces_in (window_in v)) n) (sym e)
    (subst (λ (fs : List FieldRecord). Counts fs (pieces_in (window_in v)) (added own below)) (sym (fields_parts v k is))
    (subst (λ (ps : List Piece). Counts (own_record v ∷ fields_side (windows_below k v)) ps (added own below))
    (append_assoc (validity_of k v) (own_buffers k v) (pieces_side (windows_below k v)) ∙ sym (pieces_parts v k is)) parts))
