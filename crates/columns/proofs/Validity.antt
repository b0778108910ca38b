-- What is sent of which rows are valid, and of slots.
use Rattle.std.proofs.Common.{◌≡◌, ℕ, ◌+◌, ◌*◌, ◌≤◌, ◌⊎◌, Bool, true, false, cond, Some, None, Option, List, [], ◌∷◌, length, sym, refl, ap, ap₂, ◌∙◌, add-mul, arith}
use Rattle.std.proofs.lemmas.Bool.{eq-eqb, ne_eqb}
use Rattle.std.proofs.lemmas.List.{length-append}
use Rattle.layout.specs.declared.bit.BitSlice.{BitSlice}
use Rattle.layout.specs.declared.fault.Refusal.TheVariants.{KindOrSize}
use Rattle.layout.specs.declared.kind.Kind.{Kind}
use Rattle.layout.specs.declared.kind.Kind.TheVariants.{Fixed, Dictionary}
use Rattle.layout.specs.declared.node.Node.{Node}
use Rattle.layout.specs.Kinds.{has_bitmap}
use Rattle.layout.specs.Messages.{own_field, null_count, mark_bytes, bit_bytes}
use Rattle.layout.specs.Nodes.{bitmap_of}
use Rattle.layout.specs.Rules.{Is}
use Rattle.layout.specs.Shown.{Marks}
use Rattle.layout.specs.Windows as layout
use Rattle.layout.specs.Windows.{marks_at, bits_at, shown_in}
use Rattle.layout.proofs.Lists.{length_cut}
use Rattle.recording.specs.declared.window.Window.{Window}
use Rattle.recording.specs.Contents.{AreMarks, NoMarks, slots_of}
use Rattle.recording.specs.NodeRefs.{run_of, numbers_of}
use Rattle.recording.specs.Windows.{window_in}
use Rattle.recording.proofs.Contents.{SlotsAt, slots_at, nulls_marked}
use Rattle.recording.proofs.Reading.{rules_at}
use Rattle.recording.proofs.WindowFacts.{nulls_shown, marks_null}
use Rattle.columns.specs.declared.record.EncodedBuffer.TheVariants.{Recording}
use Rattle.columns.specs.declared.record.FieldRecord.{FieldRecord}
use Rattle.columns.specs.declared.writer.IpcMessageWriter.{IpcMessageWriter}
use Rattle.columns.specs.Bits.{bits_of}
use Rattle.columns.specs.Buffers.{marks_in, slots_in, Lies}
use Rattle.columns.specs.Pieces.{made}
use Rattle.columns.specs.Writing.{lent_work, RoomFor}

pub room_bytes : (fs : List FieldRecord) (bs : List ℕ) (w : IpcMessageWriter) → RoomFor fs (made bs ∷ []) w → w.work_len + length bs ≤ length (lent_work w).memory
room_bytes fs bs w r = omega (arith, r.work, length-append bs [])

-- ---- validity

where_true : (b : Bool) (x y : ℕ) → b ≡ true → cond b x y ≡ x
where_true true x y e = refl
where_true false x y e = cc

module _ (v : Window) (kind : (k : Kind) → Is (numbers_of v.node) k → has_bitmap k ≡ true) where
  abbrev n : Node
  n = numbers_of v.node

  abbrev marks : Marks
  marks = marks_at (run_of v.node) n v.first v.rows

  -- what is counted is what the bitmap marks
  pub counted : (own_field (shown_in (window_in v))).nulls ≡ null_count marks
  counted =
      let t = rules_at v.node KindOrSize in
      sym (nulls_shown v.node t.kind t.is v.first v.rows) ∙ where_true (has_bitmap t.kind) _ v.rows (kind t.kind t.is) ∙ marks_null (run_of v.node) (bitmap_of n) (n.from + v.first) v.rows

  by_bytes : (m : Marks) → marks ≡ m → marks_in v ≡ made (mark_bytes m)
  by_bytes m e = ap (λ (m : Marks). made (mark_bytes m)) e

  by_place : (o : Option ℕ) → bitmap_of n ≡ o → marks ≡ layout.marks_in (run_of v.node) o (n.from + v.first) v.rows
  by_place o e = ap (λ (o : Option ℕ). layout.marks_in (run_of v.node) o (n.from + v.first) v.rows) e

  pub marks_none : NoMarks v → marks_in v ≡ made []
  marks_none h = let t = rules_at v.node KindOrSize in by_bytes Marks.all (by_place None (h.bitmap t.kind t.is (kind t.kind t.is)))

  module _ (bits : BitSlice) (h : AreMarks v bits) (nulls : ℕ) (e : nulls ≡ (own_field (shown_in (window_in v))).nulls) where
    some : marks ≡ Marks.some (bits_of bits)
    some =
        by_place (Some h.place) h.bitmap
        ∙ ap (λ (bs : List ℕ). Marks.some (bits_at bs (n.from + v.first) v.rows)) (sym h.bytes)
        ∙ ap₂ (λ (a c : ℕ). Marks.some (bits_at bits.bytes.now a c)) (sym h.first) (sym h.count)

    pub marks_full : nulls ≡ 0 → marks_in v ≡ made []
    marks_full z = by_bytes (Marks.some (bits_of bits)) some ∙ ap (λ (b : Bool). made (cond b [] (bit_bytes (bits_of bits)))) (eq-eqb _ 0 (nulls_marked v bits h ∙ sym e ∙ z))

    pub marks_some : (nulls ≡ 0 → ⊥) → marks_in v ≡ made (bit_bytes (bits_of bits))
    marks_some z = by_bytes (Marks.some (bits_of bits)) some ∙ ap (λ (b : Bool). made (cond b [] (bit_bytes (bits_of bits)))) (ne_eqb _ 0 (λ f. z (e ∙ sym (nulls_marked v bits h) ∙ f)))

-- ---- slots

module _ (v : Window) (is : Is (numbers_of v.node) Fixed ⊎ Is (numbers_of v.node) Dictionary) where
  abbrev m : Node
  m = numbers_of v.node

  pub first_slot : (node : Node) (first : ℕ) → node ≡ m → first ≡ v.first → SlotsAt v.node node first
  first_slot node first same from = slots_at v.node node same is first (omega (arith, v.inside))

  pub slots_lie : (node : Node) (first len : ℕ) (xs : List ℕ) → node ≡ m → first ≡ v.first → xs ≡ slots_of v → len ≡ length xs
      → Lies (slots_in v) (record { source = Recording (node.slots + (node.from + first) * node.size); len = len })
  slots_lie node first len xs same from slots long =
      let last = slots_at v.node m refl is (v.first + v.rows) v.inside in
      let whole : (m.from + (v.first + v.rows)) * m.size ≡ (m.from + v.first) * m.size + v.rows * m.size = ap (λ (x : ℕ). x * m.size) (omega arith) ∙ add-mul (m.from + v.first) v.rows m.size in (
        ap₂ (λ (n : Node) (f : ℕ). Recording (n.slots + (n.from + f) * n.size)) same from,
        long ∙ ap length slots ∙ length_cut (m.slots + (m.from + v.first) * m.size) (v.rows * m.size) (run_of v.node) (omega (arith, last.within, whole)),
      )
