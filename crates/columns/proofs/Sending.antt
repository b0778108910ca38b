-- What is written, one after another.
use Rattle.std.proofs.Common.{◌≡◌, ℕ, suc, ◌+◌, ◌<◌, List, [], ◌∷◌, ◌++◌, length, pos, sym, refl, ap, ap₂, ◌∙◌, subst, arith}
use Rattle.std.proofs.lemmas.List.{length-append, append_assoc}
use Rattle.layout.specs.Messages.{padded}
use Rattle.columns.specs.declared.buffer.Buffer.{Buffer}
use Rattle.columns.specs.declared.record.BufferEntry.{BufferEntry}
use Rattle.columns.specs.declared.record.EncodedBuffer.{EncodedBuffer}
use Rattle.columns.specs.declared.record.EncodedBuffer.TheVariants.{Recording, Work}
use Rattle.columns.specs.declared.record.FieldRecord.{FieldRecord}
use Rattle.columns.specs.declared.writer.IpcMessageWriter.{IpcMessageWriter}
use Rattle.columns.specs.Buffers.{Makes, Lies}
use Rattle.columns.specs.Lists.{Lent, Grows}
use Rattle.columns.specs.Pieces.{Piece, made, lies, size_of, made_of, work_of, body_size, entry_of, entries}
use Rattle.columns.specs.Writing.{lent_nodes, lent_buffers, lent_work, Sends, RoomFor, Encodes, RoomToEncode}
use Rattle.columns.proofs.Lists.{grows_none, grows_more, grows_long}

-- ---- pieces one after another

pub work_of-append : (ps qs : List Piece) → work_of (ps ++ qs) ≡ work_of ps ++ work_of qs
work_of-append [] qs = refl
work_of-append (p ∷ ps) qs = ap (λ (bs : List ℕ). made_of p ++ bs) (work_of-append ps qs) ∙ sym (append_assoc (made_of p) (work_of ps) (work_of qs))

pub body_size-append : (al : ℕ) (ps qs : List Piece) → body_size al (ps ++ qs) ≡ body_size al ps + body_size al qs
body_size-append al [] qs = omega arith
body_size-append al (p ∷ ps) qs = omega (arith, body_size-append al ps qs)

pub entries-append : (al o w : ℕ) (ps qs : List Piece) → entries al o w (ps ++ qs) ≡ entries al o w ps ++ entries al (o + body_size al ps) (w + length (work_of ps)) qs
entries-append al o w [] qs = ap₂ (λ (o w : ℕ). entries al o w qs) (omega arith) (omega arith)
entries-append al o w (p ∷ ps) qs =
    let next : ℕ = o + padded al (size_of p) in
    let place : ℕ = w + length (made_of p) in
    let offset : next + body_size al ps ≡ o + body_size al (p ∷ ps) = omega arith in
    let long : place + length (work_of ps) ≡ w + length (work_of (p ∷ ps)) = omega (arith, length-append (made_of p) (work_of ps)) in
    ap (λ (es : List BufferEntry). entry_of o w p ∷ es)
    (entries-append al next place ps qs ∙ ap₂ (λ (x y : ℕ). entries al next place ps ++ entries al x y qs) offset long)

pub length-entries : (al o w : ℕ) (ps : List Piece) → length (entries al o w ps) ≡ length ps
length-entries al o w [] = refl
length-entries al o w (p ∷ ps) = ap suc (length-entries al (o + padded al (size_of p)) (w + length (made_of p)) ps)

-- ---- a writer, and what is sent after what was sent

pub sends_none : (a : IpcMessageWriter) → Sends [] [] a a
sends_none a = record { nodes = grows_none (lent_nodes a); buffers = grows_none (lent_buffers a); work = grows_none (lent_work a); offset = omega arith; alignment = refl }

module _ (fs gs : List FieldRecord) (ps qs : List Piece) where
  pub sends_more : (a b c : IpcMessageWriter) → Sends fs ps a b → Sends gs qs b c → Sends (fs ++ gs) (ps ++ qs) a c
  sends_more a b c s t = record {
    nodes = grows_more (lent_nodes a) (lent_nodes b) (lent_nodes c) fs gs s.nodes t.nodes;
    buffers =
        subst (Grows (lent_buffers a) (lent_buffers c)) (sym (entries-append a.alignment a.offset (lent_work a).len ps qs))
        (grows_more (lent_buffers a) (lent_buffers b) (lent_buffers c) _ _ s.buffers
        (subst (Grows (lent_buffers b) (lent_buffers c)) (ap (λ (al : ℕ). entries al b.offset (lent_work b).len qs) s.alignment ∙ ap₂ (λ (o w : ℕ). entries a.alignment o w qs) s.offset s.work.len) t.buffers));
    work = subst (Grows (lent_work a) (lent_work c)) (sym (work_of-append ps qs)) (grows_more (lent_work a) (lent_work b) (lent_work c) (work_of ps) (work_of qs) s.work t.work);
    offset = t.offset ∙ ap₂ (λ (o al : ℕ). o + body_size al qs) s.offset s.alignment ∙ omega (arith, body_size-append a.alignment ps qs);
    alignment = t.alignment ∙ s.alignment;
  }

  pub room_first : (a : IpcMessageWriter) → RoomFor (fs ++ gs) (ps ++ qs) a → RoomFor fs ps a
  room_first a r = record {
    nodes = omega (arith, r.nodes, length-append fs gs);
    buffers = omega (arith, r.buffers, length-append ps qs);
    work = omega (arith, r.work, ap length (work_of-append ps qs), length-append (work_of ps) (work_of qs));
    body = omega (arith, r.body, body_size-append a.alignment ps qs);
    aligned = r.aligned;
  }

  pub room_next : (a b : IpcMessageWriter) → RoomFor (fs ++ gs) (ps ++ qs) a → Sends fs ps a b → RoomFor gs qs b
  room_next a b r s =
      let all = ap length (work_of-append ps qs) in
      let same = ap (λ (al : ℕ). body_size al qs) s.alignment in
      record {
        nodes = omega (arith, r.nodes, length-append fs gs, s.nodes.len, grows_long (lent_nodes a) (lent_nodes b) fs s.nodes);
        buffers = omega (arith, r.buffers, length-append ps qs, s.buffers.len, length-entries a.alignment a.offset (lent_work a).len ps, grows_long (lent_buffers a) (lent_buffers b) _ s.buffers);
        work = omega (arith, r.work, all, length-append (work_of ps) (work_of qs), s.work.len, grows_long (lent_work a) (lent_work b) (work_of ps) s.work);
        body = omega (arith, r.body, same, s.offset, body_size-append a.alignment ps qs);
        aligned = omega (arith, r.aligned, s.alignment);
      }

-- ---- a buffer

-- as it stands in its record, after so much of the body
abbrev entry : ℕ → Buffer → BufferEntry
entry o x = record { buffer = record { offset = pos o; length = pos x.len }; source = x.source }

abbrev entry_as : ℕ → ℕ → EncodedBuffer → BufferEntry
entry_as o n e = record { buffer = record { offset = pos o; length = pos n }; source = e }

entry_same : (o n : ℕ) (e : EncodedBuffer) (x : Buffer) → x.len ≡ n → x.source ≡ e → entry o x ≡ entry_as o n e
entry_same o n e x l m = ap₂ (λ (n : ℕ) (e : EncodedBuffer). entry_as o n e) l m

-- it is made, and then encoded
module _ (a b c : IpcMessageWriter) (x : Buffer) (bs : List ℕ) (nodes : lent_nodes b ≡ lent_nodes a) (buffers : lent_buffers b ≡ lent_buffers a) (offset : b.offset ≡ a.offset)
    (alignment : b.alignment ≡ a.alignment) (name : b.work.ghost_name ≡ a.work.ghost_name) (len : b.work_len ≡ a.work_len + x.len) (makes : Makes bs a.work_len a.work.now b.work.now x) where
  made_grows : Grows (lent_work a) (lent_work b) bs
  made_grows = record { same_reference = name; memory = makes.memory; len = omega (arith, len, makes.long) }

  pub sends_made : Encodes b c x → Sends [] (made bs ∷ []) a c
  sends_made e = record {
    nodes = subst (λ (l : Lent FieldRecord). Grows l (lent_nodes c) []) nodes e.nodes;
    buffers =
        subst (λ (l : Lent BufferEntry). Grows l (lent_buffers c) (entry_as a.offset (length bs) (Work a.work_len) ∷ [])) buffers
        (subst (λ (y : BufferEntry). Grows (lent_buffers b) (lent_buffers c) (y ∷ [])) (ap (λ (o : ℕ). entry o x) offset ∙ entry_same a.offset (length bs) (Work a.work_len) x makes.long makes.source) e.buffers);
    work = grows_more (lent_work a) (lent_work b) (lent_work c) bs [] made_grows e.work;
    offset = e.offset ∙ ap₂ ◌+◌ offset (ap₂ padded alignment makes.long) ∙ omega arith;
    alignment = e.alignment ∙ alignment;
  }

  pub room_made : RoomFor [] (made bs ∷ []) a → RoomToEncode b x
  room_made r = record {
    buffers = subst (λ (l : Lent BufferEntry). l.len < length l.memory) (sym buffers) (omega (arith, r.buffers));
    body = omega (arith, r.body, offset, ap₂ padded alignment makes.long);
    aligned = omega (arith, r.aligned, alignment);
  }

-- it lies in the recording
pub sends_lies : (a c : IpcMessageWriter) (x : Buffer) (p : Piece) → Lies p x → Encodes a c x → Sends [] (p ∷ []) a c
sends_lies a c x (made bs) at e = absurd at
sends_lies a c x (lies p n) (source, long) e = record {
  nodes = e.nodes;
  buffers = subst (λ (y : BufferEntry). Grows (lent_buffers a) (lent_buffers c) (y ∷ [])) (entry_same a.offset n (Recording p) x long source) e.buffers;
  work = e.work;
  offset = e.offset ∙ ap (λ (k : ℕ). a.offset + padded a.alignment k) long ∙ omega arith;
  alignment = e.alignment;
}

pub room_lies : (a : IpcMessageWriter) (x : Buffer) (p : Piece) → Lies p x → RoomFor [] (p ∷ []) a → RoomToEncode a x
room_lies a x (made bs) at r = absurd at
room_lies a x (lies p n) (source, long) r = record {
  buffers = omega (arith, r.buffers);
  body = omega (arith, r.body, ap (padded a.alignment) long);
  aligned = r.aligned;
}
