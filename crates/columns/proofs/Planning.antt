-- The messages of a batch, one after another.
use Rattle.std.proofs.Common.{◌≡◌, ℕ, ◌+◌, ◌-◌, List, [], ◌∷◌, ◌++◌, map, length, sym, refl, ap, ap₂, ◌∙◌, subst, arith}
use Rattle.std.proofs.lemmas.List.{length-append, append-nil, append_assoc, map-append, length-map}
use Rattle.layout.specs.Windows as layout
use Rattle.columns.specs.declared.message.Message.{Message}
use Rattle.columns.specs.declared.message.MessageKind.{MessageKind}
use Rattle.columns.specs.declared.record.BufferEntry.{BufferEntry}
use Rattle.columns.specs.declared.record.FieldRecord.{FieldRecord}
use Rattle.columns.specs.declared.writer.IpcMessageWriter.{IpcMessageWriter}
use Rattle.columns.specs.Lists.{Lent, Grows}
use Rattle.columns.specs.Pieces.{Piece, work_of, body_size, entries, fields_in, fields_side, pieces_in, pieces_side}
use Rattle.columns.specs.Plans.{ToSend, message_fields, message_pieces, message_entry, all_fields, all_pieces, all_entries, BodiesFit, MessagesSent, RoomForMessages}
use Rattle.columns.specs.Writing.{lent_nodes, lent_buffers, lent_work, Sends, RoomFor}
use Rattle.columns.proofs.Lists.{grows_none, grows_more, grows_long}
use Rattle.columns.proofs.Sending.{work_of-append, length-entries}

-- ---- one message

-- the same writer with an empty body
abbrev pub begun : IpcMessageWriter → IpcMessageWriter
begun a =
    record {
      fields = a.fields;
      field_count = a.field_count;
      buffers = a.buffers;
      buffer_count = a.buffer_count;
      work = a.work;
      work_len = a.work_len;
      offset = 0;
      alignment = a.alignment;
    }

module _ (m : ToSend) (a b : IpcMessageWriter) (l : Lent Message) where
  pub message_room : RoomForMessages (m ∷ []) a l → RoomFor (message_fields m) (message_pieces m) (begun a)
  message_room r = record {
    nodes = omega (arith, r.nodes, ap length (append-nil (message_fields m)));
    buffers = omega (arith, r.buffers, ap length (append-nil (message_pieces m)));
    work = omega (arith, r.work, ap (λ (ps : List Piece). length (work_of ps)) (append-nil (message_pieces m)));
    body = omega (arith, r.bodies.0);
    aligned = r.aligned;
  }

  module _ (s : Sends (message_fields m) (message_pieces m) (begun a) b) where
    pub message_is : (k : MessageKind) (r : ℕ) → k ≡ m.kind → r ≡ m.rows
        → record { kind = k; id = m.id; rows = r; fields = (lent_nodes b).len - (lent_nodes a).len; buffers = (lent_buffers b).len - (lent_buffers a).len; lengths = (0, b.offset) } ≡ message_entry a.alignment m
    message_is k r kind rows =
        let fields : (lent_nodes b).len - (lent_nodes a).len ≡ length (message_fields m) = omega (arith, s.nodes.len) in
        let buffers : (lent_buffers b).len - (lent_buffers a).len ≡ length (message_pieces m) = omega (arith, s.buffers.len, length-entries a.alignment 0 (lent_work a).len (message_pieces m)) in
        let body : b.offset ≡ body_size a.alignment (message_pieces m) = omega (arith, s.offset) in
        ap₂ (λ (k : MessageKind) (r : ℕ). record { kind = k; id = m.id; rows = r; fields = (lent_nodes b).len - (lent_nodes a).len; buffers = (lent_buffers b).len - (lent_buffers a).len; lengths = (0, b.offset) }) kind rows
        ∙ ap₂ (λ (f n : ℕ). record { kind = m.kind; id = m.id; rows = m.rows; fields = f; buffers = n; lengths = (0, b.offset) }) fields buffers
        ∙ ap (λ (o : ℕ). record { kind = m.kind; id = m.id; rows = m.rows; fields = length (message_fields m); buffers = length (message_pieces m); lengths = (0, o) }) body

    pub message_sent : (to : Lent Message) → Grows l to (message_entry a.alignment m ∷ []) → MessagesSent (m ∷ []) a b l to
    message_sent to g = record {
      nodes = subst (Grows (lent_nodes a) (lent_nodes b)) (sym (append-nil (message_fields m))) s.nodes;
      buffers = subst (Grows (lent_buffers a) (lent_buffers b)) (sym (append-nil (entries a.alignment 0 (lent_work a).len (message_pieces m)))) s.buffers;
      work = subst (λ (ps : List Piece). Grows (lent_work a) (lent_work b) (work_of ps)) (sym (append-nil (message_pieces m))) s.work;
      messages = g;
      alignment = s.alignment;
    }

-- ---- a message of one window

module _ (w : layout.Window) (a b : IpcMessageWriter) where
  pub alone_room : RoomFor (fields_side (w ∷ [])) (pieces_side (w ∷ [])) a → RoomFor (fields_in w) (pieces_in w) a
  alone_room r =
      subst (λ (fs : List FieldRecord). RoomFor fs (pieces_in w) a) (append-nil (fields_in w))
      (subst (λ (ps : List Piece). RoomFor (fields_side (w ∷ [])) ps a) (append-nil (pieces_in w)) r)

  pub alone_sent : Sends (fields_in w) (pieces_in w) a b → Sends (fields_side (w ∷ [])) (pieces_side (w ∷ [])) a b
  alone_sent s =
      subst (λ (fs : List FieldRecord). Sends fs (pieces_side (w ∷ [])) a b) (sym (append-nil (fields_in w)))
      (subst (λ (ps : List Piece). Sends (fields_in w) ps a b) (sym (append-nil (pieces_in w))) s)

-- ---- messages one after another

pub messages_none : (a : IpcMessageWriter) (l : Lent Message) → MessagesSent [] a a l l
messages_none a l = record { nodes = grows_none (lent_nodes a); buffers = grows_none (lent_buffers a); work = grows_none (lent_work a); messages = grows_none l; alignment = refl }

pub all_fields-append : (ms ns : List ToSend) → all_fields (ms ++ ns) ≡ all_fields ms ++ all_fields ns
all_fields-append [] ns = refl
all_fields-append (m ∷ ms) ns = ap (λ (fs : List FieldRecord). message_fields m ++ fs) (all_fields-append ms ns) ∙ sym (append_assoc (message_fields m) (all_fields ms) (all_fields ns))

pub all_pieces-append : (ms ns : List ToSend) → all_pieces (ms ++ ns) ≡ all_pieces ms ++ all_pieces ns
all_pieces-append [] ns = refl
all_pieces-append (m ∷ ms) ns = ap (λ (ps : List Piece). message_pieces m ++ ps) (all_pieces-append ms ns) ∙ sym (append_assoc (message_pieces m) (all_pieces ms) (all_pieces ns))

pub all_entries-append : (al w : ℕ) (ms ns : List ToSend) → all_entries al w (ms ++ ns) ≡ all_entries al w ms ++ all_entries al (w + length (work_of (all_pieces ms))) ns
all_entries-append al w [] ns = ap (λ (w : ℕ). all_entries al w ns) (omega arith)
all_entries-append al w (m ∷ ms) ns =
    let next : ℕ = w + length (work_of (message_pieces m)) in
    let whole : next + length (work_of (all_pieces ms)) ≡ w + length (work_of (all_pieces (m ∷ ms))) =
    omega (arith, ap length (work_of-append (message_pieces m) (all_pieces ms)), length-append (work_of (message_pieces m)) (work_of (all_pieces ms))) in
    ap (λ (es : List BufferEntry). entries al 0 w (message_pieces m) ++ es) (all_entries-append al next ms ns ∙ ap (λ (w : ℕ). all_entries al next ms ++ all_entries al w ns) whole)
    ∙ sym (append_assoc (entries al 0 w (message_pieces m)) (all_entries al next ms) _)

pub length-all_entries : (al w : ℕ) (ms : List ToSend) → length (all_entries al w ms) ≡ length (all_pieces ms)
length-all_entries al w [] = refl
length-all_entries al w (m ∷ ms) =
    length-append (entries al 0 w (message_pieces m)) _ ∙ ap₂ (λ (x y : ℕ). x + y) (length-entries al 0 w (message_pieces m)) (length-all_entries al (w + length (work_of (message_pieces m))) ms) ∙ sym (length-append (message_pieces m) (all_pieces ms))

pub bodies_first : (al : ℕ) (ms ns : List ToSend) → BodiesFit al (ms ++ ns) → BodiesFit al ms
bodies_first al [] ns h = tt
bodies_first al (m ∷ ms) ns h = (h.0, bodies_first al ms ns h.1)

pub bodies_both : (al : ℕ) (ms ns : List ToSend) → BodiesFit al ms → BodiesFit al ns → BodiesFit al (ms ++ ns)
bodies_both al [] ns g h = h
bodies_both al (m ∷ ms) ns g h = (g.0, bodies_both al ms ns g.1 h)

pub bodies_rest : (al : ℕ) (ms ns : List ToSend) → BodiesFit al (ms ++ ns) → BodiesFit al ns
bodies_rest al [] ns h = h
bodies_rest al (m ∷ ms) ns h = bodies_rest al ms ns h.1

module _ (ms ns : List ToSend) (a b : IpcMessageWriter) (k l : Lent Message) where
  all_work : work_of (all_pieces (ms ++ ns)) ≡ work_of (all_pieces ms) ++ work_of (all_pieces ns)
  all_work = ap work_of (all_pieces-append ms ns) ∙ work_of-append (all_pieces ms) (all_pieces ns)

  pub messages_more : MessagesSent ms a b k l → (c : IpcMessageWriter) (n : Lent Message) → MessagesSent ns b c l n → MessagesSent (ms ++ ns) a c k n
  messages_more s c n t = record {
    nodes = subst (Grows (lent_nodes a) (lent_nodes c)) (sym (all_fields-append ms ns)) (grows_more (lent_nodes a) (lent_nodes b) (lent_nodes c) (all_fields ms) (all_fields ns) s.nodes t.nodes);
    buffers =
        subst (Grows (lent_buffers a) (lent_buffers c)) (sym (all_entries-append a.alignment (lent_work a).len ms ns))
        (grows_more (lent_buffers a) (lent_buffers b) (lent_buffers c) _ _ s.buffers (subst (Grows (lent_buffers b) (lent_buffers c)) (ap₂ (λ (al w : ℕ). all_entries al w ns) s.alignment s.work.len) t.buffers));
    work = subst (Grows (lent_work a) (lent_work c)) (sym all_work) (grows_more (lent_work a) (lent_work b) (lent_work c) (work_of (all_pieces ms)) (work_of (all_pieces ns)) s.work t.work);
    messages =
        subst (Grows k n) (sym (map-append (message_entry a.alignment) ms ns))
        (grows_more k l n _ _ s.messages (subst (Grows l n) (ap (λ (al : ℕ). map (message_entry al) ns) s.alignment) t.messages));
    alignment = t.alignment ∙ s.alignment;
  }

  pub messages_first : RoomForMessages (ms ++ ns) a k → RoomForMessages ms a k
  messages_first r = record {
    nodes = omega (arith, r.nodes, ap length (all_fields-append ms ns), length-append (all_fields ms) (all_fields ns));
    buffers = omega (arith, r.buffers, ap length (all_pieces-append ms ns), length-append (all_pieces ms) (all_pieces ns));
    work = omega (arith, r.work, ap length all_work, length-append (work_of (all_pieces ms)) (work_of (all_pieces ns)));
    messages = omega (arith, r.messages, length-append ms ns);
    bodies = bodies_first a.alignment ms ns r.bodies;
    aligned = r.aligned;
  }

  pub messages_next : RoomForMessages (ms ++ ns) a k → MessagesSent ms a b k l → RoomForMessages ns b l
  messages_next r s = record {
    nodes = omega (arith, r.nodes, ap length (all_fields-append ms ns), length-append (all_fields ms) (all_fields ns), s.nodes.len, grows_long (lent_nodes a) (lent_nodes b) _ s.nodes);
    buffers = omega (arith, r.buffers, ap length (all_pieces-append ms ns), length-append (all_pieces ms) (all_pieces ns), s.buffers.len, length-all_entries a.alignment (lent_work a).len ms, grows_long (lent_buffers a) (lent_buffers b) _ s.buffers);
    work = omega (arith, r.work, ap length all_work, length-append (work_of (all_pieces ms)) (work_of (all_pieces ns)), s.work.len, grows_long (lent_work a) (lent_work b) _ s.work);
    messages = omega (arith, r.messages, length-append ms ns, s.messages.len, length-map ms (message_entry a.alignment), grows_long k l _ s.messages);
    bodies = subst (λ (al : ℕ). BodiesFit al ns) (sym s.alignment) (bodies_rest a.alignment ms ns r.bodies);
    aligned = omega (arith, r.aligned, s.alignment);
  }
