-- A batch whose frames are written: what the memories hold and tell then.
use Rattle.std.proofs.Common.{◌≡◌, ℕ, suc, ◌+◌, ◌≤◌, List, [], ◌∷◌, ◌++◌, length, map, take, drop, sym, ◌∙◌, ap, ap₂, refl, arith}
use Rattle.std.proofs.lemmas.List.{take-append-drop, length-map}
use Rattle.std.proofs.Math.Seq.{take-append_seam, drop-append_seam}
use Rattle.columns.specs.declared.memory.Memory.{Memory}
use Rattle.columns.specs.declared.message.Message.{Message}
use Rattle.columns.specs.declared.record.BufferEntry.{BufferEntry}
use Rattle.columns.specs.declared.record.FieldRecord.{FieldRecord}
use Rattle.columns.specs.Lists.{over}
use Rattle.columns.specs.Memories.{Planned}
use Rattle.columns.specs.Plans.{ToSend, message_entry}
use Rattle.columns.specs.Telling.{Told, Tells, told, told_all}
use Rattle.columns.proofs.Lists.{over_is, length-over}
use Rattle.columns.proofs.PlanTold.{room}
use Rattle.frames.specs.Batches.{Goes, Written, sent_all}
use Rattle.frames.specs.Frames.{FormBytes, has_headers, frames, pieces, framed, with_headers}
use Rattle.frames.specs.Sinks.{SinkMeaning, has_room, with_pieces}

-- the length of a header tells a reader nothing
pub told_framed : (al : ℕ) (form : FormBytes) (o : ℕ) (ts : List Told) (bs work : List ℕ) (fs : List FieldRecord) (es : List BufferEntry) (ms : List Message)
    → told_all bs work fs es (framed al form o ts ms) ≡ told_all bs work fs es ms
told_framed al form o [] bs work fs es ms = refl
told_framed al form o (t ∷ ts) bs work fs es [] = refl
told_framed al form o (t ∷ ts) bs work fs es (m ∷ ms) = ap (λ (xs : List Told). told bs work fs es m ∷ xs) (told_framed al form (o + 1) ts bs work (drop m.fields fs) (drop m.buffers es) ms)

length-framed : (al : ℕ) (form : FormBytes) (o : ℕ) (ts : List Told) (ms : List Message) → length (framed al form o ts ms) ≡ length ms
length-framed al form o [] ms = refl
length-framed al form o (t ∷ ts) [] = refl
length-framed al form o (t ∷ ts) (m ∷ ms) = ap suc (length-framed al form (o + 1) ts ms)

at_first : {X : Type 0} (ys xs : List X) → length ys ≤ length xs → over xs 0 ys ≡ ys ++ drop (length ys) xs
at_first ys xs l = over_is ys xs 0 (omega (arith, l)) ∙ ap (λ (k : ℕ). ys ++ drop k xs) (omega arith)

-- ---- the messages of a plan

module _ (al : ℕ) (ms : List ToSend) (before mid : Memory) (n : ℕ) (p : Planned al ms before mid n) where
  entries : List Message
  entries = map (message_entry al) ms

  long : length (map (message_entry al) ms) ≡ length ms
  long = length-map ms (message_entry al)

  fit : length ms ≤ length before.messages.now
  fit = (room _ _ _ _ before p.room).some_messages

  planned : mid.messages.now ≡ map (message_entry al) ms ++ drop n before.messages.now
  planned = p.messages ∙ at_first (map (message_entry al) ms) before.messages.now (omega (arith, fit, long)) ∙ ap (λ (k : ℕ). map (message_entry al) ms ++ drop k before.messages.now) (long ∙ sym p.count)

  first_are : take n mid.messages.now ≡ map (message_entry al) ms
  first_are = ap₂ take (p.count ∙ sym long) planned ∙ take-append_seam (map (message_entry al) ms) _

  rest_are : drop n mid.messages.now ≡ drop n before.messages.now
  rest_are = ap₂ (λ (k : ℕ) (xs : List Message). drop k xs) (p.count ∙ sym long) planned ∙ drop-append_seam (map (message_entry al) ms) _

  pub planned_within : n ≤ length mid.messages.now
  planned_within = omega (arith, fit, p.count, ap length p.messages ∙ length-over (map (message_entry al) ms) before.messages.now 0)

  -- the first are written over, and the rest stays
  pub framed_over : (form : FormBytes) (o : ℕ) (ts : List Told) (after : List Message) → take n after ≡ framed al form o ts (take n mid.messages.now) → drop n after ≡ drop n mid.messages.now
      → after ≡ over before.messages.now 0 (framed al form o ts (map (message_entry al) ms))
  framed_over form o ts after first rest =
      let ys = framed al form o ts (map (message_entry al) ms) in
      let count : length ys ≡ n = length-framed al form o ts (map (message_entry al) ms) ∙ long ∙ sym p.count in
      sym (take-append-drop n after)
      ∙ ap₂ (λ (xs zs : List Message). xs ++ zs) (first ∙ ap (framed al form o ts) first_are) (rest ∙ rest_are)
      ∙ ap (λ (k : ℕ). ys ++ drop k before.messages.now) (sym count)
      ∙ sym (at_first ys before.messages.now (omega (arith, count, fit, p.count)))

-- ---- all of it

-- the messages tell the same with the lengths of their headers
pub told_again : (al : ℕ) (form : FormBytes) (o : ℕ) (bs : List ℕ) (ms : List ToSend) (mid after : Memory) (n : ℕ) → Tells al bs ms mid n
    → after.work.now ≡ mid.work.now → after.fields.now ≡ mid.fields.now → after.buffers.now ≡ mid.buffers.now
    → take n after.messages.now ≡ framed al form o (told_all bs mid.work.now mid.fields.now mid.buffers.now (take n mid.messages.now)) (take n mid.messages.now)
    → Tells al bs ms after n
told_again al form o bs ms mid after n t w f b m = record {
  told = rw (w, f, b, m) (told_framed al form o (told_all bs mid.work.now mid.fields.now mid.buffers.now (take n mid.messages.now)) bs mid.work.now mid.fields.now mid.buffers.now (take n mid.messages.now) ∙ t.told);
  given_back = t.given_back;
}

pub written : (cost al : ℕ) (form : FormBytes) (o : ℕ) (bs : List ℕ) (ms : List ToSend) (before mid after : Memory) (n : ℕ) (sink_before sink_after : SinkMeaning)
    → Planned al ms before mid n → Tells al bs ms mid n
    → Goes cost al form o (told_all bs mid.work.now mid.fields.now mid.buffers.now (take n mid.messages.now)) (take n mid.messages.now) (take n after.messages.now) mid.metadata.now after.metadata.now sink_before sink_after
    → drop n after.messages.now ≡ drop n mid.messages.now
    → after.work.now ≡ mid.work.now → after.fields.now ≡ mid.fields.now → after.buffers.now ≡ mid.buffers.now
    → after.fields.ghost_name ≡ mid.fields.ghost_name → after.buffers.ghost_name ≡ mid.buffers.ghost_name → after.messages.ghost_name ≡ mid.messages.ghost_name
    → after.work.ghost_name ≡ mid.work.ghost_name → after.metadata.ghost_name ≡ mid.metadata.ghost_name
    → Written cost al form o ms before after sink_before sink_after n
written cost al form o bs ms before mid after n sink_before sink_after p t g rest w f b nf nb nm nw nd =
    let over_all = framed_over al ms before mid n p form o (sent_all al ms) after.messages.now
    (g.messages ∙ ap (λ (ts : List Told). framed al form o ts (take n mid.messages.now)) t.told) rest in
    record {
      count = p.count;
      enough = p.room;
      headed = sym (ap (has_headers form o) t.told) ∙ g.headed;
      room = sym (ap (λ (ts : List Told). has_room cost (length (frames al form o ts)) (length (pieces al form o ts)) sink_before) t.told) ∙ g.room;
      fields = f ∙ p.fields;
      buffers = b ∙ p.buffers;
      messages = over_all;
      work = w ∙ p.work;
      metadata = g.metadata ∙ ap₂ (λ (ts : List Told) (md : List ℕ). with_headers form o ts md) t.told p.metadata;
      taken = g.taken ∙ ap (λ (ts : List Told). with_pieces cost (frames al form o ts) (pieces al form o ts) sink_before) t.told;
      same_fields = nf ∙ p.same_fields;
      same_buffers = nb ∙ p.same_buffers;
      same_messages = nm ∙ p.same_messages;
      same_work = nw ∙ p.same_work;
      same_metadata = nd ∙ p.same_metadata;
    }
