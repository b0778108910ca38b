-- The ways out of a batch: what it answers, and what it leaves, is what its turn says.
use Rattle.std.proofs.Common.{◌≡◌, ℕ, ◌+◌, ◌<◌, ◌≤◌, inl, inr, Bool, true, false, cond, List, [], ◌∷◌, map, length, None, Some, Option, Ok, Err, Result, sym, ◌∙◌, ap, ap₂, refl, subst, arith}
use Rattle.std.specs.Prelude.{nat_lt}
use Rattle.std.proofs.lemmas.Bool.{and_parts, lt-ltb, lt-leb, le-ltb}
use Rattle.std.proofs.lemmas.List.{length-map, length-append}
use Rattle.layout.specs.declared.fault.Fault.{Fault}
use Rattle.layout.specs.declared.fault.Refusal.TheVariants as fault
use Rattle.layout.specs.Faults.{fault_of}
use Rattle.layout.specs.Windows.{shown_side}
use Rattle.recording.specs.declared.columns.Columns.{Columns}
use Rattle.recording.specs.declared.recording.Recording.{Recording}
use Rattle.recording.specs.ColumnPlaces.{ColumnsFound}
use Rattle.recording.specs.View.{nodes_in, bytes_in}
use Rattle.recording.specs.Windows.{window_at}
use Rattle.dictionaries.specs.declared.update.DictionaryToEncode.{DictionaryToEncode}
use Rattle.dictionaries.specs.declared.update.DictionaryUpdate.{DictionaryUpdate}
use Rattle.dictionaries.specs.declared.update.DictionaryValues.{DictionaryValues}
use Rattle.dictionaries.specs.declared.update.MetDictionary.{MetDictionary}
use Rattle.dictionaries.specs.Batches.{AreMet, column_windows, met_in_batch, kept_in_batch, updates_of_batch, kept_after}
use Rattle.dictionaries.specs.Collecting.{Met, Kept, collected}
use Rattle.dictionaries.specs.Laws.{shown_after}
use Rattle.dictionaries.specs.Sending.{encoded_by}
use Rattle.dictionaries.specs.Tracking.{kept_shown}
use Rattle.dictionaries.specs.Walking.{updates_in, update_in}
use Rattle.dictionaries.proofs.Laws.{keeps_shown}
use Rattle.columns.specs.declared.memory.Memory.{Memory}
use Rattle.columns.specs.Laws.{EachMessageInside}
use Rattle.columns.specs.Lists.{over}
use Rattle.columns.specs.Memories.{short_for, Planned}
use Rattle.columns.specs.Plans as plan
use Rattle.columns.specs.Plans.{ToSend, messages_of, message_entry, all_entries}
use Rattle.columns.specs.Telling.{Shows, Told, shows, sent_as, sent_of}
use Rattle.frames.specs.Batches as frame
use Rattle.frames.specs.Batches.{StaysFor, Unwritten}
use Rattle.frames.specs.Frames.{has_headers, frames, pieces, framed, with_headers}
use Rattle.frames.specs.Headers.{is_header, over_front}
use Rattle.frames.specs.Sinks.{SinkMeaning, has_room, with_pieces}
use Rattle.runs.specs.Calls.{Call, Setting, nothing, alignment}
use Rattle.runs.specs.Layers.{recorded, later_in, lent_by}
use Rattle.runs.specs.Looks.{Look, look}
use Rattle.runs.specs.Turns.{State, Turn, short, headers, entries, lengths_of, planned, written, all_fields, all_buffers, entry, refuse, accept, on_frames, on_plan, on_updates, on_look, on_batch, on_open, turn}
use Rattle.runs.proofs.Layers.{layers_agree}
use Rattle.stream.specs.declared.stream.Accepted.{Accepted}
use Rattle.stream.specs.Batches.{Fronts, Leaves, BatchTook, with_each}

-- ---- plain steps

told_of : (al : ℕ) (ms : List ToSend) → map (sent_of al) (map shows ms) ≡ map (sent_as al) ms
told_of al [] = refl
told_of al (m ∷ ms) = ap (λ (ts : List Told). sent_as al m ∷ ts) (told_of al ms)

-- headers that the form has go to the front in turn
each_header : (e : Setting) (o : ℕ) (ts : List Told) (memory : List ℕ) → has_headers e.form o ts ≡ true → with_headers e.form o ts memory ≡ with_each (headers e o ts) memory
each_header e o [] memory h = refl
each_header e o (t ∷ ts) memory h =
    let both = and_parts (is_header (e.form o t.message)) (has_headers e.form (o + 1) ts) h in
    ap (λ (b : Bool). with_headers e.form (o + 1) ts (over_front (cond b (Some (e.form o t.message)) None) memory)) both.0
    ∙ each_header e (o + 1) ts (over_front (Some (e.form o t.message)) memory) both.1

at_most_one : (rec : Recording) (d : Option DictionaryToEncode) → length (plan.sent_by rec d) ≤ 1
at_most_one rec None = omega arith
at_most_one rec (Some d) = one (plan.has_rows rec d)
  where
    one : (b : Bool) → length (cond b (plan.dictionary_message d (window_at rec d.node d.first d.rows) ∷ []) []) ≤ 1
    one true = omega arith
    one false = omega arith

-- a batch sends at most one message more than it meets dictionaries
few_by : (rec : Recording) (id : ℕ) (ms : List MetDictionary) → length (plan.all_sent rec id ms) ≤ length ms
few_by rec id [] = omega arith
few_by rec id (m ∷ ms) = omega (arith, length-append (plan.sent_of rec id m) (plan.all_sent rec (id + 1) ms), at_most_one rec (encoded_by id m m.update), few_by rec (id + 1) ms)

pub few_messages : (c : Columns) (ms : List MetDictionary) → length (messages_of c ms) ≤ length ms + 1
few_messages c ms = omega (arith, length-append (plan.all_sent c.recording 0 ms) (plan.batch_message c ∷ []), few_by c.recording 0 ms)

-- ---- nothing is left

nothing_over : {X Y : Type 0} (read : X → Y) (xs : List X) → Fronts read [] xs xs
nothing_over read xs = record { written = []; reads = refl; memory = refl }

pub leaves_nothing : (m : Memory) (us : List DictionaryUpdate) → Leaves nothing m m us us
leaves_nothing m us = record {
  fields = nothing_over _ _;
  buffers = nothing_over _ _;
  messages = nothing_over _ _;
  work = refl;
  metadata = refl;
  updates = refl;
  same_fields = refl;
  same_buffers = refl;
  same_messages = refl;
  same_work = refl;
  same_metadata = refl;
}

stays : (s : State) (f : Fault) (m : Memory) (us : List DictionaryUpdate) → BatchTook (refuse nothing f s) (Err f) s m m us us
stays s f m us = record { answer = refl; state = refl; leaves = leaves_nothing m us }

-- ---- the frames of messages

abbrev pub room_for : Setting → State → List Told → Bool
room_for e s ts = has_room e.cost (length (frames (alignment e) e.form s.messages ts)) (length (pieces (alignment e) e.form s.messages ts)) s.sink

module _ (e : Setting) (s : State) (ds : List Met) (us : List DictionaryUpdate) (ms : List ToSend) where
  by_headers : (b : Bool) → has_headers e.form s.messages (map (sent_as (alignment e)) ms) ≡ b → on_frames e s ds us (map shows ms)
      ≡ cond b (cond (room_for e s (map (sent_of (alignment e)) (map shows ms))) (accept e s ds us (map shows ms)) (refuse (planned (alignment e) (map shows ms)) (fault_of fault.Sink 0 0) s))
      (refuse (planned (alignment e) (map shows ms)) (fault_of fault.Header 0 0) s)
  by_headers b h =
      ap (λ (x : Bool). cond x (cond (room_for e s (map (sent_of (alignment e)) (map shows ms))) (accept e s ds us (map shows ms)) (refuse (planned (alignment e) (map shows ms)) (fault_of fault.Sink 0 0) s))
      (refuse (planned (alignment e) (map shows ms)) (fault_of fault.Header 0 0) s)) (ap (has_headers e.form s.messages) (told_of (alignment e) ms) ∙ h)

  by_room : (b : Bool) → has_headers e.form s.messages (map (sent_as (alignment e)) ms) ≡ true → room_for e s (map (sent_as (alignment e)) ms) ≡ b → on_frames e s ds us (map shows ms)
      ≡ cond b (accept e s ds us (map shows ms)) (refuse (planned (alignment e) (map shows ms)) (fault_of fault.Sink 0 0) s)
  by_room b h r =
      by_headers true h
      ∙ ap (λ (x : Bool). cond x (accept e s ds us (map shows ms)) (refuse (planned (alignment e) (map shows ms)) (fault_of fault.Sink 0 0) s)) (ap (room_for e s) (told_of (alignment e) ms) ∙ r)

  -- 16 or 17
  frames_refused : (f : Fault) → StaysFor e.cost (alignment e) e.form s.messages (map (sent_as (alignment e)) ms) s.sink f → on_frames e s ds us (map shows ms) ≡ refuse (planned (alignment e) (map shows ms)) f s
  frames_refused f (inl a) = by_headers false a.0 ∙ ap (λ (x : Fault). refuse (planned (alignment e) (map shows ms)) x s) (sym a.1)
  frames_refused f (inr a) = by_room false a.0 a.1 ∙ ap (λ (x : Fault). refuse (planned (alignment e) (map shows ms)) x s) (sym a.2)

  plan_left : (before after : Memory) (k : ℕ) (vs : List DictionaryUpdate) → EachMessageInside ms → Planned (alignment e) ms before after k → Leaves (planned (alignment e) (map shows ms)) before after vs vs
  plan_left before after k vs i p =
      let al = alignment e in
      record {
        fields = record { written = plan.all_fields ms; reads = layers_agree.fields al ms ∙ ap all_fields (sym (told_of al ms)); memory = p.fields };
        buffers = record { written = all_entries al 0 ms; reads = layers_agree.buffers al ms i ∙ ap all_buffers (sym (told_of al ms)); memory = p.buffers };
        messages = record { written = map (message_entry al) ms; reads = layers_agree.messages al ms i ∙ ap (map (entry 0)) (sym (told_of al ms)); memory = p.messages };
        work = p.work ∙ ap (over before.work.now 0) (layers_agree.work ms i);
        metadata = p.metadata;
        updates = refl;
        same_fields = p.same_fields;
        same_buffers = p.same_buffers;
        same_messages = p.same_messages;
        same_work = p.same_work;
        same_metadata = p.same_metadata;
      }

  frames_left : (before after : Memory) (k : ℕ) (vs ws : List DictionaryUpdate) (sink : SinkMeaning) → EachMessageInside ms → frame.Written e.cost (alignment e) e.form s.messages ms before after s.sink sink k
      → ws ≡ over vs 0 us → Leaves (written e s.messages (map shows ms) us) before after vs ws
  frames_left before after k vs ws sink i w h =
      let al = alignment e in
      record {
        fields = record { written = plan.all_fields ms; reads = layers_agree.fields al ms ∙ ap all_fields (sym (told_of al ms)); memory = w.fields };
        buffers = record { written = all_entries al 0 ms; reads = layers_agree.buffers al ms i ∙ ap all_buffers (sym (told_of al ms)); memory = w.buffers };
        messages = record {
          written = framed al e.form s.messages (map (sent_as al) ms) (map (message_entry al) ms);
          reads = layers_agree.framed_messages e s.messages ms i ∙ ap (entries e s.messages) (sym (told_of al ms));
          memory = w.messages;
        };
        work = w.work ∙ ap (over before.work.now 0) (layers_agree.work ms i);
        metadata = w.metadata ∙ each_header e s.messages (map (sent_as al) ms) before.metadata.now w.headed ∙ ap (λ (ts : List Told). with_each (headers e s.messages ts) before.metadata.now) (sym (told_of al ms));
        updates = h;
        same_fields = w.same_fields;
        same_buffers = w.same_buffers;
        same_messages = w.same_messages;
        same_work = w.same_work;
        same_metadata = w.same_metadata;
      }

-- ---- the turn of a batch

-- columns that are found are of the recording, which shows what is kept
pub kept_there : (rec : Recording) (c : Columns) (ks : List (Option DictionaryValues)) → c.recording ≡ rec → map (kept_shown (nodes_in rec) (bytes_in rec)) ks ≡ kept_in_batch c ks
kept_there rec c ks h = ap (λ (r : Recording). map (kept_shown (nodes_in r) (bytes_in r)) ks) (sym h)

-- by code's own values
abbrev pub batch_turn : Setting → Recording → ℕ → ℕ → ℕ → Memory → State → Turn
batch_turn e rec first count n m s = turn e (recorded rec) (Call.batch first count n (lent_by m)) s

module _ (e : Setting) (rec : Recording) (first count n : ℕ) (m : Memory) (s : State) (open_yet : s.ended ≡ false) (few : s.messages < 4000000000) where
  -- the stream has not ended, nor are its messages too many
  begun : (b : Bool) → nat_lt 2147483647 n ≡ b
      → batch_turn e rec first count n m s ≡ on_batch e s n (lent_by m) (look (recorded rec) first count n) (cond b (Some (fault_of fault.Rows 0 0)) None)
  begun b q =
      let l : Look = look (recorded rec) first count n in
      ap (λ (x : Bool). on_open e s x (recorded rec) (Call.batch first count n (lent_by m))) open_yet
      ∙ ap (λ (x : Bool). on_batch e s n (lent_by m) l (cond x (Some (fault_of fault.Ended 0 0)) (cond (nat_lt 2147483647 n) (Some (fault_of fault.Rows 0 0)) None))) (lt-leb 4000000000 s.messages few)
      ∙ ap (λ (x : Bool). on_batch e s n (lent_by m) l (cond x (Some (fault_of fault.Rows 0 0)) None)) q

  looked : n ≤ 2147483647 → batch_turn e rec first count n m s ≡ on_look e s n (lent_by m) (look (recorded rec) first count n)
  looked h = begun false (le-ltb 2147483647 n h)

  stays_so : (f : Fault) (us : List DictionaryUpdate) (r : Result Accepted Fault) (next : State) → r ≡ Err f → next ≡ s → batch_turn e rec first count n m s ≡ refuse nothing f s
      → BatchTook (batch_turn e rec first count n m s) r next m m us us
  stays_so f us r next q same t = rw (q, same, t) (stays s f m us)

  -- ---- the columns are refused: 15 or 10

  lacks : (f : Fault) → n ≤ 2147483647 → ColumnsFound rec first count n (Err f) → batch_turn e rec first count n m s ≡ refuse nothing f s
  lacks f h a =
      let l = layers_agree.lacked rec first count n f h a in
      looked h ∙ ap (on_look e s n (lent_by m)) l.1 ∙ ap (λ (x : Fault). refuse nothing x s) (sym l.2)

  by_columns : (f : Fault) → ColumnsFound rec first count n (Err f) → batch_turn e rec first count n m s ≡ refuse nothing f s
  by_columns f (inl r) = begun true (lt-ltb 2147483647 n r.1) ∙ ap (λ (x : Fault). refuse nothing x s) (sym r.0)
  by_columns f (inr u) = lacks f u.few (inr u)

  pub columns_refused : (f : Fault) (us : List DictionaryUpdate) (r : Result Accepted Fault) → r ≡ Err f → ColumnsFound rec first count n (Err f) → BatchTook (batch_turn e rec first count n m s) r s m m us us
  columns_refused f us r q a = stays_so f us r s q refl (by_columns f a)

  -- ---- columns are found

  module _ (c : Columns) (ks : List (Option DictionaryValues)) (found : ColumnsFound rec first count n (Ok c)) (kept : s.kept ≡ kept_in_batch c ks) where
    met_so : batch_turn e rec first count n m s
        ≡ on_updates e s n (lent_by m) (shown_side (column_windows c)) (later_in rec first count) (updates_of_batch e.options ks c)
    met_so =
        looked found.0.0
        ∙ ap (on_look e s n (lent_by m)) (layers_agree.found rec first count n c found)
        ∙ ap (λ (x : List Kept). on_updates e s n (lent_by m) (shown_side (column_windows c)) (later_in rec first count) (collected e.options x (met_in_batch c))) kept

    -- the dictionaries are refused: 11, 12 or 13
    pub met_refused : (f : Fault) (us : List DictionaryUpdate) (r : Result Accepted Fault) (next : State) → r ≡ Err f → next ≡ s → updates_of_batch e.options ks c ≡ Err f
        → BatchTook (batch_turn e rec first count n m s) r next m m us us
    met_refused f us r next q same u = stays_so f us r next q same (met_so ∙ ap (on_updates e s n (lent_by m) (shown_side (column_windows c)) (later_in rec first count)) u)

    -- ---- they are met

    module _ (ms : List MetDictionary) (met : AreMet e.options ks c ms) where
      planned_so : batch_turn e rec first count n m s ≡ on_plan e s (met_in_batch c) (updates_in ms) (map shows (messages_of c ms)) (short_for (messages_of c ms) m)
      planned_so =
          met_so ∙ ap (on_updates e s n (lent_by m) (shown_side (column_windows c)) (later_in rec first count)) met.updates
          ∙ ap (λ (ss : List Shows). on_plan e s (met_in_batch c) (updates_in ms) ss (short (lent_by m) ss)) (sym (layers_agree.sent rec first count n c e.options ks ms found met))
          ∙ ap (on_plan e s (met_in_batch c) (updates_in ms) (map shows (messages_of c ms))) (sym (layers_agree.short (messages_of c ms) m (layers_agree.inside c ms)))

      planned_so_by : (o : Option ℕ) → short_for (messages_of c ms) m ≡ o → batch_turn e rec first count n m s ≡ on_plan e s (met_in_batch c) (updates_in ms) (map shows (messages_of c ms)) o
      planned_so_by o q = planned_so ∙ ap (on_plan e s (met_in_batch c) (updates_in ms) (map shows (messages_of c ms))) q

      -- no frame goes out: 14, or else 16 or 17
      pub frames_unwritten : (f : Fault) (after : Memory) (us : List DictionaryUpdate) (r : Result Accepted Fault) (next : State) → r ≡ Err f → next ≡ s
          → Unwritten e.cost (alignment e) e.form s.messages (messages_of c ms) m after s.sink f → BatchTook (batch_turn e rec first count n m s) r next m after us us
      frames_unwritten f after us r next q same (inl x) =
          rw (x.unchanged) (stays_so f us r next q same (planned_so_by (Some x.column) x.short ∙ ap (λ (y : Fault). refuse nothing y s) (sym x.fault)))
      frames_unwritten f after us r next q same (inr (p, x)) =
          let left : BatchTook (refuse (planned (alignment e) (map shows (messages_of c ms))) f s) (Err f) s m after us us =
          record { answer = refl; state = refl; leaves = plan_left e s (met_in_batch c) (updates_in ms) (messages_of c ms) m after _ us (layers_agree.inside c ms) p } in
          rw (q, same) (subst (λ (t : Turn). BatchTook t (Err f) s m after us us) (sym (planned_so_by None p.room ∙ frames_refused e s (met_in_batch c) (updates_in ms) (messages_of c ms) f x)) left)

      accepted_so : (after : Memory) (k : ℕ) (sink : SinkMeaning) → frame.Written e.cost (alignment e) e.form s.messages (messages_of c ms) m after s.sink sink k
          → batch_turn e rec first count n m s ≡ accept e s (met_in_batch c) (updates_in ms) (map shows (messages_of c ms))
      accepted_so after k sink w = planned_so_by None w.enough ∙ by_room e s (met_in_batch c) (updates_in ms) (messages_of c ms) true w.headed w.room

      accepted_state : (after : Memory) (k : ℕ) (next : State) → next.kept ≡ kept_in_batch c (kept_after ks ms) → next.messages ≡ s.messages + k → next.ended ≡ s.ended
          → frame.Written e.cost (alignment e) e.form s.messages (messages_of c ms) m after s.sink next.sink k
          → next ≡ (accept e s (met_in_batch c) (updates_in ms) (map shows (messages_of c ms))).next
      accepted_state after k next kept_so more yet w =
          let al = alignment e in
          let ts = told_of al (messages_of c ms) in
          let kept_then = kept_so ∙ keeps_shown e.options c ks ms met ∙ ap (λ (x : List Kept). shown_after x (updates_in ms) (met_in_batch c)) (sym kept) in
          let sent_then : next.messages ≡ s.messages + length (map shows (messages_of c ms)) = omega (arith, more, w.count, length-map (messages_of c ms) shows) in
          let sink_then = w.taken ∙ ap (λ (x : List Told). with_pieces e.cost (frames al e.form s.messages x) (pieces al e.form s.messages x) s.sink) (sym ts) in
          ap₂ (λ (x : List Kept) (y : ℕ). record { kept = x; messages = y; ended = next.ended; sink = next.sink }) kept_then sent_then
          ∙ ap₂ (λ (x : Bool) (y : SinkMeaning). record { kept = shown_after s.kept (updates_in ms) (met_in_batch c); messages = s.messages + length (map shows (messages_of c ms)); ended = x; sink = y }) yet sink_then

      -- all frames went out
      pub batch_accepted : (after : Memory) (k : ℕ) (a : Accepted) (next : State) (us vs : List DictionaryUpdate) → a.updates ≡ length ms → a.messages ≡ k
          → next.kept ≡ kept_in_batch c (kept_after ks ms) → next.messages ≡ s.messages + k → next.ended ≡ s.ended → vs ≡ over us 0 (updates_in ms)
          → frame.Written e.cost (alignment e) e.form s.messages (messages_of c ms) m after s.sink next.sink k → BatchTook (batch_turn e rec first count n m s) (Ok a) next m after us vs
      batch_accepted after k a next us vs counted sent_count kept_so more yet over_so w =
          let al = alignment e in
          let ss = map shows (messages_of c ms) in
          let many : a.messages ≡ length (map (λ (t : Told). t.message) (map (sent_of al) ss)) =
          omega (arith, sent_count, w.count, length-map (map (sent_of al) ss) (λ (t : Told). t.message), length-map ss (sent_of al), length-map (messages_of c ms) shows) in
          let out : BatchTook (accept e s (met_in_batch c) (updates_in ms) ss) (Ok a) next m after us vs = record {
            answer = (updates_in ms, map (λ (t : Told). t.message) (map (sent_of al) ss), lengths_of e (entries e s.messages (map (sent_of al) ss)), refl, (counted ∙ sym (length-map ms update_in), many));
            state = accepted_state after k next kept_so more yet w;
            leaves = frames_left e s (met_in_batch c) (updates_in ms) (messages_of c ms) m after k us vs next.sink (layers_agree.inside c ms) w over_so;
          } in
          subst (λ (t : Turn). BatchTook t (Ok a) next m after us vs) (sym (accepted_so after k next.sink w)) out
