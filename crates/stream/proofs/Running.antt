-- Calls that are made one after another.
use Rattle.std.proofs.Common.{◌≡◌, ℕ, zero, suc, ◌+◌, ◌<◌, ◌≤◌, List, [], ◌∷◌, ◌++◌, length, take, drop, get_or, slice_set, sym, ◌∙◌, ap, refl, append_assoc, arith}
use Rattle.std.proofs.lemmas.List.{take-append-drop, take_more_set, drop-set-lt, drop_all, drop_more}
use Rattle.dictionaries.specs.declared.update.DictionaryUpdate.{DictionaryUpdate}
use Rattle.columns.specs.declared.memory.Memory.{Memory}
use Rattle.recording.specs.declared.options.IpcWriteOptions.{IpcWriteOptions}
use Rattle.recording.specs.declared.recording.Recording.{Recording}
use Rattle.frames.specs.Frames.{FormBytes}
use Rattle.frames.specs.Sinks.{SinkMeaning}
use Rattle.runs.specs.Calls as calls
use Rattle.runs.specs.Calls.{Setting}
use Rattle.runs.specs.Layers.{recorded}
use Rattle.runs.specs.Looks.{Recorded}
use Rattle.runs.specs.Runs.{turns_from, last}
use Rattle.runs.specs.Turns.{State, turn, new_stream}
use Rattle.runs.proofs.Promise.{promise}
use Rattle.stream.specs.declared.calls.Answer.{Answer}
use Rattle.stream.specs.declared.calls.Call.{Call}
use Rattle.stream.specs.declared.stream.Stream.{Stream}
use Rattle.stream.specs.Running.{call_of, calls_of, CallTook, EachTook, Ran, run_of}
use Rattle.stream.specs.Streams.{setting_of, recorded_in}

-- what a read past the last would give
abbrev pub no_memory : Memory
no_memory = record {
  fields = record { ref_ptr = (0, 0); ghost_name = 0; now = [] };
  buffers = record { ref_ptr = (0, 0); ghost_name = 0; now = [] };
  messages = record { ref_ptr = (0, 0); ghost_name = 0; now = [] };
  work = record { ref_ptr = (0, 0); ghost_name = 0; now = [] };
  metadata = record { ref_ptr = (0, 0); ghost_name = 0; now = [] };
}

-- the call at a place is the one there, with the memory there
pub next_call : (cs : List Call) (ms : List Memory) (n i : ℕ) (c : Call) (m : Memory) → i < n → n ≤ length cs → n ≤ length ms
    → drop i (calls_of (take n cs) (take n ms)) ≡ call_of (get_or cs i c) (get_or ms i m) ∷ drop (i + 1) (calls_of (take n cs) (take n ms))
next_call cs ms zero i c m l p q = absurd (omega arith)
next_call [] ms (suc n) i c m l p q = absurd (omega arith)
next_call (x ∷ cs) [] (suc n) i c m l p q = absurd (omega arith)
next_call (x ∷ cs) (y ∷ ms) (suc n) zero c m l p q = refl
next_call (x ∷ cs) (y ∷ ms) (suc n) (suc i) c m l p q =
    let after : suc (i + 1) ≡ suc i + 1 = omega arith in
    next_call cs ms n i c m (omega arith) (omega arith) (omega arith)
    ∙ ap (λ (k : ℕ). call_of (get_or cs i c) (get_or ms i m) ∷ drop k (calls_of (take (suc n) (x ∷ cs)) (take (suc n) (y ∷ ms)))) after

pub few_calls : (cs : List Call) (ms : List Memory) (n : ℕ) → length (calls_of (take n cs) (take n ms)) ≤ n
few_calls cs ms zero = grind arith
few_calls [] ms (suc n) = grind arith
few_calls (x ∷ cs) [] (suc n) = grind arith
few_calls (x ∷ cs) (y ∷ ms) (suc n) =
    let few = few_calls cs ms n in
    omega (arith, few)

-- what is left of the calls, made on what is there now, comes with what was done to all of them, made on what was there first
pub record CallsLeft (e : Setting) (r : Recorded) (all : List calls.Call) (first now : State) (i : ℕ) (answers_first answers : List Answer) (memories_first memories : List Memory) (updates_first updates : List (List DictionaryUpdate)) : Type 0 where
  pub took : (bs : List Answer) (ns : List Memory) (vs : List (List DictionaryUpdate)) → EachTook (turns_from e r (drop i all) now) (drop i answers) bs (drop i memories) ns (drop i updates) vs
      → EachTook (turns_from e r all first) answers_first (take i answers ++ bs) memories_first (take i memories ++ ns) updates_first (take i updates ++ vs)
  pub state : last now (turns_from e r (drop i all) now) ≡ last first (turns_from e r all first)
  pub untouched : drop i memories ≡ drop i memories_first

-- and the stream is over the same recording, with the same options and form, and its sink writes to the same memories
pub record Going {F S : Type 0} (rec : Recording) (options : IpcWriteOptions) (form : F) (before after : List ℕ) (s : Stream F S) (P : Type 0) : Type 0 where
  pub left : P
  pub recording : s.recording ≡ rec
  pub same_options : s.options ≡ options
  pub same_form : s.form ≡ form
  pub memories : after ≡ before

module _ (e : Setting) (r : Recorded) (all : List calls.Call) (first : State) (ws : List Answer) (ms : List Memory) (us : List (List DictionaryUpdate)) where
  module _ (now : State) (i : ℕ) (ws_now : List Answer) (ms_now : List Memory) (us_now : List (List DictionaryUpdate)) (h : CallsLeft e r all first now i ws ws_now ms ms_now us us_now) where
    next_there : (d : Memory) → i < length ms_now → i < length ms → get_or ms_now i d ∷ drop (i + 1) ms_now ≡ get_or ms i d ∷ drop (i + 1) ms
    next_there d l k = sym (drop_more ms_now i d l) ∙ h.untouched ∙ drop_more ms i d k

    -- the memory at the next place is the one that was there first
    pub memory_there : (d : Memory) → i < length ms_now → i < length ms → get_or ms_now i d ≡ get_or ms i d
    memory_there d l k = cc (next_there d l k)

    untouched_after : (d : Memory) → i < length ms_now → i < length ms → drop (i + 1) ms_now ≡ drop (i + 1) ms
    untouched_after d l k = cc (next_there d l k)

    -- one more is made
    pub after_call : (c : calls.Call) → drop i all ≡ c ∷ drop (i + 1) all → (b a : Answer) (n d : Memory) (v u : List DictionaryUpdate) (next : State) → i < length ws_now → i < length ms_now → i < length ms → i < length us_now
        → CallTook (turn e r c now) b next (get_or ms_now i d) n (get_or us_now i u) v → CallsLeft e r all first next (i + 1) ws (slice_set ws_now i b) ms (slice_set ms_now i n) us (slice_set us_now i v)
    after_call c is b a n d v u next lw lm l lu t =
        let xs = drop (i + 1) all in
        let made : (bs : List Answer) (ns : List Memory) (vs : List (List DictionaryUpdate)) → EachTook (turns_from e r xs (turn e r c now).next) (drop (i + 1) ws_now) bs (drop (i + 1) ms_now) ns (drop (i + 1) us_now) vs
        → EachTook (turns_from e r all first) ws (take i ws_now ++ b ∷ bs) ms (take i ms_now ++ n ∷ ns) us (take i us_now ++ v ∷ vs) =
        λ bs ns vs k. h.took (b ∷ bs) (n ∷ ns) (v ∷ vs) (rw (is, drop_more ws_now i a lw, drop_more ms_now i d lm, drop_more us_now i u lu) (t.answer, t.leaves, k)) in
        record {
          took =
              λ bs ns vs k.
              rw (take_more_set ws_now i b lw, take_more_set ms_now i n lm, take_more_set us_now i v lu, append_assoc (take i ws_now) (b ∷ []) bs, append_assoc (take i ms_now) (n ∷ []) ns, append_assoc (take i us_now) (v ∷ []) vs)
              (made bs ns vs
              (rw (sym t.state, sym (drop-set-lt (i + 1) ws_now i b (omega arith)), sym (drop-set-lt (i + 1) ms_now i n (omega arith)), sym (drop-set-lt (i + 1) us_now i v (omega arith))) k));
          state = ap (λ (s : State). last s (turns_from e r xs s)) t.state ∙ sym (ap (λ (cs : List calls.Call). last now (turns_from e r cs now)) is) ∙ h.state;
          untouched = drop-set-lt (i + 1) ms_now i n (omega arith) ∙ untouched_after d lm l;
        }

    -- all are made
    pub all_took : drop i all ≡ [] → EachTook (turns_from e r all first) ws ws_now ms ms_now us us_now
    all_took none =
        rw (sym (take-append-drop i ws_now), sym (take-append-drop i ms_now), sym (take-append-drop i us_now)) (h.took (drop i ws_now) (drop i ms_now) (drop i us_now) (rw none (refl, refl, refl)))

    pub all_state : drop i all ≡ [] → now ≡ last first (turns_from e r all first)
    all_state none = sym (ap (λ (cs : List calls.Call). last now (turns_from e r cs now)) none) ∙ h.state

-- a call is made with the run's setting and recording
pub in_run : {F S : Type 0} (header : F → FormBytes) (cost : ℕ) (s : Stream F S) (rec : Recording) (options : IpcWriteOptions) (form : F) → s.recording ≡ rec → s.options ≡ options → s.form ≡ form
    → (c : Call) (m there : Memory) → m ≡ there → (now : State) → turn (setting_of header cost s) (recorded_in s) (call_of c m) now ≡ turn (record { options = options; form = header form; cost = cost }) (recorded rec) (call_of c there) now
in_run header cost s rec options form r o f c m there q now = rw (r, o, f, q) refl

-- all calls are made
pub ran : (e : Setting) (rec : Recording) (cs : List Call) (m : SinkMeaning) (n i : ℕ) (now : State) (ws ws_now : List Answer) (ms ms_now : List Memory) (us us_now : List (List DictionaryUpdate)) → n ≤ i
    → CallsLeft e (recorded rec) (calls_of (take n cs) (take n ms)) (new_stream m) now i ws ws_now ms ms_now us us_now → Ran (run_of e (recorded rec) cs ms n m) now ws ws_now ms ms_now us us_now
ran e rec cs m n i now ws ws_now ms ms_now us us_now l h =
    let all = calls_of (take n cs) (take n ms) in
    let run = run_of e (recorded rec) cs ms n m in
    let none : drop i all ≡ [] = drop_all i all (omega (arith, few_calls cs ms n)) in
    record {
      took = all_took e (recorded rec) all (new_stream m) ws ms us now i ws_now ms_now us_now h none;
      state = all_state e (recorded rec) all (new_stream m) ws ms us now i ws_now ms_now us_now h none;
      held = promise.held run;
      stays = promise.stays e (recorded rec);
      alike = promise.alike run;
      rebuilt = promise.rebuilt run rec.opened;
    }
