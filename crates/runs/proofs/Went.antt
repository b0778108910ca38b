-- The ways that a call can go.
use Rattle.std.proofs.Common.{◌≡◌, ℕ, Bool, true, false, cond, List, [], ◌∷◌, map, length, Some, None, Option, Ok, Err, Result, refl}
use Rattle.std.specs.Prelude.{nat_lt}
use Rattle.layout.specs.declared.fault.Fault.{Fault}
use Rattle.layout.specs.declared.fault.Refusal.TheVariants as fault
use Rattle.layout.specs.Faults.{fault_of}
use Rattle.layout.specs.Shown.{Shown, Showns}
use Rattle.dictionaries.specs.declared.update.DictionaryUpdate.{DictionaryUpdate}
use Rattle.dictionaries.specs.Collecting.{collected, met_columns}
use Rattle.columns.specs.Telling.{Shows, Told, sent_of}
use Rattle.frames.specs.Frames.{has_headers, frames, pieces}
use Rattle.frames.specs.Sinks.{has_room}
use Rattle.runs.specs.Calls.{Call, Lent, Written, Setting, nothing, alignment}
use Rattle.runs.specs.Laws.{NoLengths}
use Rattle.runs.specs.Looks.{Look, lacks, shows, Recorded, look}
use Rattle.runs.specs.Turns.{State, Turn, all_sends, short, planned, refuse, entry, accept, on_plan, on_updates, on_look, early, on_batch, on_id, on_clear, on_finish, on_call, on_open, turn}

-- what a refusal may leave in the memories
pub record Bare (f : Fault) (w : Written) : Type 0 where
  pub written : (f.refusal ≡ fault.Header → ⊥) → (f.refusal ≡ fault.Sink → ⊥) → w ≡ nothing
  pub headers : w.headers ≡ []
  pub updates : w.updates ≡ []
  pub lengths : NoLengths w.messages

-- what is sent, as it is told
abbrev pub told_of : Setting → List Shows → List Told
told_of e ss = map (sent_of (alignment e)) ss

-- the form has a header for each, and the sink takes the frames
pub record Goes (e : Setting) (s : State) (all : List Shows) : Type 0 where
  pub headed : has_headers e.form s.messages (told_of e all) ≡ true
  pub room : has_room e.cost (length (frames (alignment e) e.form s.messages (told_of e all))) (length (pieces (alignment e) e.form s.messages (told_of e all))) s.sink ≡ true

pub data Went (e : Setting) (r : Recorded) (s : State) : Call → Turn → Type 0 where
  stays : {c : Call} (w : Written) (f : Fault) → Bare f w → Went e r s c (refuse w f s)
  numbers : nat_lt (length s.kept) 64 ≡ true → Went e r s Call.next_id (on_id e s true)
  clears : Went e r s Call.clear (on_clear e s)
  ends : has_room e.cost 8 1 s.sink ≡ true → Went e r s Call.finish (on_finish e s true)
  goes : (first columns rows : ℕ) (lent : Lent) (ss : Showns) (later : ℕ → ℕ → Shown) (us : List DictionaryUpdate)
      → look r first columns rows ≡ shows ss later
      → collected e.options s.kept (met_columns 0 ss) ≡ Ok us
      → Goes e s (all_sends later (met_columns 0 ss) us rows ss)
      → Went e r s (Call.batch first columns rows lent) (accept e s (met_columns 0 ss) us (all_sends later (met_columns 0 ss) us rows ss))

no_lengths : (ts : List Told) → NoLengths (map (entry 0) ts)
no_lengths [] = tt
no_lengths (t ∷ ts) = (refl, no_lengths ts)

bare : (f : Fault) → Bare f nothing
bare f = record { written = λ h k. refl; headers = refl; updates = refl; lengths = tt }

module _ (e : Setting) (r : Recorded) (s : State) where
  without_header : (ss : List Shows) → Bare (fault_of fault.Header 0 0) (planned (alignment e) ss)
  without_header ss = record { written = λ h k. absurd (h refl); headers = refl; updates = refl; lengths = no_lengths (told_of e ss) }

  without_room : (ss : List Shows) → Bare (fault_of fault.Sink 0 0) (planned (alignment e) ss)
  without_room ss = record { written = λ h k. absurd (k refl); headers = refl; updates = refl; lengths = no_lengths (told_of e ss) }

  module _ (first columns rows : ℕ) (lent : Lent) where
    module _ (ss : Showns) (later : ℕ → ℕ → Shown) (seen : look r first columns rows ≡ shows ss later) (us : List DictionaryUpdate) (ok : collected e.options s.kept (met_columns 0 ss) ≡ Ok us) where
      abbrev all : List Shows
      all = all_sends later (met_columns 0 ss) us rows ss

      abbrev ts : List Told
      ts = told_of e all

      went_frames : (a b : Bool) → has_headers e.form s.messages ts ≡ a
          → has_room e.cost (length (frames (alignment e) e.form s.messages ts)) (length (pieces (alignment e) e.form s.messages ts)) s.sink ≡ b
          → Went e r s (Call.batch first columns rows lent)
          (cond a (cond b (accept e s (met_columns 0 ss) us all) (refuse (planned (alignment e) all) (fault_of fault.Sink 0 0) s)) (refuse (planned (alignment e) all) (fault_of fault.Header 0 0) s))
      went_frames false b h k = stays _ _ (without_header all)
      went_frames true false h k = stays _ _ (without_room all)
      went_frames true true h k = goes first columns rows lent ss later us seen ok (record { headed = h; room = k })

      went_plan : (o : Option ℕ) → Went e r s (Call.batch first columns rows lent) (on_plan e s (met_columns 0 ss) us all o)
      went_plan None = went_frames _ _ refl refl
      went_plan (Some k) = stays _ _ (bare _)

    went_updates : (ss : Showns) (later : ℕ → ℕ → Shown) → look r first columns rows ≡ shows ss later → (q : Result (List DictionaryUpdate) Fault) → collected e.options s.kept (met_columns 0 ss) ≡ q
        → Went e r s (Call.batch first columns rows lent) (on_updates e s rows lent ss later q)
    went_updates ss later seen (Ok us) h = went_plan ss later seen us h (short lent (all_sends later (met_columns 0 ss) us rows ss))
    went_updates ss later seen (Err f) h = stays _ _ (bare f)

    went_look : (l : Look) → look r first columns rows ≡ l → Went e r s (Call.batch first columns rows lent) (on_look e s rows lent l)
    went_look (lacks k) h = stays _ _ (bare _)
    went_look (shows ss later) h = went_updates ss later h (collected e.options s.kept (met_columns 0 ss)) refl

    went_batch : (o : Option Fault) → Went e r s (Call.batch first columns rows lent) (on_batch e s rows lent (look r first columns rows) o)
    went_batch (Some f) = stays _ _ (bare f)
    went_batch None = went_look (look r first columns rows) refl

  went_id : (b : Bool) → nat_lt (length s.kept) 64 ≡ b → Went e r s Call.next_id (on_id e s b)
  went_id true h = numbers h
  went_id false h = stays _ _ (bare _)

  went_finish : (b : Bool) → has_room e.cost 8 1 s.sink ≡ b → Went e r s Call.finish (on_finish e s b)
  went_finish true h = ends h
  went_finish false h = stays _ _ (bare _)

  went_call : (c : Call) → Went e r s c (on_call e s r c)
  went_call Call.next_id = went_id (nat_lt (length s.kept) 64) refl
  went_call Call.clear = clears
  went_call Call.finish = went_finish (has_room e.cost 8 1 s.sink) refl
  went_call (Call.batch first columns rows lent) = went_batch first columns rows lent (early e s rows)

  went_open : (b : Bool) (c : Call) → Went e r s c (on_open e s b r c)
  went_open true c = stays _ _ (bare _)
  went_open false c = went_call c

  pub went : (c : Call) → Went e r s c (turn e r c s)
  went c = went_open s.ended c
