-- What a sink keeps of earlier pieces' lengths changes nothing else of a run.
use Rattle.std.proofs.Common.{◌≡◌, ℕ, Bool, true, false, cond, List, [], ◌∷◌, ◌++◌, map, length, Some, None, Option, Ok, Err, Result, sym, refl, ap, ap₂, ◌∙◌}
use Rattle.layout.specs.declared.fault.Fault.{Fault}
use Rattle.layout.specs.declared.fault.Refusal.TheVariants as fault
use Rattle.layout.specs.Faults.{fault_of}
use Rattle.layout.specs.Shown.{Shown, Showns}
use Rattle.dictionaries.specs.declared.update.DictionaryUpdate.{DictionaryUpdate}
use Rattle.dictionaries.specs.Collecting.{Met, collected, met_columns}
use Rattle.columns.specs.Telling.{Shows, Told, sent_of}
use Rattle.frames.specs.Frames.{has_headers, frames, pieces}
use Rattle.frames.specs.Sinks.{SinkMeaning, has_room}
use Rattle.runs.specs.Calls.{Call, Lent, Answer, Written, Setting, alignment}
use Rattle.runs.specs.Looks.{Look, lacks, shows, Recorded, look}
use Rattle.runs.specs.Turns.{State, Turn, all_sends, short, planned, refuse, accept, on_frames, on_plan, on_updates, on_look, early, on_batch, on_id, on_finish, on_call, on_open, turn}
use Rattle.runs.specs.Runs.{Seen, seen_in, seen_unless, seen_by, seen, turns_from, seen_from, last, answers, all_written}
use Rattle.runs.specs.Laws.{all_pieces, SameSink}

-- a sink, a state and a turn whose sink keeps no lengths
abbrev pub unmeasured : SinkMeaning → SinkMeaning
unmeasured m = record { held = m.held; bytes = m.bytes; pieces = m.pieces; lengths = None }

abbrev pub plain : State → State
plain s = record { kept = s.kept; messages = s.messages; ended = s.ended; sink = unmeasured s.sink }

abbrev pub plainly : Turn → Turn
plainly t = record { answer = t.answer; written = t.written; frames = t.frames; pieces = t.pieces; next = plain t.next }

-- ---- call by call

module _ (e : Setting) (s : State) where
  frames_plain : (ds : List Met) (us : List DictionaryUpdate) (ss : List Shows) → plainly (on_frames e s ds us ss) ≡ on_frames e (plain s) ds us ss
  frames_plain ds us ss = by (has_headers e.form s.messages ts) (has_room e.cost (length (frames (alignment e) e.form s.messages ts)) (length (pieces (alignment e) e.form s.messages ts)) s.sink)
    where
      ts : List Told
      ts = map (sent_of (alignment e)) ss

      goes : Bool → Bool → State → Turn
      goes a b x = cond a (cond b (accept e x ds us ss) (refuse (planned (alignment e) ss) (fault_of fault.Sink 0 0) x)) (refuse (planned (alignment e) ss) (fault_of fault.Header 0 0) x)

      by : (a b : Bool) → plainly (goes a b s) ≡ goes a b (plain s)
      by false b = refl
      by true false = refl
      by true true = refl

  plan_plain : (ds : List Met) (us : List DictionaryUpdate) (ss : List Shows) (o : Option ℕ) → plainly (on_plan e s ds us ss o) ≡ on_plan e (plain s) ds us ss o
  plan_plain ds us ss None = frames_plain ds us ss
  plan_plain ds us ss (Some k) = refl

  updates_plain : (rows : ℕ) (lent : Lent) (ss : Showns) (later : ℕ → ℕ → Shown) (q : Result (List DictionaryUpdate) Fault) → plainly (on_updates e s rows lent ss later q) ≡ on_updates e (plain s) rows lent ss later q
  updates_plain rows lent ss later (Err f) = refl
  updates_plain rows lent ss later (Ok us) =
      let all = all_sends later (met_columns 0 ss) us rows ss in
      plan_plain (met_columns 0 ss) us all (short lent all)

  look_plain : (rows : ℕ) (lent : Lent) (l : Look) → plainly (on_look e s rows lent l) ≡ on_look e (plain s) rows lent l
  look_plain rows lent (lacks k) = refl
  look_plain rows lent (shows ss later) = updates_plain rows lent ss later (collected e.options s.kept (met_columns 0 ss))

  batch_plain : (rows : ℕ) (lent : Lent) (l : Look) (o : Option Fault) → plainly (on_batch e s rows lent l o) ≡ on_batch e (plain s) rows lent l o
  batch_plain rows lent l (Some f) = refl
  batch_plain rows lent l None = look_plain rows lent l

  id_plain : (b : Bool) → plainly (on_id e s b) ≡ on_id e (plain s) b
  id_plain true = refl
  id_plain false = refl

  finish_plain : (b : Bool) → plainly (on_finish e s b) ≡ on_finish e (plain s) b
  finish_plain true = refl
  finish_plain false = refl

  call_plain : (r : Recorded) (c : Call) → plainly (on_call e s r c) ≡ on_call e (plain s) r c
  call_plain r Call.next_id = id_plain _
  call_plain r Call.clear = refl
  call_plain r Call.finish = finish_plain (has_room e.cost 8 1 s.sink)
  call_plain r (Call.batch first columns rows lent) = batch_plain rows lent (look r first columns rows) (early e s rows)

  open_plain : (b : Bool) (r : Recorded) (c : Call) → plainly (on_open e s b r c) ≡ on_open e (plain s) b r c
  open_plain true r c = refl
  open_plain false r c = call_plain r c

  -- and what it shows
  in_plain : (l : Look) → seen_in e (plain s) l ≡ seen_in e s l
  in_plain (lacks k) = refl
  in_plain (shows ss later) = refl

  unless_plain : (l : Look) (o : Option Fault) → seen_unless e (plain s) l o ≡ seen_unless e s l o
  unless_plain l (Some f) = refl
  unless_plain l None = in_plain l

  seen_plain : (b : Bool) (r : Recorded) (c : Call) → seen_by e (plain s) b r c ≡ seen_by e s b r c
  seen_plain b r Call.next_id = refl
  seen_plain b r Call.clear = refl
  seen_plain b r Call.finish = refl
  seen_plain true r (Call.batch first columns rows lent) = refl
  seen_plain false r (Call.batch first columns rows lent) = unless_plain (look r first columns rows) (early e s rows)

-- ---- a run

module _ (e : Setting) (r : Recorded) where
  turn_plain : (c : Call) (s : State) → plainly (turn e r c s) ≡ turn e r c (plain s)
  turn_plain c s = open_plain e s s.ended r c

  pub turns_plain : (cs : List Call) (s : State) → map plainly (turns_from e r cs s) ≡ turns_from e r cs (plain s)
  turns_plain [] s = refl
  turns_plain (c ∷ cs) s =
      ap (λ (ts : List Turn). plainly (turn e r c s) ∷ ts) (turns_plain cs (turn e r c s).next)
      ∙ ap (λ (t : Turn). t ∷ turns_from e r cs t.next) (turn_plain c s)

  pub shown_plain : (cs : List Call) (s : State) → seen_from e r cs (plain s) ≡ seen_from e r cs s
  shown_plain [] s = refl
  shown_plain (c ∷ cs) s =
      ap (λ (t : Turn). seen e r c (plain s) ∷ seen_from e r cs t.next) (sym (turn_plain c s))
      ∙ ap₂ {C = List Seen} (λ (x : Seen) (xs : List Seen). x ∷ xs) (seen_plain e s s.ended r c) (shown_plain cs (turn e r c s).next)

-- ---- what turns keep of it

pub answers_plain : (ts : List Turn) → answers (map plainly ts) ≡ answers ts
answers_plain [] = refl
answers_plain (t ∷ ts) = ap (λ (xs : List Answer). t.answer ∷ xs) (answers_plain ts)

pub written_plain : (ts : List Turn) → all_written (map plainly ts) ≡ all_written ts
written_plain [] = refl
written_plain (t ∷ ts) = ap (λ (xs : List Written). t.written ∷ xs) (written_plain ts)

pub pieces_plain : (ts : List Turn) → all_pieces (map plainly ts) ≡ all_pieces ts
pieces_plain [] = refl
pieces_plain (t ∷ ts) = ap (λ (ns : List ℕ). t.pieces ++ ns) (pieces_plain ts)

pub last_plain : (s : State) (ts : List Turn) → last (plain s) (map plainly ts) ≡ plain (last s ts)
last_plain s [] = refl
last_plain s (t ∷ ts) = last_plain t.next ts

-- ---- sinks that are the same but for lengths

pub unmeasured_same : (m n : SinkMeaning) → SameSink m n → unmeasured m ≡ unmeasured n
unmeasured_same m n h i = record { held = h.held i; bytes = h.bytes i; pieces = h.pieces i; lengths = None }

pub same_unmeasured : (m n : SinkMeaning) → unmeasured m ≡ unmeasured n → SameSink m n
same_unmeasured m n h =
    record {
      held = ap (λ (k : SinkMeaning). k.held) h;
      bytes = ap (λ (k : SinkMeaning). k.bytes) h;
      pieces = ap (λ (k : SinkMeaning). k.pieces) h;
    }
