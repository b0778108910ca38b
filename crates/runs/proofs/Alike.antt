-- Runs that are alike agree.
use Rattle.std.proofs.Common.{◌≡◌, ℕ, ◌+◌, Bool, true, false, cond, ◌&&◌, List, [], ◌∷◌, ◌++◌, map, length, Some, None, Option, Ok, Err, Result, sym, refl, ap, ap₂, ◌∙◌}
use Rattle.std.proofs.lemmas.Bool.{and_parts}
use Rattle.layout.specs.declared.fault.Fault.{Fault}
use Rattle.layout.specs.declared.fault.Refusal.TheVariants as fault
use Rattle.layout.specs.Faults.{fault_of}
use Rattle.layout.specs.Messages as sent
use Rattle.layout.specs.Shown.{Shown, Showns}
use Rattle.recording.specs.declared.options.IpcWriteOptions.{IpcWriteOptions}
use Rattle.dictionaries.specs.declared.update.DictionaryUpdate.{DictionaryUpdate}
use Rattle.dictionaries.specs.declared.update.DictionaryUpdate.TheVariants as update
use Rattle.dictionaries.specs.Collecting.{Met, collected, met_columns}
use Rattle.columns.specs.declared.message.MessageKind.TheVariants as kind
use Rattle.columns.specs.Telling.{Shows, Told}
use Rattle.frames.specs.Frames.{FormBytes, header_length, has_headers, frames, pieces, frame, frame_pieces}
use Rattle.frames.specs.Headers.{is_header, header_of}
use Rattle.frames.specs.Sinks.{SinkMeaning}
use Rattle.runs.specs.Calls.{Call, Lent, numbers, Entry, Setting, nothing, alignment}
use Rattle.runs.specs.Looks.{Look, lacks, shows, Recorded, look}
use Rattle.runs.specs.Turns.{State, Turn, new_stream, sends_by, sends, all_sends, short, refuse, headers, entry, entries, accept, on_frames, on_plan, on_updates, on_look, early, on_batch, on_open, turn}
use Rattle.runs.specs.Runs.{deltas, deltas_of, seen_in, seen_unless, seen_by, Seen, seen, Run, turns_from, seen_from, last, turns, state_after, answers, all_written}
use Rattle.runs.specs.Laws.{all_pieces, Alike, Agree}
use Rattle.runs.proofs.Unmeasured.{unmeasured, plain, plainly, turns_plain, shown_plain, answers_plain, written_plain, pieces_plain, last_plain, unmeasured_same, same_unmeasured}
use Rattle.runs.proofs.Went.{told_of}

-- ---- what a recording is to a batch: what it shows

module _ (later later′ : ℕ → ℕ → Shown) where
  -- what the updates send is told by the windows that Deltas send
  sends_same : (id : ℕ) (ds : List Met) (us : List DictionaryUpdate) → deltas later id us ≡ deltas later′ id us → sends later id ds us ≡ sends later′ id ds us
  sends_same id [] us q = refl
  sends_same id (d ∷ ds) [] q = refl
  sends_same id (d ∷ ds) (update.None ∷ us) q = sends_same (id + 1) ds us q
  sends_same id (d ∷ ds) (update.New ∷ us) q = ap (λ (ss : List Shows). sends_by (later id) id d update.New ++ ss) (sends_same (id + 1) ds us q)
  sends_same id (d ∷ ds) (update.Replaced ∷ us) q = ap (λ (ss : List Shows). sends_by (later id) id d update.Replaced ++ ss) (sends_same (id + 1) ds us q)
  sends_same id (d ∷ ds) (update.Delta k ∷ us) q =
      let here : later id k ≡ later′ id k = cc in
      let rest : deltas later (id + 1) us ≡ deltas later′ (id + 1) us = cc in
      ap₂ (λ (s : Shown) (ss : List Shows). sends_by (λ (j : ℕ). s) id d (update.Delta k) ++ ss) here (sends_same (id + 1) ds us rest)

module _ (e : Setting) (s : State) where
  updates_same : (rows : ℕ) (lent : Lent) (ss : Showns) (later later′ : ℕ → ℕ → Shown) (q : Result (List DictionaryUpdate) Fault) → deltas_of later q ≡ deltas_of later′ q
      → on_updates e s rows lent ss later q ≡ on_updates e s rows lent ss later′ q
  updates_same rows lent ss later later′ (Err f) h = refl
  updates_same rows lent ss later later′ (Ok us) h =
      let ds = met_columns 0 ss in
      ap (λ (ms : List Shows). let all : List Shows = ms ++ record { kind = kind.Batch; id = 0; rows = rows; shown = ss } ∷ [] in on_plan e s ds us all (short lent all)) (sends_same later later′ 0 ds us h)

  look_same : (rows : ℕ) (lent : Lent) (l k : Look) → seen_in e s l ≡ seen_in e s k → on_look e s rows lent l ≡ on_look e s rows lent k
  look_same rows lent (lacks c) (lacks d) h = let f : fault_of fault.Column c 0 ≡ fault_of fault.Column d 0 = cc in ap (λ (x : Fault). refuse nothing x s) f
  look_same rows lent (lacks c) (shows ss later) h = cc
  look_same rows lent (shows ss later) (lacks c) h = cc
  look_same rows lent (shows ss later) (shows ss′ later′) h =
      let q : Showns → Result (List DictionaryUpdate) Fault = λ ts. collected e.options s.kept (met_columns 0 ts) in
      let w : ss ≡ ss′ = cc in
      let d : deltas_of later (q ss) ≡ deltas_of later′ (q ss′) = cc in
      updates_same rows lent ss later later′ (q ss) (d ∙ ap (λ (ts : Showns). deltas_of later′ (q ts)) (sym w))
      ∙ ap (λ (ts : Showns). on_updates e s rows lent ts later′ (q ts)) w

  batch_same : (rows : ℕ) (lent : Lent) (l k : Look) (o : Option Fault) → seen_unless e s l o ≡ seen_unless e s k o → on_batch e s rows lent l o ≡ on_batch e s rows lent k o
  batch_same rows lent l k (Some f) h = refl
  batch_same rows lent l k None h = look_same rows lent l k h

  module _ (r q : Recorded) where
    open_same : (b : Bool) (c d : Call) → numbers c ≡ numbers d → seen_by e s b r c ≡ seen_by e s b q d → on_open e s b r c ≡ on_open e s b q d
    open_same true c d n h = refl
    open_same false Call.next_id Call.next_id n h = refl
    open_same false Call.next_id Call.clear n h = cc
    open_same false Call.next_id Call.finish n h = cc
    open_same false Call.next_id (Call.batch first columns rows lent) n h = cc
    open_same false Call.clear Call.next_id n h = cc
    open_same false Call.clear Call.clear n h = refl
    open_same false Call.clear Call.finish n h = cc
    open_same false Call.clear (Call.batch first columns rows lent) n h = cc
    open_same false Call.finish Call.next_id n h = cc
    open_same false Call.finish Call.clear n h = cc
    open_same false Call.finish Call.finish n h = refl
    open_same false Call.finish (Call.batch first columns rows lent) n h = cc
    open_same false (Call.batch first columns rows lent) Call.next_id n h = cc
    open_same false (Call.batch first columns rows lent) Call.clear n h = cc
    open_same false (Call.batch first columns rows lent) Call.finish n h = cc
    open_same false (Call.batch first columns rows lent) (Call.batch first′ columns′ rows′ lent′) n h =
        let p : rows ≡ rows′ = cc in
        let m : lent ≡ lent′ = cc in
        let l = look r first columns rows in
        let k = look q first′ columns′ rows′ in
        batch_same rows lent l k (early e s rows) (h ∙ ap (λ (x : ℕ). seen_unless e s k (early e s x)) (sym p))
        ∙ ap₂ (λ (x : ℕ) (y : Lent). on_batch e s x y k (early e s x)) p m

turn_same : (e : Setting) (s : State) (r q : Recorded) (c d : Call) → numbers c ≡ numbers d → seen e r c s ≡ seen e q d s → turn e r c s ≡ turn e q d s
turn_same e s r q c d n h = open_same e s r q s.ended c d n h

-- ---- what a form is: its headers

is_header_by : (xs ys : List ℕ) (a b : Bool) → cond a (Some xs) None ≡ cond b (Some ys) None → a ≡ b
is_header_by xs ys true true h = refl
is_header_by xs ys false false h = refl
is_header_by xs ys true false h = cc
is_header_by xs ys false true h = cc

header_by : (xs ys : List ℕ) (a b : Bool) → cond a (Some xs) None ≡ cond b (Some ys) None → a ≡ true → xs ≡ ys
header_by xs ys true true h e = cc
header_by xs ys true false h e = cc
header_by xs ys false b h e = cc

-- forms with the same headers
abbrev SameForm : FormBytes → FormBytes → Type 0
SameForm f g = (o : ℕ) (m : sent.Message) → header_of (f o m) ≡ header_of (g o m)

module _ (f g : FormBytes) (same : SameForm f g) where
  headed_same : (o : ℕ) (ts : List Told) → has_headers f o ts ≡ has_headers g o ts
  headed_same o [] = refl
  headed_same o (t ∷ ts) = ap₂ (λ (a b : Bool). a && b) (is_header_by (f o t.message) (g o t.message) _ _ (same o t.message)) (headed_same (o + 1) ts)

  bytes_same : (o : ℕ) (t : Told) (ts : List Told) → has_headers f o (t ∷ ts) ≡ true → f o t.message ≡ g o t.message
  bytes_same o t ts h = header_by (f o t.message) (g o t.message) _ _ (same o t.message) (and_parts (is_header (f o t.message)) (has_headers f (o + 1) ts) h).0

  rest_headed : (o : ℕ) (t : Told) (ts : List Told) → has_headers f o (t ∷ ts) ≡ true → has_headers f (o + 1) ts ≡ true
  rest_headed o t ts h = (and_parts (is_header (f o t.message)) (has_headers f (o + 1) ts) h).1

  frames_same : (al o : ℕ) (ts : List Told) → has_headers f o ts ≡ true → frames al f o ts ≡ frames al g o ts
  frames_same al o [] h = refl
  frames_same al o (t ∷ ts) h = ap₂ (λ (md xs : List ℕ). frame al md t ++ xs) (bytes_same o t ts h) (frames_same al (o + 1) ts (rest_headed o t ts h))

  pieces_same : (al o : ℕ) (ts : List Told) → has_headers f o ts ≡ true → pieces al f o ts ≡ pieces al g o ts
  pieces_same al o [] h = refl
  pieces_same al o (t ∷ ts) h = ap₂ (λ (md xs : List ℕ). frame_pieces al md t ++ xs) (bytes_same o t ts h) (pieces_same al (o + 1) ts (rest_headed o t ts h))

  headers_same : (e d : Setting) → e.form ≡ f → d.form ≡ g → (o : ℕ) (ts : List Told) → has_headers f o ts ≡ true → headers e o ts ≡ headers d o ts
  headers_same e d p q o [] h = refl
  headers_same e d p q o (t ∷ ts) h =
      let here : e.form o t.message ≡ d.form o t.message = ap (λ (x : FormBytes). x o t.message) p ∙ bytes_same o t ts h ∙ ap (λ (x : FormBytes). x o t.message) (sym q) in
      ap₂ {C = List (List ℕ)} (λ (md : List ℕ) (mds : List (List ℕ)). md ∷ mds) here (headers_same e d p q (o + 1) ts (rest_headed o t ts h))

same_first : (x y : Seen) (xs ys : List Seen) → x ∷ xs ≡ y ∷ ys → x ≡ y
same_first x y xs ys h = cc

same_others : (x y : Seen) (xs ys : List Seen) → x ∷ xs ≡ y ∷ ys → xs ≡ ys
same_others x y xs ys h = cc

-- the same options and cost
module _ (options : IpcWriteOptions) (cost : ℕ) (f g : FormBytes) (same : SameForm f g) where
  abbrev left : Setting
  left = record { options = options; form = f; cost = cost }

  abbrev right : Setting
  right = record { options = options; form = g; cost = cost }

  entries_same : (o : ℕ) (ts : List Told) → has_headers f o ts ≡ true → entries left o ts ≡ entries right o ts
  entries_same o [] h = refl
  entries_same o (t ∷ ts) h =
      ap₂ {C = List Entry} (λ (md : List ℕ) (es : List Entry). entry (header_length (alignment left) (length md)) t ∷ es) (bytes_same f g same o t ts h) (entries_same (o + 1) ts (rest_headed f g same o t ts h))

  module _ (s : State) where
    accept_same : (ds : List Met) (us : List DictionaryUpdate) (ss : List Shows) → has_headers f s.messages (told_of left ss) ≡ true → accept left s ds us ss ≡ accept right s ds us ss
    accept_same ds us ss h =
        let ts = told_of left ss in
        let al = alignment left in
        let bytes = frames_same f g same al s.messages ts h in
        let lengths = pieces_same f g same al s.messages ts h in
        let all = entries_same s.messages ts h in
        let heads = headers_same f g same left right refl refl s.messages ts h in
        rw (bytes, lengths, all, heads) refl

    frames_go_same : (ds : List Met) (us : List DictionaryUpdate) (ss : List Shows) → on_frames left s ds us ss ≡ on_frames right s ds us ss
    frames_go_same ds us ss = by (has_headers f s.messages (told_of left ss)) refl
      where
        by : (b : Bool) → has_headers f s.messages (told_of left ss) ≡ b → on_frames left s ds us ss ≡ on_frames right s ds us ss
        by false h = rw (h, sym (headed_same f g same s.messages (told_of left ss)) ∙ h) refl
        by true h =
            let ts = told_of left ss in
            let al = alignment left in
            let other = sym (headed_same f g same s.messages ts) ∙ h in
            rw (h, other, accept_same ds us ss h, frames_same f g same al s.messages ts h, pieces_same f g same al s.messages ts h) refl

    look_go_same : (rows : ℕ) (lent : Lent) (l : Look) → on_look left s rows lent l ≡ on_look right s rows lent l
    look_go_same rows lent (lacks k) = refl
    look_go_same rows lent (shows ss later) = by (collected options s.kept (met_columns 0 ss))
      where
        planned_by : (us : List DictionaryUpdate) (o : Option ℕ) → on_plan left s (met_columns 0 ss) us (all_sends later (met_columns 0 ss) us rows ss) o ≡ on_plan right s (met_columns 0 ss) us (all_sends later (met_columns 0 ss) us rows ss) o
        planned_by us None = frames_go_same (met_columns 0 ss) us (all_sends later (met_columns 0 ss) us rows ss)
        planned_by us (Some k) = refl

        by : (q : Result (List DictionaryUpdate) Fault) → on_updates left s rows lent ss later q ≡ on_updates right s rows lent ss later q
        by (Err f) = refl
        by (Ok us) = planned_by us (short lent (all_sends later (met_columns 0 ss) us rows ss))

    batch_go_same : (rows : ℕ) (lent : Lent) (l : Look) (o : Option Fault) → on_batch left s rows lent l o ≡ on_batch right s rows lent l o
    batch_go_same rows lent l (Some f) = refl
    batch_go_same rows lent l None = look_go_same rows lent l

    open_go_same : (b : Bool) (r : Recorded) (c : Call) → on_open left s b r c ≡ on_open right s b r c
    open_go_same true r c = refl
    open_go_same false r Call.next_id = refl
    open_go_same false r Call.clear = refl
    open_go_same false r Call.finish = refl
    open_go_same false r (Call.batch first columns rows lent) = batch_go_same rows lent (look r first columns rows) (early left s rows)

  -- ---- call by call

  module _ (r q : Recorded) where
    both_same : (c d : Call) (s : State) → numbers c ≡ numbers d → seen left r c s ≡ seen left q d s → turn left r c s ≡ turn right q d s
    both_same c d s n h = turn_same left s r q c d n h ∙ open_go_same s s.ended q d

    run_same : (cs ds : List Call) (s : State) → map numbers cs ≡ map numbers ds → seen_from left r cs s ≡ seen_from right q ds s → turns_from left r cs s ≡ turns_from right q ds s
    run_same [] [] s n h = refl
    run_same [] (d ∷ ds) s n h = cc
    run_same (c ∷ cs) [] s n h = cc
    run_same (c ∷ cs) (d ∷ ds) s n h =
        let here : seen left r c s ≡ seen left q d s = same_first (seen left r c s) (seen left q d s) (seen_from left r cs (turn left r c s).next) (seen_from right q ds (turn right q d s).next) h in
        let one : numbers c ≡ numbers d = cc in
        let others : map numbers cs ≡ map numbers ds = cc in
        let t : turn left r c s ≡ turn right q d s = both_same c d s one here in
        let k = same_others (seen left r c s) (seen left q d s) (seen_from left r cs (turn left r c s).next) (seen_from right q ds (turn right q d s).next) h in
        let i = run_same cs ds (turn left r c s).next others (k ∙ ap (λ (u : Turn). seen_from right q ds u.next) (sym t)) in
        ap (λ (us : List Turn). turn left r c s ∷ us) i ∙ ap (λ (u : Turn). u ∷ turns_from right q ds u.next) t

module _ (r q : Recorded) (cs ds : List Call) (n : map numbers cs ≡ map numbers ds) where
  from_same : (e d : Setting) (m k : SinkMeaning) → e.options ≡ d.options → e.cost ≡ d.cost → SameForm e.form d.form → m ≡ k → seen_from e r cs (new_stream m) ≡ seen_from d q ds (new_stream k)
      → turns_from e r cs (new_stream m) ≡ turns_from d q ds (new_stream k)
  from_same e d m k o c f p h =
      let x : Setting = record { options = e.options; form = d.form; cost = e.cost } in
      let same : x ≡ d = λ i. record { options = o i; form = d.form; cost = c i } in
      run_same e.options e.cost e.form d.form f r q cs ds (new_stream m) n
      (h ∙ ap (λ (y : Setting). seen_from y q ds (new_stream k)) (sym same) ∙ ap (λ (y : SinkMeaning). seen_from x q ds (new_stream y)) (sym p))
      ∙ ap (λ (y : Setting). turns_from y q ds (new_stream m)) same
      ∙ ap (λ (y : SinkMeaning). turns_from d q ds (new_stream y)) p

-- what both come to without the lengths that their sinks keep
plain_turns : (i j : Run) → Alike i j → map plainly (turns i) ≡ map plainly (turns j)
plain_turns i j a =
    let m = unmeasured i.sink in
    let n = unmeasured j.sink in
    let shown = shown_plain i.setting i.recorded i.calls (new_stream i.sink) ∙ a.shown ∙ sym (shown_plain j.setting j.recorded j.calls (new_stream j.sink)) in
    turns_plain i.setting i.recorded i.calls (new_stream i.sink)
    ∙ from_same i.recorded j.recorded i.calls j.calls a.calls i.setting j.setting m n a.options a.cost a.form (unmeasured_same i.sink j.sink a.sink) shown
    ∙ sym (turns_plain j.setting j.recorded j.calls (new_stream j.sink))

pub alike : (i j : Run) → Alike i j → Agree i j
alike i j a =
    let t = plain_turns i j a in
    let after : plain (state_after i) ≡ plain (state_after j) =
    sym (last_plain (new_stream i.sink) (turns i))
    ∙ ap (λ (m : SinkMeaning). last (new_stream m) (map plainly (turns i))) (unmeasured_same i.sink j.sink a.sink)
    ∙ ap (λ (ts : List Turn). last (plain (new_stream j.sink)) ts) t
    ∙ last_plain (new_stream j.sink) (turns j) in
    record {
      answers = sym (answers_plain (turns i)) ∙ ap answers t ∙ answers_plain (turns j);
      written = sym (written_plain (turns i)) ∙ ap all_written t ∙ written_plain (turns j);
      sink = same_unmeasured (state_after i).sink (state_after j).sink (ap (λ (s : State). s.sink) after);
      pieces = sym (pieces_plain (turns i)) ∙ ap all_pieces t ∙ pieces_plain (turns j);
    }
