-- Accepted batches read back.
use Rattle.std.proofs.Common.{◌≡◌, ℕ, ◌+◌, List, [], ◌∷◌, ◌++◌, map, length, Some, None, Option, Ok, sym, refl, ap, ap₂, ◌∙◌, subst, append_assoc, length-append, arith}
use Rattle.std.proofs.lemmas.Bool.{ltb-true}
use Rattle.layout.specs.Columns.{column_node}
use Rattle.layout.specs.Messages.{body_of, message_of}
use Rattle.layout.specs.Messages.MessageKind.{a_batch}
use Rattle.layout.specs.Opening.{Kept}
use Rattle.layout.specs.Reading.{GotAll, read}
use Rattle.layout.specs.Shown.{Shown, Showns, Value}
use Rattle.layout.specs.Windows.{EachInside, shown_side, dictionary_values}
use Rattle.laws.proofs.Windows.{round_trip}
use Rattle.dictionaries.specs.declared.update.DictionaryUpdate.{DictionaryUpdate}
use Rattle.dictionaries.specs.Collecting.{collected, met_columns}
use Rattle.dictionaries.specs.Laws.{shown_after}
use Rattle.columns.specs.declared.message.MessageKind.TheVariants as kind
use Rattle.columns.specs.Telling.{Shows}
use Rattle.frames.specs.Frames.{end_mark, frames}
use Rattle.runs.specs.Calls.{Call, Lent, Setting, alignment}
use Rattle.runs.specs.Looks.{shows, Recorded, column_nodes, column_windows, met_trees, first_unfit, later, look_by, look}
use Rattle.runs.specs.Turns.{State, Turn, new_stream, sends, all_sends, accept, turn}
use Rattle.runs.specs.Readers.{Schema, schema_of, Rows, Reader, new_reader, shape_at, after_call, batch_read, rebuilt_from, rows_of_call, where_accepted, accepted_rows}
use Rattle.runs.specs.Runs.{Run, turns_from, answers, state_after}
use Rattle.runs.specs.Laws.{all_frames, ReadsBack}
use Rattle.runs.proofs.Went.{told_of, Went, went}
use Rattle.runs.proofs.Went.Went.{stays, numbers, clears, ends, goes}
use Rattle.runs.proofs.Held.{grew, grew_run}
use Rattle.runs.proofs.Hears.{ids_after, ids_both, batch_both, hear_frames}
use Rattle.runs.proofs.Values.{AllAgree, agree_more, through}
use Rattle.runs.proofs.Columns.{each_inside, all_opened, met_are, values_are}

-- what a reader has beside a stream: it has come as far as the sink, and its values are those of what is kept
record Beside (s : State) (x : Reader) : Type 0 where
  at : x.at ≡ length s.sink.held
  agree : AllAgree x.ids s.kept
  long : length x.ids ≡ 64

-- a look that lacks no column
record Looked (r : Recorded) (first columns n : ℕ) (ss : Showns) (later_by : ℕ → ℕ → Shown) : Type 0 where
  fit : first_unfit r.nodes first n 0 columns ≡ None
  shown : ss ≡ shown_side (column_windows r first columns n)
  later_is : later_by ≡ later r.bytes (met_trees r.nodes (column_nodes r.nodes first columns))

looked : (r : Recorded) (first columns n : ℕ) (ss : Showns) (later_by : ℕ → ℕ → Shown) → look r first columns n ≡ shows ss later_by → Looked r first columns n ss later_by
looked r first columns n ss later_by e = by (first_unfit r.nodes first n 0 columns) refl e
  where
    by : (o : Option ℕ) → first_unfit r.nodes first n 0 columns ≡ o → look_by r first columns n o ≡ shows ss later_by → Looked r first columns n ss later_by
    by (Some k) p q = cc
    by None p q = record { fit = p; shown = cc; later_is = cc }

module _ (e : Setting) (r : Recorded) (opened : Kept r.nodes r.bytes) (bytes : List ℕ) where
  -- what it has after a call, and what it has rebuilt
  record Followed (c : Call) (t : Turn) (x : Reader) : Type 0 where
    beside : Beside t.next (after_call (schema_of r c) bytes t.answer x)
    batch : batch_read t.answer (after_call (schema_of r c) bytes t.answer x) ≡ where_accepted t.answer (rows_of_call r c)

  -- ---- an accepted batch

  module _ (s : State) (first columns n : ℕ) (lent : Lent) (us : List DictionaryUpdate) (post : List ℕ) (x : Reader) (h : Beside s x) where
    abbrev FollowedAs : Showns → (ℕ → ℕ → Shown) → Type 0
    FollowedAs ss later_by =
        collected e.options s.kept (met_columns 0 ss) ≡ Ok us
        → bytes ≡ s.sink.held ++ (frames (alignment e) e.form s.messages (told_of e (all_sends later_by (met_columns 0 ss) us n ss)) ++ post)
        → Followed (Call.batch first columns n lent) (accept e s (met_columns 0 ss) us (all_sends later_by (met_columns 0 ss) us n ss)) x

    accepted_so : first_unfit r.nodes first n 0 columns ≡ None → FollowedAs (shown_side (column_windows r first columns n)) (later r.bytes (met_trees r.nodes (column_nodes r.nodes first columns)))
    accepted_so fit q b =
        let al = alignment e in
        let k : Schema = schema_of r (Call.batch first columns n lent) in
        let cs = column_nodes r.nodes first columns in
        let ws = column_windows r first columns n in
        let ss = shown_side ws in
        let ts = met_trees r.nodes cs in
        let later_by = later r.bytes ts in
        let ds = met_columns 0 ss in
        let own : Shows = record { kind = kind.Batch; id = 0; rows = n; shown = ss } in
        let zero_more : (i : ℕ) → 0 + i ≡ i = λ i. omega arith in
        let inside : EachInside ws = each_inside r.nodes r.bytes opened first n columns 0 (column_node r.nodes first) (λ i. ap (column_node r.nodes first) (sym (zero_more i))) fit in
        let heard = hear_frames k e bytes s.messages (all_sends later_by ds us n ss) s.sink.held post x h.at b in
        let th = through k al r.bytes e.options later_by ds ts us s.kept [] x.ids 0 refl q (met_are r.nodes r.bytes n 0 cs) (all_opened r.nodes r.bytes n cs inside)
        (λ i m. ap (λ (j : ℕ). later_by j m) (zero_more i)) (λ i. ap (shape_at k.values) (zero_more i)) h.agree in
        let ids = heard.ids ∙ ids_both k al (sends later_by 0 ds us) (own ∷ []) x.ids ∙ th.is in
        let known : ids_after k al (sends later_by 0 ds us) x.ids ≡ dictionary_values ws ++ th.rest = th.is ∙ th.new ∙ ap (λ (vs : List (List Value)). vs ++ th.rest) (values_are r.nodes r.bytes n cs inside) in
        let columns_read = ap (λ (vs : List (List Value)). (read k.columns vs (message_of a_batch 0 n al ss) (body_of al ss)).columns) known ∙ ap (λ (g : GotAll). g.columns) (round_trip al a_batch 0 n ws th.rest inside) in
        record {
          beside = record { at = heard.at; agree = subst (λ (vs : List (List Value)). AllAgree vs (shown_after s.kept us ds)) (sym ids) th.agree; long = ap length ids ∙ th.long ∙ h.long };
          batch =
              ap (λ (y : Rows). Some y)
              (heard.batch ∙ batch_both k al (sends later_by 0 ds us) (own ∷ []) x.ids x.batch
              ∙ ap (λ (vss : List (List Value)). record { rows = n; columns = vss }) columns_read);
        }

    accepted_followed : (ss : Showns) (later_by : ℕ → ℕ → Shown) → Looked r first columns n ss later_by → FollowedAs ss later_by
    accepted_followed ss later_by l =
        subst (λ (y : Showns). FollowedAs y later_by) (sym l.shown)
        (subst (λ (f : ℕ → ℕ → Shown). FollowedAs (shown_side (column_windows r first columns n)) f) (sym l.later_is) (accepted_so l.fit))

  -- ---- any call

  followed : {c : Call} {s : State} {t : Turn} → Went e r s c t → (post : List ℕ) (x : Reader) → Beside s x → bytes ≡ s.sink.held ++ (t.frames ++ post) → Followed c t x
  followed (stays w f b) post x h z = record { beside = h; batch = refl }
  followed {s = s} (numbers l) post x h z = record {
    beside = record { at = h.at; agree = agree_more x.ids s.kept h.agree (omega (arith, h.long, ltb-true (length s.kept) 64 l)); long = h.long };
    batch = refl;
  }
  followed clears post x h z = record { beside = record { at = h.at; agree = tt; long = h.long }; batch = refl }
  followed {s = s} (ends l) post x h z = record { beside = record { at = omega (arith, h.at, length-append s.sink.held end_mark); agree = h.agree; long = h.long }; batch = refl }
  followed {s = s} (goes first columns n lent ss later_by us l q g) post x h z = accepted_followed s first columns n lent us post x h ss later_by (looked r first columns n ss later_by l) q z

  -- ---- call by call

  follow_run : (cs : List Call) (s : State) (x : Reader) → Beside s x → bytes ≡ s.sink.held ++ all_frames (turns_from e r cs s)
      → rebuilt_from bytes (map (schema_of r) cs) (answers (turns_from e r cs s)) x ≡ accepted_rows r cs (answers (turns_from e r cs s))
  follow_run [] s x h b = refl
  follow_run (c ∷ cs) s x h b =
      let t = turn e r c s in
      let post = all_frames (turns_from e r cs t.next) in
      let f = followed (went e r s c) post x h b in
      let rest : bytes ≡ t.next.sink.held ++ post = b ∙ sym (append_assoc s.sink.held t.frames post) ∙ ap (λ (y : List ℕ). y ++ post) (sym (grew e r c s).held) in
      let i = follow_run cs t.next (after_call (schema_of r c) bytes t.answer x) f.beside rest in
      ap₂ {C = List (Option Rows)} (λ (y : Option Rows) (ys : List (Option Rows)). y ∷ ys) f.batch i

pub reads_back : (i : Run) → Kept i.recorded.nodes i.recorded.bytes → ReadsBack i
reads_back i opened =
    let bytes = (state_after i).sink.held in
    let g = grew_run i.setting i.recorded i.calls (new_stream i.sink) in
    follow_run i.setting i.recorded opened bytes i.calls (new_stream i.sink) (new_reader (length i.sink.held)) (record { at = refl; agree = tt; long = refl }) g.held
