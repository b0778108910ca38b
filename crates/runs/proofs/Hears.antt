-- What a reader has after the frames of a batch.
use Rattle.std.proofs.Common.{◌≡◌, ℕ, ◌+◌, List, [], ◌∷◌, ◌++◌, map, length, take, sym, refl, ap, ap₂, ◌∙◌, subst, append-nil, append_assoc, length-append, take_at, drop_at, arith}
use Rattle.layout.specs.Lists.{cut}
use Rattle.layout.specs.Messages as sent
use Rattle.layout.specs.Messages.{body, body_of, buffers_all}
use Rattle.layout.specs.Messages.MessageKind.{a_batch, a_dictionary, a_delta}
use Rattle.layout.specs.Reading.{read, heard}
use Rattle.layout.specs.Shown.{Value}
use Rattle.columns.specs.Telling.{Shows, Told, sent_of, kind_read}
use Rattle.frames.specs.Frames.{header, header_length, frame, frames}
use Rattle.frames.proofs.Sizing.{length-header, length-frame}
use Rattle.runs.specs.Calls.{Setting, alignment}
use Rattle.runs.specs.Readers.{Schema, Rows, Reader, shape_at, hear_by, hear, hear_all}
use Rattle.runs.specs.Turns.{entries, lengths_of}
use Rattle.runs.proofs.Went.{told_of}

-- the body of a frame that stands behind other bytes
cut_body : (al : ℕ) (md : List ℕ) (t : Told) (pre post : List ℕ) (at : ℕ) → at ≡ length pre
    → cut (at + header_length al (length md)) (length (body al t.buffers)) (pre ++ (frame al md t ++ post)) ≡ body al t.buffers
cut_body al md t pre post at e =
    let whole : pre ++ ((header al md ++ body al t.buffers) ++ post) ≡ (pre ++ header al md) ++ (body al t.buffers ++ post) =
    ap (λ (x : List ℕ). pre ++ x) (append_assoc (header al md) (body al t.buffers) post) ∙ sym (append_assoc pre (header al md) (body al t.buffers ++ post)) in
    let long : length (pre ++ header al md) ≡ at + header_length al (length md) = omega (arith, length-append pre (header al md), length-header al md, e) in
    ap (λ (x : List ℕ). cut (at + header_length al (length md)) (length (body al t.buffers)) x) whole
    ∙ ap (take (length (body al t.buffers))) (drop_at (pre ++ header al md) (body al t.buffers ++ post) (at + header_length al (length md)) long)
    ∙ take_at (body al t.buffers) post (length (body al t.buffers)) refl

module _ (k : Schema) (al : ℕ) where
  -- the values by id after a message
  abbrev pub ids_by : Shows → List (List Value) → sent.MessageKind → List (List Value)
  ids_by s ids a_batch = ids
  ids_by s ids a_dictionary = heard (shape_at k.values s.id) ids (sent_of al s).message (body_of al s.shown)
  ids_by s ids a_delta = heard (shape_at k.values s.id) ids (sent_of al s).message (body_of al s.shown)

  -- and the last batch
  abbrev pub batch_by : Shows → List (List Value) → Rows → sent.MessageKind → Rows
  batch_by s ids x a_batch = record { rows = s.rows; columns = (read k.columns ids (sent_of al s).message (body_of al s.shown)).columns }
  batch_by s ids x a_dictionary = x
  batch_by s ids x a_delta = x

  -- after messages one after another
  abbrev pub ids_after : List Shows → List (List Value) → List (List Value)
  ids_after [] ids = ids
  ids_after (s ∷ ss) ids = ids_after ss (ids_by s ids (kind_read s.kind))

  abbrev pub batch_after : List Shows → List (List Value) → Rows → Rows
  batch_after [] ids x = x
  batch_after (s ∷ ss) ids x = batch_after ss (ids_by s ids (kind_read s.kind)) (batch_by s ids x (kind_read s.kind))

  pub ids_both : (ss ts : List Shows) (ids : List (List Value)) → ids_after (ss ++ ts) ids ≡ ids_after ts (ids_after ss ids)
  ids_both [] ts ids = refl
  ids_both (s ∷ ss) ts ids = ids_both ss ts (ids_by s ids (kind_read s.kind))

  pub batch_both : (ss ts : List Shows) (ids : List (List Value)) (x : Rows) → batch_after (ss ++ ts) ids x ≡ batch_after ts (ids_after ss ids) (batch_after ss ids x)
  batch_both [] ts ids x = refl
  batch_both (s ∷ ss) ts ids x = batch_both ss ts (ids_by s ids (kind_read s.kind)) (batch_by s ids x (kind_read s.kind))

  -- one message, with its own body
  by_at : (s : Shows) (next : ℕ) (r : Reader) (q : sent.MessageKind) → (hear_by k (sent_of al s).message (body_of al s.shown) next r q).at ≡ next
  by_at s next r a_batch = refl
  by_at s next r a_dictionary = refl
  by_at s next r a_delta = refl

  by_ids : (s : Shows) (next : ℕ) (r : Reader) (q : sent.MessageKind) → (hear_by k (sent_of al s).message (body_of al s.shown) next r q).ids ≡ ids_by s r.ids q
  by_ids s next r a_batch = refl
  by_ids s next r a_dictionary = refl
  by_ids s next r a_delta = refl

  by_batch : (s : Shows) (next : ℕ) (r : Reader) (q : sent.MessageKind) → (hear_by k (sent_of al s).message (body_of al s.shown) next r q).batch ≡ batch_by s r.ids r.batch q
  by_batch s next r a_batch = refl
  by_batch s next r a_dictionary = refl
  by_batch s next r a_delta = refl

  -- what a reader has once the frames of these messages have passed
  pub record Heard (ss : List Shows) (end : ℕ) (before after : Reader) : Type 0 where
    pub at : after.at ≡ end
    pub ids : after.ids ≡ ids_after ss before.ids
    pub batch : after.batch ≡ batch_after ss before.ids before.batch

module _ (k : Schema) (e : Setting) (bytes : List ℕ) where
  abbrev al : ℕ
  al = alignment e

  -- a message whose body is not cut out
  abbrev passed : ℕ → Shows → Reader → Reader
  passed o s r =
      let t : Told = sent_of al s in
      hear_by k t.message (body_of al s.shown) (r.at + header_length al (length (e.form o t.message)) + t.message.body_length) r t.message.kind

  hear_one : (o : ℕ) (s : Shows) (pre post : List ℕ) (r : Reader) → r.at ≡ length pre → bytes ≡ pre ++ (frame al (e.form o (sent_of al s).message) (sent_of al s) ++ post)
      → hear k bytes (sent_of al s).message (record { header = header_length al (length (e.form o (sent_of al s).message)); body = (sent_of al s).message.body_length }) r ≡ passed o s r
  hear_one o s pre post r a b =
      let t : Told = sent_of al s in
      let md = e.form o t.message in
      let at = r.at + header_length al (length md) in
      let c : cut at (length (body_of al s.shown)) bytes ≡ body_of al s.shown = ap (λ (x : List ℕ). cut at (length (body_of al s.shown)) x) b ∙ cut_body al md t pre post r.at a in
      ap (λ (x : List ℕ). hear_by k t.message x (at + t.message.body_length) r t.message.kind) c

  pub hear_frames : (o : ℕ) (ss : List Shows) (pre post : List ℕ) (r : Reader) → r.at ≡ length pre → bytes ≡ pre ++ (frames al e.form o (told_of e ss) ++ post)
      → Heard k al ss (length (pre ++ frames al e.form o (told_of e ss))) r
      (hear_all k bytes (map (λ (t : Told). t.message) (told_of e ss)) (lengths_of e (entries e o (told_of e ss))) r)
  hear_frames o [] pre post r a b = record { at = a ∙ ap length (sym (append-nil pre)); ids = refl; batch = refl }
  hear_frames o (s ∷ ss) pre post r a b =
      let t : Told = sent_of al s in
      let md = e.form o t.message in
      let x = frame al md t in
      let xs = frames al e.form (o + 1) (told_of e ss) in
      let next : Reader = passed o s r in
      let parts : bytes ≡ pre ++ (x ++ (xs ++ post)) = b ∙ ap (λ (y : List ℕ). pre ++ y) (append_assoc x xs post) in
      let one = hear_one o s pre (xs ++ post) r a parts in
      let here : next.at ≡ length (pre ++ x) =
      by_at k al s (r.at + header_length al (length md) + t.message.body_length) r t.message.kind ∙ omega (arith, length-append pre x, length-frame al md t, a) in
      let h = hear_frames (o + 1) ss (pre ++ x) post next here (parts ∙ sym (append_assoc pre x (xs ++ post))) in
      let ids : next.ids ≡ ids_by k al s r.ids t.message.kind = by_ids k al s (r.at + header_length al (length md) + t.message.body_length) r t.message.kind in
      let batch : next.batch ≡ batch_by k al s r.ids r.batch t.message.kind = by_batch k al s (r.at + header_length al (length md) + t.message.body_length) r t.message.kind in
      subst (λ (q : Reader). Heard k al (s ∷ ss) (length (pre ++ (x ++ xs))) r (hear_all k bytes (map (λ (u : Told). u.message) (told_of e ss)) (lengths_of e (entries e (o + 1) (told_of e ss))) q)) (sym one)
      (record {
        at = h.at ∙ ap length (append_assoc pre x xs);
        ids = h.ids ∙ ap (ids_after k al ss) ids;
        batch = h.batch ∙ ap₂ (batch_after k al ss) ids batch;
      })
