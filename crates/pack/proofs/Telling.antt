-- Messages that are told one after another.
use Rattle.std.proofs.Common.{◌≡◌, ℕ, zero, suc, ◌+◌, ◌<◌, ◌≤◌, List, [], ◌∷◌, ◌++◌, map, length, drop, get_or, sym, refl, ap, ◌∙◌, add-one, arith, length-append}
use Rattle.std.proofs.lemmas.List.{append-nil, append_assoc, drop_all}
use Rattle.std.proofs.Math.Seq.{drop-cons}
use Rattle.layout.specs.Lists.{rows}
use Rattle.columns.specs.declared.message.Message.{Message}
use Rattle.columns.specs.declared.record.BufferEntry.{BufferEntry}
use Rattle.columns.specs.declared.record.FieldRecord.{FieldRecord}
use Rattle.columns.specs.Telling.{told, told_all}
use Rattle.pack.specs.declared.told.ToldMessage.{ToldMessage}
use Rattle.pack.specs.Telling.{Printed, printed, printed_by, index_of}

map_push : {X Y : Type 0} (f : X → Y) (xs : List X) (x : X) → map f (xs ++ x ∷ []) ≡ map f xs ++ f x ∷ []
map_push f [] x = refl
map_push f (y ∷ ys) x = ap (λ t. f y ∷ t) (map_push f ys x)

rows_push : {X : Type 0} (n : ℕ) (f : ℕ → X) → rows (suc n) f ≡ rows n f ++ f n ∷ []
rows_push zero f = refl
rows_push (suc n) f = ap (λ t. f 0 ∷ t) (rows_push n (λ i. f (suc i)))

-- the messages before message i are told, and those from it on are told by the records that are left
pub record TellsOn (al : ℕ) (bs work : List ℕ) (whole : List Printed) (ms : List Message) (i : ℕ) (fs : List FieldRecord) (es : List BufferEntry) (done : List ToldMessage) : Type 0 where
  pub told : whole ≡ map printed_by done ++ map (printed al) (told_all bs work fs es (drop i ms))
  pub numbered : map index_of done ≡ rows (length done) (λ j. j)
  pub count : length done ≡ i

module _ (al : ℕ) (bs work : List ℕ) (whole : List Printed) (ms : List Message) where
  -- one message more
  pub tells_next : (i : ℕ) (fs later_fs : List FieldRecord) (es later_es : List BufferEntry) (done more : List ToldMessage) (d : Message) (t : ToldMessage) →
      i < length ms → TellsOn al bs work whole ms i fs es done →
      printed_by t ≡ printed al (told bs work fs es (get_or ms i d)) → index_of t ≡ i →
      later_fs ≡ drop (get_or ms i d).fields fs → later_es ≡ drop (get_or ms i d).buffers es → more ≡ done ++ t ∷ [] →
      TellsOn al bs work whole ms (i + 1) later_fs later_es more
  tells_next i fs later_fs es later_es done more d t lt before own index fields buffers pushed =
      let m = get_or ms i d in
      let rest = map (printed al) (told_all bs work (drop m.fields fs) (drop m.buffers es) (drop (i + 1) ms)) in
      let front : drop i ms ≡ m ∷ drop (i + 1) ms = rw add-one (drop-cons ms i d lt) in
      let step : map printed_by done ++ map (printed al) (told_all bs work fs es (drop i ms)) ≡ map printed_by done ++ (printed_by t ∷ rest) = rw front (ap (λ u. map printed_by done ++ (u ∷ rest)) (sym own)) in
      let joined : map printed_by done ++ (printed_by t ∷ rest) ≡ map printed_by (done ++ t ∷ []) ++ rest = rw map_push (sym (append_assoc (map printed_by done) (printed_by t ∷ []) rest)) in
      let longer : length (done ++ t ∷ []) ≡ suc (length done) = omega (arith, length-append done (t ∷ [])) in
      let numbers : map index_of (done ++ t ∷ []) ≡ rows (length done) (λ j. j) ++ length done ∷ [] = map_push index_of done t ∙ ap (λ xs. xs ++ index_of t ∷ []) before.numbered ∙ ap (λ n. rows (length done) (λ j. j) ++ n ∷ []) (index ∙ sym before.count) in
      rw (fields, buffers, pushed) (record {
        told = before.told ∙ step ∙ joined;
        numbered = rw longer (numbers ∙ sym (rows_push (length done) (λ j. j)));
        count = omega (arith, before.count);
      })

  -- all of them
  pub tells_all : (i : ℕ) (fs : List FieldRecord) (es : List BufferEntry) (done : List ToldMessage) → length ms ≤ i → TellsOn al bs work whole ms i fs es done → map printed_by done ≡ whole
  tells_all i fs es done le on =
      let none : drop i ms ≡ [] = drop_all i ms le in
      sym (on.told ∙ ap (λ xs. map printed_by done ++ map (printed al) (told_all bs work fs es xs)) none ∙ append-nil (map printed_by done))
