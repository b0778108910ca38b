-- The reader's values by id are those of what is kept.
use Rattle.std.proofs.Common.{◌≡◌, ℕ, suc, ◌+◌, ◌-◌, ◌<◌, ◌≤◌, List, [], ◌∷◌, ◌++◌, map, length, get_or, set, take, Ok, sym, refl, ap, ap₂, ◌∙◌, subst, append_assoc, length-append, arith}
use Rattle.std.proofs.Math.Seq.{get_or-append_seam, set-append_seam}
use Rattle.layout.specs.Lists.{rows}
use Rattle.layout.specs.Messages as sent
use Rattle.layout.specs.Messages.{fields_all, records_of, body_of, message_of}
use Rattle.layout.specs.Messages.MessageKind.{a_dictionary, a_delta}
use Rattle.layout.specs.Reading.{GotAll, read, decode_all, parts}
use Rattle.layout.specs.Shown.{Shown, Value, Shape, Showns, Shapes, count, values, met, met_all, shape}
use Rattle.layout.specs.Trees.{Tree, rows_of}
use Rattle.layout.specs.Windows.{shown, shape_of, value_at}
use Rattle.layout.proofs.Lists.{rows_same}
use Rattle.laws.proofs.Good.{Good}
use Rattle.laws.proofs.Lists.{rows_add, take-rows}
use Rattle.laws.proofs.Opened.{Opened}
use Rattle.laws.proofs.Round.{read_back}
use Rattle.laws.proofs.Says.{counts, shape_is, meets, good, says_of}
use Rattle.recording.specs.declared.options.IpcWriteOptions.{IpcWriteOptions}
use Rattle.dictionaries.specs.declared.update.DictionaryUpdate.{DictionaryUpdate}
use Rattle.dictionaries.specs.declared.update.DictionaryUpdate.TheVariants as update
use Rattle.dictionaries.specs.Collecting.{Met, Kept, absent, lacking, shows, collected}
use Rattle.dictionaries.specs.Laws.{shown_by, shown_after}
use Rattle.runs.specs.Looks.{later}
use Rattle.runs.specs.Readers.{Schema, shape_at}
use Rattle.runs.specs.Turns.{sends_by, sends}
use Rattle.runs.proofs.Hears.{ids_after, ids_both}
use Rattle.runs.proofs.Updates.{Means, First, no_id, first_met}

-- ---- what agrees

-- the values of an id are those of what is kept under it
abbrev pub Agrees : List Value → Kept → Type 0
Agrees vs absent = Unit {0}
Agrees vs lacking = Unit {0}
Agrees vs (shows s) = vs ≡ values s

abbrev pub AllAgree : List (List Value) → List Kept → Type 0
AllAgree ids [] = Unit {0}
AllAgree [] (k ∷ ks) = ⊥
AllAgree (v ∷ vs) (k ∷ ks) = Agrees v k × AllAgree vs ks

-- one more id, of which nothing is kept
pub agree_more : (ids : List (List Value)) (ks : List Kept) → AllAgree ids ks → length ks < length ids → AllAgree ids (ks ++ absent ∷ [])
agree_more [] ks h l = absurd (omega arith)
agree_more (v ∷ vs) [] h l = (tt, tt)
agree_more (v ∷ vs) (k ∷ ks) h l = (h.0, agree_more vs ks h.1 (omega arith))

-- ---- one window that meets no dictionary

abbrev first_column : GotAll → List Value
first_column g = get_or g.columns 0 []

-- the message of one window, read by a shape
abbrev read_one : ℕ → sent.MessageKind → ℕ → ℕ → Shape → Shown → List Value
read_one al kind id n q v =
    let ss : Showns = Showns.more v Showns.none in
    first_column (read (Shapes.more q Shapes.none) [] (message_of kind id n al ss) (body_of al ss))

read_alone : (al : ℕ) (kind : sent.MessageKind) (id n : ℕ) (v : Shown) (q : Shape) → Good v → met v ≡ [] → shape v ≡ q → read_one al kind id n q v ≡ values v
unfolding shape met values
read_alone al kind id n v q g plain e =
    let ss : Showns = Showns.more v Showns.none in
    let nothing : map values (met_all ss) ++ [] ≡ [] = ap (λ (ts : List Shown). map values (ts ++ []) ++ []) plain in
    ap₂ (λ (x : Shapes) (ids : List (List Value)). first_column (decode_all x ids (fields_all ss) (parts (body_of al ss) (records_of al ss))))
    (ap (λ (x : Shape). Shapes.more x Shapes.none) (sym e)) (sym nothing)
    ∙ ap first_column (read_back al ss [] (g, tt))

-- ---- a dictionary: all rows of a tree

abbrev pub whole : List ℕ → Tree → Shown
whole bs t = shown bs t 0 (rows_of t)

abbrev pub AllOpened : List ℕ → List Tree → Type 0
AllOpened bs [] = Unit {0}
AllOpened bs (t ∷ ts) = Opened bs t × AllOpened bs ts

module _ (bs : List ℕ) (t : Tree) (opened : Opened bs t) (plain : met (whole bs t) ≡ []) where
  no_dictionary : (a c : ℕ) → met (shown bs t a c) ≡ []
  no_dictionary a c = meets bs t a c ∙ sym (meets bs t 0 (rows_of t)) ∙ plain

  read_rows : (al : ℕ) (kind : sent.MessageKind) (id n a c : ℕ) → a + c ≤ rows_of t → read_one al kind id n (shape_of t) (shown bs t a c) ≡ values (shown bs t a c)
  read_rows al kind id n a c l = read_alone al kind id n (shown bs t a c) (shape_of t) (good bs t a c opened l) (no_dictionary a c) (shape_is bs t a c)

  -- its first rows, and the later ones
  both_parts : (n : ℕ) → n ≤ rows_of t → take n (values (whole bs t)) ++ values (shown bs t n (rows_of t - n)) ≡ values (whole bs t)
  both_parts n l =
      let f : ℕ → Value = λ r. value_at bs t (0 + r) in
      let m = rows_of t - n in
      let all = says_of bs t 0 (rows_of t) opened (omega arith) in
      let last : values (shown bs t n m) ≡ rows m (λ i. f (n + i)) =
      says_of bs t n m opened (omega arith) ∙ rows_same m (λ r. value_at bs t (n + r)) (λ i. f (n + i)) (λ r h. let z : n + r ≡ 0 + (n + r) = omega arith in ap (value_at bs t) z) in
      let count : n + m ≡ rows_of t = omega arith in
      ap₂ (λ (x y : List Value). x ++ y) (ap (take n) all ∙ take-rows n (rows_of t) f l) last
      ∙ rows_add n m f ∙ ap (λ (x : ℕ). rows x f) count ∙ sym all

-- ---- the message of one dictionary

module _ (k : Schema) (al : ℕ) (bs : List ℕ) where
  -- the values of the id after those in front
  pub record Once (front vs : List (List Value)) (x : Kept) (s : Shown) (u : DictionaryUpdate) (after : List (List Value)) : Type 0 where
    pub value : List Value
    pub is : after ≡ front ++ value ∷ vs
    pub agrees : Agrees value (shown_by x s u)
    pub new : value ≡ values s

  module _ (t : Tree) (opened : Opened bs t) (plain : met (whole bs t) ≡ []) (later_rows : ℕ → Shown) (later_is : (n : ℕ) → later_rows n ≡ shown bs t n (rows_of t - n))
      (front vs : List (List Value)) (v : List Value) (id : ℕ) (here : id ≡ length front) (shape_here : shape_at k.values id ≡ shape_of t) where
    put : (x : List Value) → set (front ++ v ∷ vs) id x ≡ front ++ x ∷ vs
    put x = ap (λ (i : ℕ). set (front ++ v ∷ vs) i x) here ∙ set-append_seam front v vs x

    now : get_or (front ++ v ∷ vs) id [] ≡ v
    now = ap (λ (i : ℕ). get_or (front ++ v ∷ vs) i []) here ∙ get_or-append_seam front v vs []

    sent_whole : (n : ℕ) → set (front ++ v ∷ vs) id (read_one al a_dictionary id n (shape_at k.values id) (whole bs t)) ≡ front ++ values (whole bs t) ∷ vs
    sent_whole n =
        ap (λ (q : Shape). set (front ++ v ∷ vs) id (read_one al a_dictionary id n q (whole bs t))) shape_here
        ∙ ap (set (front ++ v ∷ vs) id) (read_rows bs t opened plain al a_dictionary id n 0 (rows_of t) (omega arith))
        ∙ put (values (whole bs t))

    sent_later : (n m : ℕ) → n ≤ rows_of t → v ≡ take n (values (whole bs t))
        → set (front ++ v ∷ vs) id (get_or (front ++ v ∷ vs) id [] ++ read_one al a_delta id m (shape_at k.values id) (later_rows n)) ≡ front ++ values (whole bs t) ∷ vs
    sent_later n m l e =
        let new : read_one al a_delta id m (shape_at k.values id) (later_rows n) ≡ values (shown bs t n (rows_of t - n)) =
        ap₂ (read_one al a_delta id m) shape_here (later_is n) ∙ read_rows bs t opened plain al a_delta id m n (rows_of t - n) (omega arith) in
        ap (set (front ++ v ∷ vs) id) (ap₂ (λ (x y : List Value). x ++ y) (now ∙ e) new ∙ both_parts bs t opened plain n l)
        ∙ put (values (whole bs t))

    once : (d : Met) → d.values ≡ whole bs t → (x : Kept) → Agrees v x → (u : DictionaryUpdate) → Means x d.values u
        → Once front vs x d.values u (ids_after k al (sends_by later_rows id d u) (front ++ v ∷ vs))
    once d e absent a update.None m = absurd m
    once d e lacking a update.None m = absurd m
    once d e (shows s) a update.None m = record { value = v; is = refl; agrees = a; new = a ∙ m }
    once d e x a update.New m = record {
      value = values (whole bs t);
      is = ap (λ (s : Shown). ids_after k al (sends_by later_rows id (record { column = d.column; node = d.node; values = s }) update.New) (front ++ v ∷ vs)) e ∙ sent_whole (count (whole bs t));
      agrees = ap values (sym e);
      new = ap values (sym e);
    }
    once d e x a update.Replaced m = record {
      value = values (whole bs t);
      is = ap (λ (s : Shown). ids_after k al (sends_by later_rows id (record { column = d.column; node = d.node; values = s }) update.Replaced) (front ++ v ∷ vs)) e ∙ sent_whole (count (whole bs t));
      agrees = ap values (sym e);
      new = ap values (sym e);
    }
    once d e absent a (update.Delta n) m = absurd m
    once d e lacking a (update.Delta n) m = absurd m
    once d e (shows s) a (update.Delta n) m =
        let rows : count d.values ≡ rows_of t = ap count e ∙ counts bs t 0 (rows_of t) in
        record {
          value = values (whole bs t);
          is = sent_later n (count d.values - n) (omega (arith, m.0)) (a ∙ m.1 ∙ ap (λ (w : Shown). take n (values w)) e);
          agrees = ap values (sym e);
          new = ap values (sym e);
        }

  -- ---- the messages of all dictionaries

  -- they leave what agrees with what is kept then, and the values of the dictionaries met come first
  pub record Through (front ids : List (List Value)) (ks : List Kept) (us : List DictionaryUpdate) (ds : List Met) (after : List (List Value)) : Type 0 where
    pub back : List (List Value)
    pub is : after ≡ front ++ back
    pub agree : AllAgree back (shown_after ks us ds)
    pub rest : List (List Value)
    pub new : back ≡ map (λ (d : Met). values d.values) ds ++ rest
    pub long : length back ≡ length ids

  none_after : (ks : List Kept) (us : List DictionaryUpdate) → shown_after ks us [] ≡ ks
  none_after [] us = refl
  none_after (k ∷ ks) [] = refl
  none_after (k ∷ ks) (u ∷ us) = refl

  module _ (o : IpcWriteOptions) (later_by : ℕ → ℕ → Shown) where
    next_by : (d : Met) (ds : List Met) (x : Kept) (ks : List Kept) (front vs : List (List Value)) (v : List Value) (id : ℕ) (us : List DictionaryUpdate) (f : First o x ks d ds us)
        → (one : Once front vs x d.values f.update (ids_after k al (sends_by (later_by id) id d f.update) (front ++ v ∷ vs)))
        → Through (front ++ one.value ∷ []) vs ks f.others ds (ids_after k al (sends later_by (id + 1) ds f.others) ((front ++ one.value ∷ []) ++ vs))
        → Through front (v ∷ vs) (x ∷ ks) us (d ∷ ds) (ids_after k al (sends later_by id (d ∷ ds) us) (front ++ v ∷ vs))
    next_by d ds x ks front vs v id us f one h =
        let seam : (ys : List (List Value)) → (front ++ one.value ∷ []) ++ ys ≡ front ++ one.value ∷ ys = λ ys. append_assoc front (one.value ∷ []) ys in
        subst (λ (ws : List DictionaryUpdate). Through front (v ∷ vs) (x ∷ ks) ws (d ∷ ds) (ids_after k al (sends later_by id (d ∷ ds) ws) (front ++ v ∷ vs))) (sym f.is)
        (record {
          back = one.value ∷ h.back;
          is =
              ids_both k al (sends_by (later_by id) id d f.update) (sends later_by (id + 1) ds f.others) (front ++ v ∷ vs)
              ∙ ap (ids_after k al (sends later_by (id + 1) ds f.others)) (one.is ∙ sym (seam vs))
              ∙ h.is ∙ seam h.back;
          agree = (one.agrees, h.agree);
          rest = h.rest;
          new = ap₂ {C = List (List Value)} (λ (y : List Value) (ys : List (List Value)). y ∷ ys) one.new h.new;
          long = ap suc h.long;
        })

    pub through : (ds : List Met) (ts : List Tree) (us : List DictionaryUpdate) (ks : List Kept) (front ids : List (List Value)) (id : ℕ) → id ≡ length front
        → collected o ks ds ≡ Ok us → map (λ (d : Met). d.values) ds ≡ map (whole bs) ts → AllOpened bs ts
        → ((i n : ℕ) → later_by (id + i) n ≡ later bs ts i n) → ((i : ℕ) → shape_at k.values (id + i) ≡ shape_at (map shape_of ts) i)
        → AllAgree ids ks → Through front ids ks us ds (ids_after k al (sends later_by id ds us) (front ++ ids))
    through [] ts us ks front ids id e q m g l p a =
        record { back = ids; is = refl; agree = subst (AllAgree ids) (sym (none_after ks us)) a; rest = ids; new = refl; long = refl }
    through (d ∷ ds) [] us ks front ids id e q m g l p a = cc
    through (d ∷ ds) (t ∷ ts) us [] front ids id e q m g l p a = absurd (no_id o d ds us q)
    through (d ∷ ds) (t ∷ ts) us (x ∷ ks) front [] id e q m g l p a = absurd a
    through (d ∷ ds) (t ∷ ts) us (x ∷ ks) front (v ∷ vs) id e q m g l p a =
        let f = first_met o d ds us x ks q in
        let here : d.values ≡ whole bs t = cc in
        let others : map (λ (y : Met). y.values) ds ≡ map (whole bs) ts = cc in
        let first : id + 0 ≡ id = omega arith in
        let after : (i : ℕ) → id + 1 + i ≡ id + suc i = λ i. omega arith in
        let later_is : (n : ℕ) → later_by id n ≡ shown bs t n (rows_of t - n) = λ n. ap (λ (j : ℕ). later_by j n) (sym first) ∙ l 0 n in
        let shape_is : shape_at k.values id ≡ shape_of t = ap (shape_at k.values) (sym first) ∙ p 0 in
        let one = once t g.0 (ap met (sym here) ∙ f.plain) (later_by id) later_is front vs v id e shape_is d here x a.0 f.update f.means in
        let h = through ds ts f.others ks (front ++ one.value ∷ []) vs (id + 1) (omega (arith, e, length-append front (one.value ∷ []))) f.rest others g.1
        (λ i n. ap (λ (j : ℕ). later_by j n) (after i) ∙ l (suc i) n) (λ i. ap (shape_at k.values) (after i) ∙ p (suc i)) a.1 in
        next_by d ds x ks front vs v id us f one h
