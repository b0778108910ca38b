-- A walk that collects dictionaries: one dictionary, and one part after another.
use Rattle.std.proofs.Common.{◌≡◌, ℕ, suc, ◌+◌, ◌<◌, ◌≤◌, Bool, true, false, cond, List, [], ◌∷◌, ◌++◌, map, length, get_or, take, drop, set, Some, None, Option, Ok, Err, Result, IsSome, sym, refl, ap, ap₂, ◌∙◌, subst, append_assoc, append-nil, arith}
use Rattle.std.proofs.Math.Seq.{drop-cons, take-set-lt}
use Rattle.std.proofs.lemmas.List.Elements.{All-nil, All-cons, All-append}
use Rattle.std.proofs.lemmas.List.{map-set, drop-set-lt, length-take-le, drop_all, length-map, length-append, map-append, get_or-take}
use Rattle.std.proofs.Math.ListN.{get_or-map}
use Rattle.layout.specs.declared.fault.Fault.{Fault}
use Rattle.layout.specs.declared.fault.Refusal.{Refusal}
use Rattle.layout.specs.declared.fault.Refusal.TheVariants.{DictionaryAboveDictionary, NoId}
use Rattle.layout.specs.Faults.{fault_of}
use Rattle.layout.specs.Shown.{met}
use Rattle.dictionaries.specs.declared.update.DictionaryUpdate.{DictionaryUpdate}
use Rattle.dictionaries.specs.declared.update.DictionaryUpdate.TheVariants as update
use Rattle.dictionaries.specs.declared.update.DictionaryValues.{DictionaryValues}
use Rattle.dictionaries.specs.declared.update.MetDictionary.{MetDictionary}
use Rattle.dictionaries.specs.declared.written.Entry.{Entry}
use Rattle.dictionaries.specs.Collecting.{Met, Kept, alone, collected, refused, updated, update_of}
use Rattle.dictionaries.specs.Tracking.{nothing_kept, entry_of, kept_at, kept_shown, entered}
use Rattle.dictionaries.specs.Walking.{Walked, State, met_of, update_in, updates_in, kept_left, tried, after, outcome, IsPlaced, Steps, Refuses, placed}

-- ---- one part after another

after_after : (us vs : List DictionaryUpdate) (r : Result (List DictionaryUpdate) Fault) → after us (after vs r) ≡ after (us ++ vs) r
after_after us vs (Ok ws) = ap (λ (x : List DictionaryUpdate). Ok x) (sym (append_assoc us vs ws))
after_after us vs (Err f) = refl

module _ (w : Walked) where
  pub steps_none : (s : State) → Steps w [] s s
  steps_none s = record { outcome = λ rest. refl; more = []; listed = sym (append-nil s.listed); met = refl; placed = All-nil (IsPlaced w); unchanged = λ h. refl }

  pub steps_then : (ds es : List Met) (s t u : State) → Steps w ds s t → Steps w es t u → Steps w (ds ++ es) s u
  steps_then ds es s t u a b = record {
    outcome = λ rest. ap (outcome w s) (append_assoc ds es rest) ∙ a.outcome (es ++ rest) ∙ b.outcome rest;
    more = a.more ++ b.more;
    listed = b.listed ∙ ap (λ (ms : List MetDictionary). ms ++ b.more) a.listed ∙ append_assoc s.listed a.more b.more;
    met = map-append (met_of w) a.more b.more ∙ ap₂ {C = List Met} (λ xs ys. xs ++ ys) a.met b.met;
    placed = All-append (IsPlaced w) a.more b.more a.placed b.placed;
    unchanged = λ h. b.unchanged h ∙ a.unchanged h;
  }

  pub refuses_first : (ds es : List Met) (s : State) (f : Fault) → Refuses w ds s f → Refuses w (ds ++ es) s f
  refuses_first ds es s f a rest = ap (outcome w s) (append_assoc ds es rest) ∙ a (es ++ rest)

  pub refuses_then : (ds es : List Met) (s t : State) (f : Fault) → Steps w ds s t → Refuses w es t f → Refuses w (ds ++ es) s f
  refuses_then ds es s t f a b rest = ap (outcome w s) (append_assoc ds es rest) ∙ a.outcome (es ++ rest) ∙ b rest

-- ---- one dictionary

module _ (w : Walked) (none : w.above ≡ None) (s : State) (d : Met) (plain : alone (met d.values) ≡ true) where
  abbrev j : ℕ
  j = length s.listed

  abbrev kept : List Kept
  kept = map (λ (e : Entry). kept_shown w.nodes w.bytes e.kept) (take w.ids s.entries)

  -- no dictionary stands above
  as_collected : (t : State) (ds : List Met) → outcome w t ds ≡ after (updates_in t.listed) (collected w.options (kept_left w t) ds)
  as_collected t ds = ap (λ (a : Option ℕ). after (updates_in t.listed) (tried a w.options (kept_left w t) ds)) none

  length_kept : w.ids ≤ length s.entries → length kept ≡ w.ids
  length_kept l = simp length-map (length-take-le w.ids s.entries l)

  pub no_id : w.ids ≤ length s.entries → w.ids ≤ j → Refuses w (d ∷ []) s (fault_of NoId d.column d.node)
  no_id long l rest =
      let gone : kept_left w s ≡ [] = drop_all j kept (omega (arith, length_kept long)) in
      as_collected s (d ∷ rest)
      ∙ ap (λ (ks : List Kept). after (updates_in s.listed) (collected w.options ks (d ∷ rest))) gone
      ∙ ap (λ (b : Bool). after (updates_in s.listed) (cond b (refused NoId d) (refused DictionaryAboveDictionary d))) plain

  -- the entry that it takes, and those after it
  module _ (long : w.ids ≤ length s.entries) (l : j < w.ids) where
    abbrev old : Option DictionaryValues
    old = kept_at s.entries j

    first_kept : kept_left w s ≡ kept_shown w.nodes w.bytes old ∷ drop (suc j) kept
    first_kept =
        let g : Entry → Kept = λ e. kept_shown w.nodes w.bytes e.kept in
        let here : get_or kept j (g nothing_kept) ≡ kept_shown w.nodes w.bytes old =
        get_or-map g (take w.ids s.entries) j nothing_kept ∙ ap g (get_or-take w.ids s.entries j nothing_kept l) in
        drop-cons kept j (g nothing_kept) (omega (arith, length_kept long)) ∙ ap (λ (k : Kept). k ∷ drop (suc j) kept) here

    set_kept : (e : Entry) → drop (suc j) (map (λ (e : Entry). kept_shown w.nodes w.bytes e.kept) (take w.ids (set s.entries j e))) ≡ drop (suc j) kept
    set_kept e =
        let g : Entry → Kept = λ e. kept_shown w.nodes w.bytes e.kept in
        ap (λ (es : List Entry). drop (suc j) (map g es)) (take-set-lt w.ids s.entries j e l)
        ∙ ap (drop (suc j)) (map-set g (take w.ids s.entries) j e)
        ∙ drop-set-lt (suc j) kept j (g e) (omega arith)

    entered_kept : (v : DictionaryValues) (u : DictionaryUpdate) → drop (suc j) (map (λ (e : Entry). kept_shown w.nodes w.bytes e.kept) (take w.ids (entered j v (Ok u) s.entries))) ≡ drop (suc j) kept
    entered_kept v update.None = refl
    entered_kept v update.New = set_kept (entry_of v)
    entered_kept v update.Replaced = set_kept (entry_of v)
    entered_kept v (update.Delta k) = set_kept (entry_of v)

    -- it comes to its update, then what follows
    taken : (rest : List Met) → outcome w s (d ∷ rest) ≡ after (updates_in s.listed) (updated d (update_of w.options (kept_shown w.nodes w.bytes old) d.values) (collected w.options (drop (suc j) kept) rest))
    taken rest =
        as_collected s (d ∷ rest)
        ∙ ap (λ (ks : List Kept). after (updates_in s.listed) (collected w.options ks (d ∷ rest))) first_kept
        ∙ ap (λ (b : Bool). after (updates_in s.listed) (cond b (updated d (update_of w.options (kept_shown w.nodes w.bytes old) d.values) (collected w.options (drop (suc j) kept) rest)) (refused DictionaryAboveDictionary d))) plain

    pub not_allowed : (r : Refusal) → update_of w.options (kept_shown w.nodes w.bytes old) d.values ≡ Err r → Refuses w (d ∷ []) s (fault_of r d.column d.node)
    not_allowed r e rest =
        taken rest ∙ ap (λ (x : Result DictionaryUpdate Refusal). after (updates_in s.listed) (updated d x (collected w.options (drop (suc j) kept) rest))) e

    -- one update more
    one_more : (u : DictionaryUpdate) (us : List DictionaryUpdate) (r : Result (List DictionaryUpdate) Fault) → after us (updated d (Ok u) r) ≡ after (us ++ u ∷ []) r
    one_more u us (Ok vs) = ap (λ (x : List DictionaryUpdate). Ok x) (sym (append_assoc us (u ∷ []) vs))
    one_more u us (Err f) = refl

    pub one_step : (u : DictionaryUpdate) (v : DictionaryValues) (m : MetDictionary) → update_of w.options (kept_shown w.nodes w.bytes old) d.values ≡ Ok u → m.update ≡ u → met_of w m ≡ d → IsPlaced w m
        → Steps w (d ∷ []) s (record { entries = entered j v (Ok u) s.entries; listed = s.listed ++ m ∷ [] })
    one_step u v m e is at place =
        let t : State = record { entries = entered j v (Ok u) s.entries; listed = s.listed ++ m ∷ [] } in
        let n : length t.listed ≡ suc j = simp length-append (omega arith) in
        let left : kept_left w t ≡ drop (suc j) kept = ap (λ (n : ℕ). drop n (map (λ (e : Entry). kept_shown w.nodes w.bytes e.kept) (take w.ids t.entries))) n ∙ entered_kept v u in
        let us : updates_in t.listed ≡ updates_in s.listed ++ u ∷ [] = map-append update_in s.listed (m ∷ []) ∙ ap (λ (u : DictionaryUpdate). updates_in s.listed ++ u ∷ []) is in
        record {
          outcome = λ rest.
              taken rest
              ∙ ap (λ (x : Result DictionaryUpdate Refusal). after (updates_in s.listed) (updated d x (collected w.options (drop (suc j) kept) rest))) e
              ∙ one_more u (updates_in s.listed) (collected w.options (drop (suc j) kept) rest)
              ∙ ap₂ (λ (us : List DictionaryUpdate) (ks : List Kept). after us (collected w.options ks rest)) (sym us) (sym left)
              ∙ sym (as_collected t rest);
          more = m ∷ [];
          listed = refl;
          met = ap (λ (d : Met). d ∷ []) at;
          placed = All-cons (IsPlaced w) m [] place (All-nil (IsPlaced w));
          unchanged = λ h. absurd (let no : false ≡ true = subst IsSome none h in cc);
        }

-- ---- below a dictionary

module _ (w : Walked) (u : ℕ) (some : w.above ≡ Some u) where
  as_tried : (s : State) (ds : List Met) → outcome w s ds ≡ after (updates_in s.listed) (tried (Some u) w.options (kept_left w s) ds)
  as_tried s ds = ap (λ (a : Option ℕ). after (updates_in s.listed) (tried a w.options (kept_left w s) ds)) some

  -- one that is met refuses the one above
  pub met_above : (s : State) (d : Met) → Refuses w (d ∷ []) s (fault_of DictionaryAboveDictionary d.column u)
  met_above s d rest = as_tried s (d ∷ rest)

  -- nothing is listed, so nothing was met
  pub none_met : (ds : List Met) (s t : State) → Steps w ds s t → (ds ≡ []) × (t ≡ s)
  none_met ds s t h =
      let same : t ≡ s = h.unchanged (subst IsSome (sym some) refl) in
      let longer : s.listed ≡ s.listed ++ h.more = ap (λ (t : State). t.listed) (sym same) ∙ h.listed in
      (sym h.met ∙ ap (map (met_of w)) (by h.more (simp length-append at (ap length longer))), same)
    where
      by : {n : ℕ} (ms : List MetDictionary) → n ≡ n + length ms → ms ≡ []
      by [] e = refl
      by (m ∷ ms) e = absurd (omega arith)

  -- a refusal says that one was met
  pub some_met : (ds : List Met) (s : State) (f : Fault) → Refuses w ds s f → (d : Met) × (es : List Met) × (ds ≡ d ∷ es) × (f ≡ fault_of DictionaryAboveDictionary d.column u)
  some_met [] s f h = absurd (let no : ◌≡◌ {A = Result (List DictionaryUpdate) Fault} (Ok (updates_in s.listed ++ [])) (Err f) = sym (as_tried s []) ∙ h [] in cc)
  some_met (d ∷ ds) s f h =
      let e : ◌≡◌ {A = Result (List DictionaryUpdate) Fault} (Err f) (Err (fault_of DictionaryAboveDictionary d.column u)) = sym (h []) ∙ as_tried s ((d ∷ ds) ++ []) in
      (d, ds, refl, cc)

-- ---- a refusal at its place

pub placed_ok : (c k : ℕ) (x : Result DictionaryUpdate Refusal) (u : DictionaryUpdate) → placed c k x ≡ Ok u → x ≡ Ok u
placed_ok c k (Ok v) u e = let same : v ≡ u = cc in ap (λ (u : DictionaryUpdate). Ok u) same
placed_ok c k (Err r) u e = cc

pub placed_err : (c k : ℕ) (x : Result DictionaryUpdate Refusal) (f : Fault) → placed c k x ≡ Err f → (r : Refusal) × (x ≡ Err r) × (f ≡ fault_of r c k)
placed_err c k (Ok v) f e = cc
placed_err c k (Err r) f e = (r, refl, cc)

-- a dictionary with the next id, by what its judging answers
module _ (w : Walked) (none : w.above ≡ None) (s : State) (d : Met) (plain : alone (met d.values) ≡ true) (id : ℕ) (next : id ≡ length s.listed) (long : w.ids ≤ length s.entries) (x : Result DictionaryUpdate Refusal)
    (is : x ≡ update_of w.options (kept_shown w.nodes w.bytes (kept_at s.entries id)) d.values) where
  judged : x ≡ update_of w.options (kept_shown w.nodes w.bytes (kept_at s.entries (length s.listed))) d.values
  judged = is ∙ ap (λ (i : ℕ). update_of w.options (kept_shown w.nodes w.bytes (kept_at s.entries i)) d.values) next

  pub judged_err : id < w.ids → (f g : Fault) → placed d.column d.node x ≡ Err f → g ≡ f → Refuses w (d ∷ []) s g
  judged_err l f g e same =
      let t = placed_err d.column d.node x f e in
      subst (Refuses w (d ∷ []) s) (sym (same ∙ t.2)) (not_allowed w none s d plain long (omega arith) t.0 (sym judged ∙ t.1))

  pub judged_ok : id < w.ids → (u : DictionaryUpdate) (v : DictionaryValues) (m : MetDictionary) (es : List Entry) (ms : List MetDictionary) → placed d.column d.node x ≡ Ok u
      → es ≡ entered id v x s.entries → ms ≡ s.listed ++ m ∷ [] → m.update ≡ u → met_of w m ≡ d → IsPlaced w m → Steps w (d ∷ []) s (record { entries = es; listed = ms })
  judged_ok l u v m es ms e entries listed at met place =
      let ok = placed_ok d.column d.node x u e in
      let so : es ≡ entered (length s.listed) v (Ok u) s.entries = entries ∙ ap₂ (λ (i : ℕ) (x : Result DictionaryUpdate Refusal). entered i v x s.entries) next ok in
      subst (Steps w (d ∷ []) s) (ap₂ (λ (es : List Entry) (ms : List MetDictionary). record { entries = es; listed = ms }) (sym so) (sym listed))
      (one_step w none s d plain long (omega arith) u v m (sym judged ∙ ok) at met place)

-- a dictionary in whose values one is met
pub nested_refused : (w : Walked) (s : State) (d : Met) → w.above ≡ None → alone (met d.values) ≡ false → Refuses w (d ∷ []) s (fault_of DictionaryAboveDictionary d.column d.node)
nested_refused w s d none some rest =
    ap (λ (a : Option ℕ). after (updates_in s.listed) (tried a w.options (kept_left w s) (d ∷ rest))) none ∙ by (kept_left w s)
  where
    by : (ks : List Kept) → after (updates_in s.listed) (collected w.options ks (d ∷ rest)) ≡ Err (fault_of DictionaryAboveDictionary d.column d.node)
    by [] = ap (λ (b : Bool). after (updates_in s.listed) (cond b (refused NoId d) (refused DictionaryAboveDictionary d))) some
    by (k ∷ ks) =
        ap (λ (b : Bool). after (updates_in s.listed) (cond b (updated d (update_of w.options k d.values) (collected w.options ks rest)) (refused DictionaryAboveDictionary d))) some
