-- A walk over the columns of a batch.
use Rattle.std.proofs.Common.{◌≡◌, ℕ, zero, suc, ◌+◌, ◌<◌, ◌≤◌, List, [], ◌∷◌, ◌++◌, map, length, take, drop, None, Ok, Err, Result, All, sym, refl, ap, ap₂, ◌∙◌, subst, inl, inr, append_assoc, append-nil, arith}
use Rattle.std.proofs.lemmas.Bool.{cases_lt}
use Rattle.std.proofs.lemmas.List.{map-append, drop-drop}
use Rattle.std.proofs.Math.Seq.{drop-nil}
use Rattle.std.proofs.lemmas.List.Elements.{All-nil, All-append}
use Rattle.layout.specs.declared.fault.Fault.{Fault}
use Rattle.layout.specs.declared.fault.Refusal.TheVariants.{Nesting}
use Rattle.layout.specs.declared.node.Node.{Node}
use Rattle.layout.specs.Columns.{column_node}
use Rattle.layout.specs.Nodes.{end_of}
use Rattle.layout.specs.Windows as layout
use Rattle.layout.specs.Windows.{shown_side}
use Rattle.layout.proofs.Opening.{kept_rule}
use Rattle.recording.specs.declared.columns.Columns.{Columns}
use Rattle.recording.specs.declared.options.IpcWriteOptions.{IpcWriteOptions}
use Rattle.recording.specs.declared.recording.Recording.{Recording}
use Rattle.recording.specs.declared.window.Window.{Window}
use Rattle.recording.specs.Passing.{rows_of_places}
use Rattle.recording.specs.Places.{places_between}
use Rattle.recording.specs.View.{nodes_in, bytes_in}
use Rattle.recording.specs.Windows.{window_at, window_in}
use Rattle.recording.proofs.SideBySide.{places_none, places_next}
use Rattle.dictionaries.specs.declared.collect.Walk.{Walk}
use Rattle.dictionaries.specs.declared.update.DictionaryUpdate.{DictionaryUpdate}
use Rattle.dictionaries.specs.declared.update.MetDictionary.{MetDictionary}
use Rattle.dictionaries.specs.declared.written.Entry.{Entry}
use Rattle.dictionaries.specs.Batches.{column_windows, updates_of_batch, met_as, IsPlacedIn, AreMet}
use Rattle.dictionaries.specs.Collecting.{Met, collected}
use Rattle.dictionaries.specs.Tracking.{kept_shown, kept_of_entries}
use Rattle.dictionaries.specs.Walking.{Walked, State, updates_in, outcome, IsPlaced, Steps, Refuses, after, met_in_window}
use Rattle.dictionaries.specs.Walks.{walk_of}
use Rattle.dictionaries.proofs.Meeting.{met_in_columns, met_columns_are}

-- ---- the columns, by their numbers

column_shift : (ns : List Node) (p n : ℕ) → column_node ns (end_of ns p) n ≡ column_node ns p (suc n)
column_shift ns p zero = refl
column_shift ns p (suc n) = ap (end_of ns) (column_shift ns p n)

pub record IsColumn (rec : Recording) (i : ℕ) (u : layout.Window) : Type 0 where
  pub nodes : u.nodes ≡ nodes_in rec
  pub bytes : u.bytes ≡ bytes_in rec
  pub node : u.node ≡ i

module _ (rec : Recording) (e rows : ℕ) (high : e ≤ length (nodes_in rec)) where
  abbrev from : ℕ → List layout.Window
  from p = rows_of_places 0 rows (places_between rec p e)

  from_none : (p : ℕ) → e ≤ p → from p ≡ []
  from_none p h = ap (rows_of_places 0 rows) (places_none rec p e h)

  from_next : (p : ℕ) → p < e → from p ≡ window_at rec p 0 rows ∷ from (end_of (nodes_in rec) p)
  from_next p l = ap (rows_of_places 0 rows) (places_next rec p e l high)

  -- number n is the column's node
  empty : (n p : ℕ) (u : layout.Window) (rest : List layout.Window) → e ≤ p → drop n (from p) ≡ u ∷ rest → ⊥
  empty n p u rest l h = let none : ◌≡◌ {A = List layout.Window} [] (u ∷ rest) = sym (ap (drop n) (from_none p l) ∙ drop-nil n) ∙ h in cc

  pub column_at : (n p : ℕ) (u : layout.Window) (rest : List layout.Window) → drop n (from p) ≡ u ∷ rest → IsColumn rec (column_node (nodes_in rec) p n) u
  column_at zero p u rest h =
      elim (cases_lt p e) [
        | inl l ↦
            (let same : window_at rec p 0 rows ≡ u = let both = sym (from_next p l) ∙ h in cc in
            record { nodes = ap (λ (u : layout.Window). u.nodes) (sym same); bytes = ap (λ (u : layout.Window). u.bytes) (sym same); node = ap (λ (u : layout.Window). u.node) (sym same) })
        | inr l ↦ absurd (empty zero p u rest l h)
      ]
  column_at (suc n) p u rest h =
      elim (cases_lt p e) [
        | inl l ↦
            subst (λ (i : ℕ). IsColumn rec i u) (column_shift (nodes_in rec) p n) (column_at n (end_of (nodes_in rec) p) u rest (sym (ap (drop (suc n)) (from_next p l)) ∙ h))
        | inr l ↦ absurd (empty (suc n) p u rest l h)
      ]

  -- there are no more columns than nodes
  pub column_few : (n p : ℕ) (u : layout.Window) (rest : List layout.Window) → drop n (from p) ≡ u ∷ rest → n + p < e
  column_few zero p u rest h = elim (cases_lt p e) [ inl l ↦ omega arith | inr l ↦ absurd (empty zero p u rest l h) ]
  column_few (suc n) p u rest h =
      elim (cases_lt p e) [
        | inl l ↦
            (let some = (kept_rule (nodes_in rec) (bytes_in rec) rec.opened p (omega arith) Nesting).some in
            omega (arith, column_few n (end_of (nodes_in rec) p) u rest (sym (ap (drop (suc n)) (from_next p l)) ∙ h)))
        | inr l ↦ absurd (empty (suc n) p u rest l h)
      ]

-- ---- the walk

abbrev pub batch_walk : IpcWriteOptions → ℕ → Columns → Walked
batch_walk o ids c = record { options = o; nodes = nodes_in c.recording; bytes = bytes_in c.recording; ids = ids; column = 0; first = 0; above = None }

abbrev pub started : List Entry → State
started es = record { entries = es; listed = [] }

-- of all columns, those from number n on are still to be walked
pub record LeftInBatch (o : IpcWriteOptions) (ids : ℕ) (c : Columns) (es : List Entry) (n : ℕ) (ws : List layout.Window) (s : State) : Type 0 where
  pub outcome : outcome (batch_walk o ids c) (started es) (met_in_columns 0 (column_windows c)) ≡ outcome (batch_walk o ids c) s (met_in_columns n ws)
  pub met : map (met_as c) s.listed ++ met_in_columns n ws ≡ met_in_columns 0 (column_windows c)
  pub placed : All (IsPlacedIn c) s.listed
  pub here : drop n (column_windows c) ≡ ws

map_twice : {X Y Z : Type 0} (f : Y → Z) (g : X → Y) (xs : List X) → map f (map g xs) ≡ map (λ x. f (g x)) xs
map_twice f g [] = refl
map_twice f g (x ∷ xs) = ap (λ ys. f (g x) ∷ ys) (map_twice f g xs)

after_none : (r : Result (List DictionaryUpdate) Fault) → after [] r ≡ r
after_none (Ok us) = refl
after_none (Err f) = refl

-- the walk over all columns comes to the batch's updates
whole : (o : IpcWriteOptions) (ids : ℕ) (c : Columns) (es : List Entry) → outcome (batch_walk o ids c) (started es) (met_in_columns 0 (column_windows c)) ≡ updates_of_batch o (kept_of_entries ids es) c
whole o ids c es =
    after_none (collected o (map (λ (e : Entry). kept_shown (nodes_in c.recording) (bytes_in c.recording) e.kept) (take ids es)) (met_in_columns 0 (column_windows c)))
    ∙ ap₂ (collected o) (sym (map_twice (kept_shown (nodes_in c.recording) (bytes_in c.recording)) (λ (e : Entry). e.kept) (take ids es))) (sym (met_columns_are 0 (column_windows c)))

module _ (o : IpcWriteOptions) (ids : ℕ) (c : Columns) (es : List Entry) where
  abbrev all : List layout.Window
  all = column_windows c

  abbrev base : Walked
  base = batch_walk o ids c

  pub batch_start : (ws : List layout.Window) → ws ≡ all → LeftInBatch o ids c es 0 ws (started es)
  batch_start ws e = record {
    outcome = ap (λ (ws : List layout.Window). outcome base (started es) (met_in_columns 0 ws)) (sym e);
    met = ap (met_in_columns 0) e;
    placed = All-nil (IsPlacedIn c);
    here = sym e;
  }

  module _ (n : ℕ) (ws rest : List layout.Window) (s : State) (left : LeftInBatch o ids c es n ws s) (w : Window) (next : ws ≡ window_in w ∷ rest) (k : Walk) (options : k.options.now ≡ o) (same : k.ids ≡ ids) (number : k.column ≡ n)
      (first : k.first ≡ w.node.index) where
    column : IsColumn c.recording (column_node (nodes_in c.recording) c.first n) (window_in w)
    column = column_at c.recording c.end c.rows c.within n c.first (window_in w) rest (left.here ∙ next)

    pub few : n < 65535
    few = omega (arith, column_few c.recording c.end c.rows c.within n c.first (window_in w) rest (left.here ∙ next), c.within, c.recording.opened.0)

    -- the walk over the column is the batch's
    abbrev its : Walked
    its = record { options = o; nodes = nodes_in c.recording; bytes = bytes_in c.recording; ids = ids; column = n; first = w.node.index; above = None }

    is_its : walk_of k w None ≡ its
    is_its i = record { options = options i; nodes = column.nodes i; bytes = column.bytes i; ids = same i; column = number i; first = first i; above = None }

    here : met_in_window k.column k.first (window_in w) ≡ met_in_window n w.node.index (window_in w)
    here = ap₂ (λ (c f : ℕ). met_in_window c f (window_in w)) number first

    met_next : met_in_columns n ws ≡ met_in_window n w.node.index (window_in w) ++ met_in_columns (n + 1) rest
    met_next = ap (met_in_columns n) next

    place : (m : MetDictionary) → IsPlaced its m → IsPlacedIn c m
    place m p = record {
      node = p.node ∙ ap (λ (i : ℕ). i + m.node + 1) (column.node ∙ ap (column_node (nodes_in c.recording) c.first) (sym p.column));
      stands = p.stands;
      rows = p.rows;
    }

    step : (t : State) → Steps its (met_in_window n w.node.index (window_in w)) s t → LeftInBatch o ids c es (n + 1) rest t
    step t h =
        let later = met_in_columns (n + 1) rest in
        let before = map (met_as c) s.listed in
        record {
          outcome = left.outcome ∙ ap (outcome base s) met_next ∙ h.outcome later;
          met =
              ap (λ (ms : List MetDictionary). map (met_as c) ms ++ later) h.listed
              ∙ ap (λ (xs : List Met). xs ++ later) (map-append (met_as c) s.listed h.more ∙ ap (λ (xs : List Met). before ++ xs) h.met)
              ∙ append_assoc before (met_in_window n w.node.index (window_in w)) later
              ∙ ap (λ (xs : List Met). before ++ xs) (sym met_next)
              ∙ left.met;
          placed = subst (All (IsPlacedIn c)) (sym h.listed) (All-append (IsPlacedIn c) s.listed h.more left.placed (λ k d l. place _ (h.placed k d l)));
          here = sym (drop-drop 1 n all) ∙ ap (drop 1) (left.here ∙ next);
        }

    pub batch_step : (t : State) → Steps (walk_of k w None) (met_in_window k.column k.first (window_in w)) s t → LeftInBatch o ids c es (n + 1) rest t
    batch_step t h = step t (subst (λ (ds : List Met). Steps its ds s t) here (subst (λ (x : Walked). Steps x (met_in_window k.column k.first (window_in w)) s t) is_its h))

    refused : (f : Fault) → Refuses its (met_in_window n w.node.index (window_in w)) s f → outcome base (started es) (met_in_columns 0 all) ≡ Err f
    refused f h = left.outcome ∙ ap (outcome base s) met_next ∙ h (met_in_columns (n + 1) rest)

    pub batch_refused : (f : Fault) → Refuses (walk_of k w None) (met_in_window k.column k.first (window_in w)) s f → updates_of_batch o (kept_of_entries ids es) c ≡ Err f
    batch_refused f h =
        sym (whole o ids c es) ∙ refused f (subst (λ (ds : List Met). Refuses its ds s f) here (subst (λ (x : Walked). Refuses x (met_in_window k.column k.first (window_in w)) s f) is_its h))

  pub batch_end : (n : ℕ) (s : State) → LeftInBatch o ids c es n [] s → AreMet o (kept_of_entries ids es) c s.listed
  batch_end n s left = record {
    updates = sym (whole o ids c es) ∙ left.outcome ∙ ap (λ (us : List DictionaryUpdate). Ok us) (append-nil (updates_in s.listed));
    met = sym (append-nil (map (met_as c) s.listed)) ∙ left.met ∙ sym (met_columns_are 0 all);
    placed = left.placed;
  }
