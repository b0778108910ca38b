-- The laws of collecting.
use Rattle.std.proofs.Common.{◌≡◌, ℕ, Bool, true, cond, List, [], ◌∷◌, map, length, Some, Option, Ok, Result, All, sym, refl, ap, ap₂, ◌∙◌, arith}
use Rattle.std.proofs.lemmas.Bool.{lt-ltb, le-leb, and_from}
use Rattle.std.proofs.lemmas.List.Elements.{All-head, All-rest}
use Rattle.layout.specs.declared.fault.Fault.{Fault}
use Rattle.layout.specs.declared.node.Node.{Node}
use Rattle.layout.specs.Nodes.{node_at}
use Rattle.layout.specs.Shown.{count}
use Rattle.layout.specs.Windows.{tree_in}
use Rattle.laws.proofs.Says.{counts}
use Rattle.recording.specs.declared.columns.Columns.{Columns}
use Rattle.recording.specs.declared.options.IpcWriteOptions.{IpcWriteOptions}
use Rattle.recording.specs.View.{nodes_in, bytes_in}
use Rattle.dictionaries.specs.declared.update.DictionaryUpdate.{DictionaryUpdate}
use Rattle.dictionaries.specs.declared.update.DictionaryUpdate.TheVariants as update
use Rattle.dictionaries.specs.declared.update.DictionaryValues.{DictionaryValues}
use Rattle.dictionaries.specs.declared.update.MetDictionary.{MetDictionary}
use Rattle.dictionaries.specs.Batches.{kept_in_batch, updates_of_batch, met_as, IsPlacedIn, kept_by, kept_after}
use Rattle.dictionaries.specs.Collecting.{Met, Kept, lacking, shows, collected, met_columns}
use Rattle.dictionaries.specs.Laws.{Apart, apart, ShowSame, NothingElseCounts, shown_by, shown_after, KeepsShown}
use Rattle.dictionaries.specs.Tracking.{values_at, has_values, kept_shown}
use Rattle.dictionaries.specs.Walking.{updates_in}

-- ---- nothing else counts

updates_same : (o : IpcWriteOptions) (c d : Columns) (ks ls : List (Option DictionaryValues)) → ShowSame c d ks ls → updates_of_batch o ks c ≡ updates_of_batch o ls d
updates_same o c d ks ls h = ap₂ (collected o) h.kept (ap (met_columns 0) h.columns)

-- by what is shown of them and their updates
aparts : List Met → List DictionaryUpdate → List Apart
aparts [] us = []
aparts (d ∷ ds) [] = []
aparts (d ∷ ds) (u ∷ us) = record { column = d.column; node = d.node; rows = count d.values; update = u } ∷ aparts ds us

apart_is : (c : Columns) (ms : List MetDictionary) → map apart ms ≡ aparts (map (met_as c) ms) (updates_in ms)
unfolding aparts
apart_is c [] = refl
apart_is c (m ∷ ms) =
    let rows = counts (bytes_in c.recording) (tree_in (values_at (nodes_in c.recording) (bytes_in c.recording) m.values)) 0 m.values.rows in
    ap₂ (λ (n : ℕ) (xs : List Apart). record { column = m.column; node = m.node; rows = n; update = m.update } ∷ xs) (sym rows) (apart_is c ms)

ok_same : (us vs : List DictionaryUpdate) → ◌≡◌ {A = Result (List DictionaryUpdate) Fault} (Ok us) (Ok vs) → us ≡ vs
ok_same us vs e = cc

pub nothing_else_counts : NothingElseCounts
nothing_else_counts = record {
  updates = updates_same;
  met = λ o c d ks ls ms ns h a b.
      let us : updates_in ms ≡ updates_in ns = ok_same (updates_in ms) (updates_in ns) (sym a.updates ∙ updates_same o c d ks ls h ∙ b.updates) in
      let ds : map (met_as c) ms ≡ map (met_as d) ns = a.met ∙ ap (met_columns 0) h.columns ∙ sym b.met in
      apart_is c ms ∙ ap₂ aparts ds us ∙ sym (apart_is d ns);
}

-- ---- what is kept

module _ (c : Columns) where
  abbrev ns : List Node
  ns = nodes_in c.recording

  placed_shows : (m : MetDictionary) → IsPlacedIn c m → kept_shown ns (bytes_in c.recording) (Some m.values) ≡ shows (met_as c m).values
  placed_shows m p =
      let there : has_values ns m.values ≡ true = and_from _ _ (lt-ltb m.values.node (length ns) p.stands) (le-leb m.values.rows (node_at ns m.values.node).rows (omega (arith, p.rows))) in
      ap (λ (b : Bool). cond b (shows (met_as c m).values) lacking) there

  kept_shows : (k : Option DictionaryValues) (m : MetDictionary) → IsPlacedIn c m → kept_shown ns (bytes_in c.recording) (kept_by k m.values m.update) ≡ shown_by (kept_shown ns (bytes_in c.recording) k) (met_as c m).values m.update
  kept_shows k m p = by m.update
    where
      by : (u : DictionaryUpdate) → kept_shown ns (bytes_in c.recording) (kept_by k m.values u) ≡ shown_by (kept_shown ns (bytes_in c.recording) k) (met_as c m).values u
      by update.None = refl
      by update.New = placed_shows m p
      by update.Replaced = placed_shows m p
      by (update.Delta n) = placed_shows m p

  after_shows : (ks : List (Option DictionaryValues)) (ms : List MetDictionary) → All (IsPlacedIn c) ms → kept_in_batch c (kept_after ks ms) ≡ shown_after (kept_in_batch c ks) (updates_in ms) (map (met_as c) ms)
  after_shows [] ms h = refl
  after_shows (k ∷ ks) [] h = refl
  after_shows (k ∷ ks) (m ∷ ms) h =
      ap₂ {C = List Kept} (λ x xs. x ∷ xs) (kept_shows k m (All-head (IsPlacedIn c) m ms h)) (after_shows ks ms (All-rest (IsPlacedIn c) m ms (m ∷ ms) refl h))

pub keeps_shown : KeepsShown
keeps_shown o c ks ms a = after_shows c ks ms a.placed ∙ ap (shown_after (kept_in_batch c ks) (updates_in ms)) a.met
