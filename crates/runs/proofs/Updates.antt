-- What the updates of a batch say of the dictionaries that it meets.
use Rattle.std.proofs.Common.{◌≡◌, ◌<◌, Bool, true, false, cond, List, [], ◌∷◌, take, Ok, Err, Result, refl, subst}
use Rattle.layout.specs.declared.fault.Fault.{Fault}
use Rattle.layout.specs.declared.fault.Refusal.{Refusal}
use Rattle.layout.specs.declared.fault.Refusal.TheVariants.{DictionaryAboveDictionary, NoId}
use Rattle.layout.specs.Shown.{Shown, count, values, met, Front}
use Rattle.recording.specs.declared.options.DictionaryHandling.{DictionaryHandling}
use Rattle.recording.specs.declared.options.DictionaryHandling.TheVariants as handling
use Rattle.recording.specs.declared.options.IpcWriteOptions.{IpcWriteOptions}
use Rattle.dictionaries.specs.declared.comparison.DictionaryComparison.TheVariants as compared
use Rattle.dictionaries.specs.declared.update.DictionaryUpdate.{DictionaryUpdate}
use Rattle.dictionaries.specs.declared.update.DictionaryUpdate.TheVariants as update
use Rattle.dictionaries.specs.Collecting.{Met, Kept, absent, lacking, shows, update_by, allowed, update_of, refused, updated, alone, collected}
use Rattle.dictionaries.specs.Comparing.{same, front}
use Rattle.dictionaries.proofs.Tests.{tested}

-- ---- one update

-- what an update says of what is kept and of what a new window shows
abbrev pub Means : Kept → Shown → DictionaryUpdate → Type 0
Means absent s update.None = ⊥
Means lacking s update.None = ⊥
Means (shows k) s update.None = values k ≡ values s
Means k s update.New = Unit {0}
Means k s update.Replaced = Unit {0}
Means absent s (update.Delta n) = ⊥
Means lacking s (update.Delta n) = ⊥
Means (shows k) s (update.Delta n) = (n < count s) × (values k ≡ take n (values s))

one_of : (u v : DictionaryUpdate) → ◌≡◌ {A = Result DictionaryUpdate Refusal} (Ok u) (Ok v) → u ≡ v
one_of u v h = cc

module _ (k s : Shown) (u : DictionaryUpdate) where
  replaced : (b : Bool) → allowed b update.Replaced ≡ Ok u → Means (shows k) s u
  replaced true q = cc
  replaced false q = subst (λ (x : DictionaryUpdate). Means (shows k) s x) (one_of update.Replaced u q) tt

  by_tests : (h : DictionaryHandling) (r a b : Bool) → same k s ≡ a → front k s ≡ b
      → allowed r (update_by h (count k) (cond a compared.Equal (cond b compared.Delta compared.NotEqual))) ≡ Ok u → Means (shows k) s u
  by_tests h r true b p q e = subst (λ (x : DictionaryUpdate). Means (shows k) s x) (one_of update.None u e) ((tested.same k s).0 p).values
  by_tests handling.Resend r false true p q e = replaced r e
  by_tests handling.Delta r false true p q e =
      let f : Front k s = (tested.front k s).0 q in
      subst (λ (x : DictionaryUpdate). Means (shows k) s x) (one_of (update.Delta (count k)) u e) (f.longer, f.values)
  by_tests h r false false p q e = replaced r e

lacks_says : (s : Shown) (u : DictionaryUpdate) (b : Bool) → allowed b update.Replaced ≡ Ok u → Means lacking s u
lacks_says s u true q = cc
lacks_says s u false q = subst (λ (x : DictionaryUpdate). Means lacking s x) (one_of update.Replaced u q) tt

means : (o : IpcWriteOptions) (k : Kept) (s : Shown) (u : DictionaryUpdate) → update_of o k s ≡ Ok u → Means k s u
means o absent s u q = subst (λ (x : DictionaryUpdate). Means absent s x) (one_of update.New u q) tt
means o lacking s u q = lacks_says s u o.error_on_replacement q
means o (shows k) s u q = by_tests k s u o.dictionary_handling o.error_on_replacement (same k s) (front k s) refl refl q

-- ---- those of a batch

-- no dictionary is met in the first, and the others have the other updates
pub record First (o : IpcWriteOptions) (k : Kept) (ks : List Kept) (d : Met) (ds : List Met) (us : List DictionaryUpdate) : Type 0 where
  pub update : DictionaryUpdate
  pub others : List DictionaryUpdate
  pub is : us ≡ update ∷ others
  pub plain : met d.values ≡ []
  pub means : Means k d.values update
  pub rest : collected o ks ds ≡ Ok others

none_met : (ss : List Shown) → alone ss ≡ true → ss ≡ []
none_met [] h = refl
none_met (s ∷ ss) h = cc

module _ (o : IpcWriteOptions) (d : Met) (ds : List Met) (us : List DictionaryUpdate) where
  pub no_id : collected o [] (d ∷ ds) ≡ Ok us → ⊥
  no_id h = by (alone (met d.values)) h
    where
      by : (b : Bool) → cond b (refused NoId d) (refused DictionaryAboveDictionary d) ≡ Ok us → ⊥
      by true q = cc
      by false q = cc

  pub first_met : (k : Kept) (ks : List Kept) → collected o (k ∷ ks) (d ∷ ds) ≡ Ok us → First o k ks d ds us
  first_met k ks h = by (alone (met d.values)) (update_of o k d.values) (collected o ks ds) refl refl refl h
    where
      by : (b : Bool) (x : Result DictionaryUpdate Refusal) (q : Result (List DictionaryUpdate) Fault) → alone (met d.values) ≡ b → update_of o k d.values ≡ x → collected o ks ds ≡ q
          → cond b (updated d x q) (refused DictionaryAboveDictionary d) ≡ Ok us → First o k ks d ds us
      by false x q a c g h = cc
      by true (Err r) q a c g h = cc
      by true (Ok u) (Err f) a c g h = cc
      by true (Ok u) (Ok vs) a c g h = record { update = u; others = vs; is = cc; plain = none_met (met d.values) a; means = means o k d.values u c; rest = g }
