-- What is kept after a batch.
use Rattle.std.proofs.Common.{◌≡◌, ℕ, zero, suc, ◌+◌, ◌<◌, ◌≤◌, List, [], ◌∷◌, map, length, get_or, take, set, Some, Option, sym, refl, ap, ap₂, ◌∙◌, arith}
use Rattle.std.proofs.Math.Seq.{take-set-lt}
use Rattle.std.proofs.lemmas.List.{map-set, length-map, length-take-le}
use Rattle.dictionaries.specs.declared.update.DictionaryUpdate.{DictionaryUpdate}
use Rattle.dictionaries.specs.declared.update.DictionaryUpdate.TheVariants as update
use Rattle.dictionaries.specs.declared.update.DictionaryValues.{DictionaryValues}
use Rattle.dictionaries.specs.declared.update.MetDictionary.{MetDictionary}
use Rattle.dictionaries.specs.declared.written.Entry.{Entry}
use Rattle.dictionaries.specs.Batches.{kept_by, kept_after}
use Rattle.dictionaries.specs.Tracking.{entry_of, kept_of_entries}

pub kept_nothing : (ks : List (Option DictionaryValues)) → kept_after ks [] ≡ ks
kept_nothing [] = refl
kept_nothing (k ∷ ks) = refl

-- an update keeps the new values, unless it is None
kept_new : (k : Option DictionaryValues) (v : DictionaryValues) (u : DictionaryUpdate) → (u ≡ update.None → ⊥) → kept_by k v u ≡ Some v
kept_new k v update.None ne = absurd (ne refl)
kept_new k v update.New ne = refl
kept_new k v update.Replaced ne = refl
kept_new k v (update.Delta n) ne = refl

-- ---- one dictionary more

pub kept_set : (ks : List (Option DictionaryValues)) (ms : List MetDictionary) (i : ℕ) (d : MetDictionary) → i < length ks → i < length ms → ((get_or ms i d).update ≡ update.None → ⊥)
    → kept_after ks (take (suc i) ms) ≡ set (kept_after ks (take i ms)) i (Some (get_or ms i d).values)
kept_set [] ms i d l m ne = absurd (omega arith)
kept_set (k ∷ ks) [] i d l m ne = absurd (omega arith)
kept_set (k ∷ ks) (x ∷ ms) zero d l m ne = ap₂ {C = List (Option DictionaryValues)} (λ y ys. y ∷ ys) (kept_new k x.values x.update ne) (kept_nothing ks)
kept_set (k ∷ ks) (x ∷ ms) (suc i) d l m ne = ap (λ (ys : List (Option DictionaryValues)). kept_by k x.values x.update ∷ ys) (kept_set ks ms i d (omega arith) (omega arith) ne)

pub kept_none : (ks : List (Option DictionaryValues)) (ms : List MetDictionary) (i : ℕ) (d : MetDictionary) → i < length ms → (get_or ms i d).update ≡ update.None → kept_after ks (take (suc i) ms) ≡ kept_after ks (take i ms)
kept_none [] ms i d m e = refl
kept_none (k ∷ ks) [] i d m e = absurd (omega arith)
kept_none (k ∷ ks) (x ∷ ms) zero d m e = ap₂ {C = List (Option DictionaryValues)} (λ y ys. y ∷ ys) (ap (kept_by k x.values) e) (kept_nothing ks)
kept_none (k ∷ ks) (x ∷ ms) (suc i) d m e = ap (λ (ys : List (Option DictionaryValues)). kept_by k x.values x.update ∷ ys) (kept_none ks ms i d (omega arith) e)

-- past the ids
pub kept_past : (ks : List (Option DictionaryValues)) (ms : List MetDictionary) (i : ℕ) → length ks ≤ i → kept_after ks (take (suc i) ms) ≡ kept_after ks (take i ms)
kept_past [] ms i l = refl
kept_past (k ∷ ks) ms zero l = absurd (omega arith)
kept_past (k ∷ ks) [] (suc i) l = refl
kept_past (k ∷ ks) (x ∷ ms) (suc i) l = ap (λ (ys : List (Option DictionaryValues)). kept_by k x.values x.update ∷ ys) (kept_past ks ms i (omega arith))

pub kept_entry : (n i : ℕ) (es : List Entry) (e : Entry) → i < n → kept_of_entries n (set es i e) ≡ set (kept_of_entries n es) i e.kept
kept_entry n i es e l = ap (map (λ (e : Entry). e.kept)) (take-set-lt n es i e l) ∙ map-set (λ (e : Entry). e.kept) (take n es) i e

pub length_kept : (n : ℕ) (es : List Entry) → n ≤ length es → length (kept_of_entries n es) ≡ n
length_kept n es l = simp length-map (length-take-le n es l)

-- ---- a step over the dictionaries met: ks is what was kept, es what stands in the table

module _ (n : ℕ) (es : List Entry) (ks : List (Option DictionaryValues)) (long : length ks ≡ n) (ms : List MetDictionary) (i : ℕ) (l : i < length ms) (so : kept_of_entries n es ≡ kept_after ks (take i ms)) where
  next : take (i + 1) ms ≡ take (suc i) ms
  next =
      let e : i + 1 ≡ suc i = omega arith in
      ap (λ (k : ℕ). take k ms) e

  pub step_set : (d : MetDictionary) (fs : List Entry) → i < n → ((get_or ms i d).update ≡ update.None → ⊥) → fs ≡ set es i (entry_of (get_or ms i d).values) → kept_of_entries n fs ≡ kept_after ks (take (i + 1) ms)
  step_set d fs below ne e =
      ap (kept_of_entries n) e
      ∙ kept_entry n i es (entry_of (get_or ms i d).values) below
      ∙ ap (λ (xs : List (Option DictionaryValues)). set xs i (Some (get_or ms i d).values)) so
      ∙ sym (kept_set ks ms i d (omega arith) l ne)
      ∙ sym (ap (kept_after ks) next)

  pub step_none : (d : MetDictionary) → (get_or ms i d).update ≡ update.None → kept_of_entries n es ≡ kept_after ks (take (i + 1) ms)
  step_none d e = so ∙ sym (kept_none ks ms i d l e) ∙ sym (ap (kept_after ks) next)

  pub step_past : n ≤ i → kept_of_entries n es ≡ kept_after ks (take (i + 1) ms)
  step_past past = so ∙ sym (kept_past ks ms i (omega arith)) ∙ sym (ap (kept_after ks) next)
