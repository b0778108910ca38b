-- Updates that are written one after another.
use Rattle.std.proofs.Common.{◌≡◌, ℕ, zero, suc, ◌+◌, ◌<◌, List, [], ◌∷◌, ◌++◌, length, take, get_or, slice_set, sym, ◌∙◌, ap, refl, arith}
use Rattle.std.proofs.lemmas.List.{length-map, map-append, length-take}
use Rattle.dictionaries.specs.declared.update.DictionaryUpdate.{DictionaryUpdate}
use Rattle.dictionaries.specs.declared.update.DictionaryUpdate.TheVariants as update
use Rattle.dictionaries.specs.declared.update.MetDictionary.{MetDictionary}
use Rattle.dictionaries.specs.Walking.{update_in, updates_in}
use Rattle.columns.specs.Lists.{over}
use Rattle.columns.proofs.Lists.{over-append}

-- what a read past the last would give
abbrev pub blank : MetDictionary
blank = record { column = 0; node = 0; values = record { node = 0; rows = 0 }; update = update.None }

take_next : (i : ℕ) (ms : List MetDictionary) (d : MetDictionary) → i < length ms → take (i + 1) ms ≡ take i ms ++ get_or ms i d ∷ []
take_next i [] d l = absurd (omega arith)
take_next zero (m ∷ ms) d l = refl
take_next (suc i) (m ∷ ms) d l =
    let after : suc i + 1 ≡ suc (i + 1) = omega arith in
    ap (λ (k : ℕ). take k (m ∷ ms)) after ∙ ap (λ (xs : List MetDictionary). m ∷ xs) (take_next i ms d (omega arith))

pub one_more : (i : ℕ) (ms : List MetDictionary) (us : List DictionaryUpdate) → i < length ms
    → slice_set (over us 0 (updates_in (take i ms))) i (get_or ms i blank).update ≡ over us 0 (updates_in (take (i + 1) ms))
one_more i ms us l =
    let long : 0 + length (updates_in (take i ms)) ≡ i = omega (arith, length-map (take i ms) update_in, length-take i ms) in
    sym (ap (λ (xs : List MetDictionary). over us 0 (updates_in xs)) (take_next i ms blank l)
    ∙ ap (over us 0) (map-append update_in (take i ms) (get_or ms i blank ∷ []))
    ∙ over-append (updates_in (take i ms)) ((get_or ms i blank).update ∷ []) us 0
    ∙ ap (λ (k : ℕ). slice_set (over us 0 (updates_in (take i ms))) k (get_or ms i blank).update) long)
