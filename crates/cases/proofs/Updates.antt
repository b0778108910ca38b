-- The worked dictionaries.
use Rattle.std.proofs.Common.{◌≡◌, ℕ, ◌≤◌, Bool, true, false, List, [], ◌∷◌, refl, ap, arith}
use Rattle.layout.specs.Shown.{Shown, count, values, shape, met, Same, Front}
use Rattle.recording.specs.declared.options.DictionaryHandling.{DictionaryHandling}
use Rattle.recording.specs.declared.options.DictionaryHandling.TheVariants.{Resend, Delta}
use Rattle.dictionaries.specs.declared.comparison.DictionaryComparison.{DictionaryComparison}
use Rattle.dictionaries.specs.declared.comparison.DictionaryComparison.TheVariants.{Equal, NotEqual}
use Rattle.dictionaries.specs.declared.comparison.DictionaryComparison.TheVariants as compared
use Rattle.dictionaries.specs.declared.update.DictionaryUpdate.TheVariants as update
use Rattle.dictionaries.specs.Collecting.{shows, met_from, update_by, allowed, update_of}
use Rattle.dictionaries.specs.Comparing.{comparison}
use Rattle.dictionaries.proofs.Tests.{answers_equal, answers_delta, answers_not}
use Rattle.cases.specs.DictionaryCases.{options, letters, remarked, DictionaryCases}

-- the update by how the two compare
by : (h : DictionaryHandling) (e : Bool) (s t : Shown) (c : DictionaryComparison) → comparison s t ≡ c → update_of (options h e) (shows s) t ≡ allowed e (update_by h (count s) c)
by h e s t c is = ap (λ (c : DictionaryComparison). allowed e (update_by h (count s) c)) is

abbrev ab : Shown
ab = letters (97 ∷ 98 ∷ [])

-- ---- the same, and longer

equal : Same ab (letters (97 ∷ 98 ∷ []))
unfolding values shape
equal = record { shapes = refl; counts = refl; values = refl }

longer_abc : Front ab (letters (97 ∷ 98 ∷ 99 ∷ []))
unfolding values shape
longer_abc = record { shapes = refl; longer = omega arith; values = refl }

from_nothing : Front (letters []) (letters (97 ∷ 98 ∷ []))
unfolding values shape
from_nothing = record { shapes = refl; longer = omega arith; values = refl }

-- as many rows
counted : (s t : Shown) → (count s ≡ count t → ⊥) → Same s t → ⊥
counted s t ne h = ne h.counts

-- not more rows
not_longer : (s t : Shown) → count t ≤ count s → Front s t → ⊥
not_longer s t l h = omega (arith, h.longer)

-- ---- other values

unlike_ac : Same ab (letters (97 ∷ 99 ∷ [])) → ⊥
unfolding values
unlike_ac h =
    let e = h.values in
    let two : ◌≡◌ {A = ℕ} 98 99 = cc in
    omega arith

unlike_acb : Front ab (letters (97 ∷ 99 ∷ 98 ∷ [])) → ⊥
unfolding values
unlike_acb h =
    let e = h.values in
    let two : ◌≡◌ {A = ℕ} 98 99 = cc in
    omega arith

unlike_marks : Same (remarked []) (letters []) → ⊥
unfolding shape
unlike_marks h =
    let e = h.shapes in
    let marks : ◌≡◌ {A = ℕ} 1 0 = cc in
    omega arith

replaced : (h : DictionaryHandling) (e : Bool) (s t : Shown) → (Same s t → ⊥) → (Front s t → ⊥) → update_of (options h e) (shows s) t ≡ allowed e update.Replaced
replaced Resend e s t n m = by Resend e s t NotEqual (answers_not s t n m)
replaced Delta e s t n m = by Delta e s t NotEqual (answers_not s t n m)

grown : (h : DictionaryHandling) (e : Bool) (bs : List ℕ) → Front ab (letters bs) → (2 ≡ count (letters bs) → ⊥) → update_of (options h e) (shows ab) (letters bs) ≡ allowed e (update_by h 2 compared.Delta)
grown h e bs f ne = by h e ab (letters bs) compared.Delta (answers_delta ab (letters bs) (counted ab (letters bs) ne) f)

pub dictionary_cases : DictionaryCases
unfolding met met_from
dictionary_cases = record {
  same = by Delta false ab ab Equal (answers_equal ab ab equal);
  changed = replaced Delta false ab (letters (97 ∷ 99 ∷ [])) unlike_ac (not_longer ab (letters (97 ∷ 99 ∷ [])) (omega arith));
  longer = grown Delta false (97 ∷ 98 ∷ 99 ∷ []) longer_abc (λ e. omega arith);
  resent = grown Resend false (97 ∷ 98 ∷ 99 ∷ []) longer_abc (λ e. omega arith);
  shorter = replaced Delta false ab (letters (97 ∷ [])) (λ h. let e : 2 ≡ 1 = h.counts in omega arith) (not_longer ab (letters (97 ∷ [])) (omega arith));
  other_first = replaced Delta false ab (letters (97 ∷ 99 ∷ 98 ∷ [])) (λ h. let e : 2 ≡ 3 = h.counts in omega arith) unlike_acb;
  nothing_kept = refl;
  lost = refl;
  no_rows = by Delta false (letters []) ab compared.Delta (answers_delta (letters []) ab (λ h. let e : 0 ≡ 2 = h.counts in omega arith) from_nothing);
  other_mark = replaced Delta false (remarked []) (letters []) unlike_marks (not_longer (remarked []) (letters []) (omega arith));
  refused = replaced Delta true ab (letters (97 ∷ [])) (λ h. let e : 2 ≡ 1 = h.counts in omega arith) (not_longer ab (letters (97 ∷ [])) (omega arith));
  refused_resend = grown Resend true (97 ∷ 98 ∷ 99 ∷ []) longer_abc (λ e. omega arith);
  longer_still = grown Delta true (97 ∷ 98 ∷ 99 ∷ []) longer_abc (λ e. omega arith);
  in_order = refl;
  no_id = refl;
  above = refl;
  above_before_id = refl;
}
