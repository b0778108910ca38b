-- What comparing a new dictionary with the kept one tells, from what the two windows show.
use Rattle.std.specs.Prelude.{◌≡◌, Bool, true, false, cond, ◌&&◌, ◌↔◌, List, take, ◌==◌, nat_lt}
use mathlib.Core.Bool.{Bool-discrete}
use mathlib.Core.List.{List-discrete}
use native.Mathlib.Decide.{ℕ_discrete}
use Rattle.layout.specs.Shown.{Shown, Value, held, count, values, shape, Same, Front, Shape-discrete, Values-discrete}
use Rattle.dictionaries.specs.declared.comparison.DictionaryComparison.{DictionaryComparison}
use Rattle.dictionaries.specs.declared.comparison.DictionaryComparison.TheVariants.{NotEqual, Equal, Delta}

abbrev pub decided : {X : Type 0} → Dec X → Bool
decided (yes p) = true
decided (no q) = false

-- kinds, marks, used sizes and nesting agree
abbrev pub same_shape : Shown → Shown → Bool
same_shape s t = decided (Shape-discrete ℕ_discrete (shape s) (shape t))

abbrev pub same_values : List Value → List Value → Bool
same_values vs ws = decided (Values-discrete Bool-discrete (List-discrete ℕ_discrete) (held vs) (held ws))

-- they agree, and so do the rows
abbrev pub same : Shown → Shown → Bool
same s t = same_shape s t && (count s == count t && same_values (values s) (values t))

-- t is longer, and its first rows are those of s
abbrev pub front : Shown → Shown → Bool
front s t = same_shape s t && (nat_lt (count s) (count t) && same_values (values s) (take (count s) (values t)))

-- of a kept window and a new one
abbrev pub comparison : Shown → Shown → DictionaryComparison
comparison s t = cond (same s t) Equal (cond (front s t) Delta NotEqual)

-- the tests are true exactly if the windows are so
pub record Tested : Type 0 where
  pub same : (s t : Shown) → (same s t ≡ true) ↔ Same s t
  pub front : (s t : Shown) → (front s t ≡ true) ↔ Front s t
