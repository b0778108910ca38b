-- The tests of two windows, and what comparing them tells.
use Rattle.std.proofs.Common.{◌≡◌, ◌<◌, ◌≤◌, Bool, true, cond, ◌&&◌, ◌↔◌, eqb, ltb, List, [], ◌∷◌, take, sym, refl, ap, ◌∙◌, ap₂, arith}
use Rattle.std.proofs.lemmas.Bool.{false≢true, and_parts, and_from, eqb-true, eq-eqb, ltb-true, lt-ltb, false_from_ne_true}
use mathlib.Core.Bool.{Bool-discrete}
use mathlib.Core.List.{List-discrete}
use native.Mathlib.Decide.{ℕ_discrete}
use Rattle.layout.specs.Shown.{Shown, Value, Values, none, more, held, count, values, shape, Same, Front, Shape-discrete, Values-discrete}
use Rattle.layout.specs.Windows.{Window, Inside, shape_in, shown_in, first_rows, Equal}
use Rattle.laws.proofs.Windows.{told}
use Rattle.dictionaries.specs.declared.comparison.DictionaryComparison.TheVariants as compared
use Rattle.dictionaries.specs.Rows.{SameRows}
use Rattle.dictionaries.specs.Comparing.{decided, same_shape, same_values, same, front, comparison, Tested}

-- ---- what is decided

pub decided_true : {X : Type 0} (d : Dec X) → (decided d ≡ true) ↔ X
decided_true d = (tells d, from d)
  where
    tells : {X : Type 0} (d : Dec X) → decided d ≡ true → X
    tells (yes p) h = p
    tells (no q) h = absurd (false≢true h)

    from : {X : Type 0} (d : Dec X) → X → decided d ≡ true
    from (yes p) x = refl
    from (no q) x = absurd (q x)

-- ---- values are held in one way

listed : Values → List Value
listed none = []
listed (more v vs) = v ∷ listed vs

listed_held : (vs : List Value) → listed (held vs) ≡ vs
unfolding listed
listed_held [] = refl
listed_held (v ∷ vs) = ap {B = List Value} (λ ws. v ∷ ws) (listed_held vs)

pub held_once : (vs ws : List Value) → held vs ≡ held ws → vs ≡ ws
held_once vs ws h = sym (listed_held vs) ∙ ap listed h ∙ listed_held ws

-- ---- the tests

pub same_shape_true : (s t : Shown) → (same_shape s t ≡ true) ↔ (shape s ≡ shape t)
same_shape_true s t = decided_true (Shape-discrete ℕ_discrete (shape s) (shape t))

pub same_values_true : (vs ws : List Value) → (same_values vs ws ≡ true) ↔ (vs ≡ ws)
same_values_true vs ws =
    let d = decided_true (Values-discrete Bool-discrete (List-discrete ℕ_discrete) (held vs) (held ws)) in
    (λ h. held_once vs ws (d.0 h), λ e. d.1 (ap held e))

module _ (s t : Shown) where
  same_tells : same s t ≡ true → Same s t
  same_tells h =
      let p = and_parts (same_shape s t) (eqb (count s) (count t) && same_values (values s) (values t)) h in
      let q = and_parts (eqb (count s) (count t)) (same_values (values s) (values t)) p.1 in
      record { shapes = (same_shape_true s t).0 p.0; counts = eqb-true _ _ q.0; values = (same_values_true (values s) (values t)).0 q.1 }

  same_from : Same s t → same s t ≡ true
  same_from e =
      and_from _ _ ((same_shape_true s t).1 e.shapes) (and_from _ _ (eq-eqb _ _ e.counts) ((same_values_true (values s) (values t)).1 e.values))

  front_tells : front s t ≡ true → Front s t
  front_tells h =
      let p = and_parts (same_shape s t) (ltb (count s) (count t) && same_values (values s) (take (count s) (values t))) h in
      let q = and_parts (ltb (count s) (count t)) (same_values (values s) (take (count s) (values t))) p.1 in
      record { shapes = (same_shape_true s t).0 p.0; longer = ltb-true _ _ q.0; values = (same_values_true (values s) (take (count s) (values t))).0 q.1 }

  front_from : Front s t → front s t ≡ true
  front_from e =
      and_from _ _ ((same_shape_true s t).1 e.shapes) (and_from _ _ (lt-ltb _ _ e.longer) ((same_values_true (values s) (take (count s) (values t))).1 e.values))

pub tested : Tested
tested = record { same = λ s t. (same_tells s t, same_from s t); front = λ s t. (front_tells s t, front_from s t) }

-- ---- the answers

module _ (s t : Shown) where
  pub answers_equal : Same s t → comparison s t ≡ compared.Equal
  answers_equal e = ap (λ (b : Bool). cond b compared.Equal (cond (front s t) compared.Delta compared.NotEqual)) (same_from s t e)

  pub answers_delta : (Same s t → ⊥) → Front s t → comparison s t ≡ compared.Delta
  answers_delta n f =
      ap₂ (λ (b c : Bool). cond b compared.Equal (cond c compared.Delta compared.NotEqual)) (false_from_ne_true (same s t) (λ h. n (same_tells s t h))) (front_from s t f)

  pub answers_not : (Same s t → ⊥) → (Front s t → ⊥) → comparison s t ≡ compared.NotEqual
  answers_not n m =
      ap₂ (λ (b c : Bool). cond b compared.Equal (cond c compared.Delta compared.NotEqual))
      (false_from_ne_true (same s t) (λ h. n (same_tells s t h))) (false_from_ne_true (front s t) (λ h. m (front_tells s t h)))

-- ---- of two windows, by their rows

module _ (v w : Window) (g : Inside v) (h : Inside w) where
  equal_to : Same (shown_in v) (shown_in w) → Equal v w
  equal_to = (told.equal v w g h).1

  longer_to : Front (shown_in v) (shown_in w) → (v.rows < w.rows) × Equal v (first_rows v.rows w)
  longer_to = (told.longer v w g h).1

  pub comparison_equal : shape_in v ≡ shape_in w → v.rows ≡ w.rows → SameRows v w → comparison (shown_in v) (shown_in w) ≡ compared.Equal
  comparison_equal e n r = answers_equal (shown_in v) (shown_in w) ((told.equal v w g h).0 (record { shapes = e; rows = n; values = r }))

  pub comparison_delta : shape_in v ≡ shape_in w → v.rows < w.rows → SameRows v (first_rows v.rows w) → comparison (shown_in v) (shown_in w) ≡ compared.Delta
  comparison_delta e l r =
      answers_delta (shown_in v) (shown_in w) (λ s. let q = (equal_to s).rows in omega arith)
      ((told.longer v w g h).0 (l, record { shapes = e; rows = refl; values = r }))

  pub comparison_shapes : (shape_in v ≡ shape_in w → ⊥) → comparison (shown_in v) (shown_in w) ≡ compared.NotEqual
  comparison_shapes n = answers_not (shown_in v) (shown_in w) (λ s. n (equal_to s).shapes) (λ f. n (longer_to f).1.shapes)

  pub comparison_shorter : w.rows < v.rows → comparison (shown_in v) (shown_in w) ≡ compared.NotEqual
  comparison_shorter l =
      answers_not (shown_in v) (shown_in w) (λ s. let q = (equal_to s).rows in omega arith) (λ f. let q = (longer_to f).0 in omega arith)

  pub comparison_rows : v.rows ≤ w.rows → (SameRows v (first_rows v.rows w) → ⊥) → comparison (shown_in v) (shown_in w) ≡ compared.NotEqual
  comparison_rows l n = answers_not (shown_in v) (shown_in w) (λ s. n (equal_to s).values) (λ f. n (longer_to f).1.values)
