-- Rows and parts of lists.
use Rattle.std.proofs.Common.{◌≡◌, ℕ, zero, suc, ◌+◌, ◌-◌, ◌<◌, ◌≤◌, List, ◌∷◌, ◌++◌, length, get_or, take, drop, sym, refl, ap, ◌∙◌, ap₂, le_of_suc-le-suc, not-suc-le-zero, arith, length-append, length-drop, length-take-le, take_all, take-take, drop-drop}
use lib.Seq.{take-append-le}
use Rattle.std.proofs.lemmas.List.{drop_at, drop-take, take_at}
use Rattle.std.proofs.lemmas.Slice.{between_is}
use Rattle.layout.specs.Lists.{rows, cut}

pub rows_same : {X : Type 0} (n : ℕ) (f g : ℕ → X) → ((r : ℕ) → r < n → f r ≡ g r) → rows n f ≡ rows n g
rows_same zero f g h = refl
rows_same {X} (suc n) f g h =
    ap₂ {C = List X} (λ x xs. x ∷ xs) (h 0 (omega arith)) (rows_same n (λ i. f (suc i)) (λ i. g (suc i)) (λ r l. h (suc r) (omega arith)))

pub get_or_rows : {X : Type 0} (n : ℕ) (f : ℕ → X) (r : ℕ) (d : X) → r < n → get_or (rows n f) r d ≡ f r
get_or_rows zero f r d h = absurd (not-suc-le-zero h)
get_or_rows (suc n) f zero d h = refl
get_or_rows (suc n) f (suc r) d h = get_or_rows n (λ i. f (suc i)) r d (le_of_suc-le-suc h)

pub length-rows : {X : Type 0} (n : ℕ) (f : ℕ → X) → length (rows n f) ≡ n
length-rows zero f = refl
length-rows (suc n) f = ap suc (length-rows n (λ i. f (suc i)))

pub length_cut : {X : Type 0} (k w : ℕ) (bs : List X) → k + w ≤ length bs → length (cut k w bs) ≡ w
length_cut k w bs h = length-take-le w (drop k bs) (simp length-drop (omega arith))

-- ys stands at place p, and all else is as it was
abbrev pub put : {X : Type 0} → ℕ → List X → List X → List X
put p ys xs = take p xs ++ (ys ++ drop (p + length ys) xs)

-- the part that was put is there
pub cut-put : {X : Type 0} (p w : ℕ) (ys xs : List X) → length ys ≡ w → p ≤ length xs → cut p w (put p ys xs) ≡ ys
cut-put p w ys xs e h =
    rw (drop_at (take p xs) (ys ++ drop (p + length ys) xs) p (length-take-le p xs h), take_at ys (drop (p + length ys) xs) w e)

-- and what stands before it is as it was
pub cut_before : {X : Type 0} (q w p : ℕ) (ys xs : List X) → q + w ≤ p → p ≤ length xs → cut q w (put p ys xs) ≡ cut q w xs
cut_before {X} q w p ys xs h l =
    let n : ℕ = q + w in
    let e : n - q ≡ w = omega arith in
    let a : (zs : List X) → cut q w zs ≡ drop q (take n zs) = λ zs. (ap (λ (m : ℕ). take m (drop q zs)) (sym e) ∙ between_is zs q n) in
    let long : n ≤ length (take p xs) = rw (length-take-le p xs l) h in
    a (put p ys xs) ∙ ap (drop q) (take-append-le n (take p xs) (ys ++ drop (p + length ys) xs) long ∙ take-take n p xs h) ∙ sym (a xs)

pub length-put : {X : Type 0} (p : ℕ) (ys xs : List X) → p + length ys ≤ length xs → length (put p ys xs) ≡ length xs
length-put p ys xs h = simp (length-append, length-drop) (omega (arith, length-take-le p xs (omega arith)))

-- what a slice from a place on holds
pub rest_is : {X : Type 0} (p : ℕ) (xs : List X) → take (length xs - p) (drop p xs) ≡ drop p xs
rest_is p xs = take_all (length xs - p) (drop p xs) (simp length-drop (omega arith))

-- a part of a part
pub cut_cut : {X : Type 0} (p w a m : ℕ) (xs : List X) → p + w ≤ m → cut p w (cut a m xs) ≡ cut (a + p) w xs
cut_cut p w a m xs h =
    let e : m ≡ p + (m - p) = omega arith in
    ap (λ (n : ℕ). cut p w (cut a n xs)) e
    ∙ ap (take w) (drop-take p (m - p) (drop a xs))
    ∙ take-take w (m - p) (drop p (drop a xs)) (omega arith)
    ∙ ap (take w) (drop-drop p a xs)
