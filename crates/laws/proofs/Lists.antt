-- Rows, parts and running sums.
use Rattle.std.proofs.Common.{◌≡◌, ℕ, zero, suc, ◌+◌, ◌-◌, ◌*◌, ◌<◌, ◌≤◌, List, [], ◌∷◌, ◌++◌, map, length, get_or, take, drop, sym, refl, ap, ◌∙◌, ap₂, le_of_suc-le-suc, not-suc-le-zero, suc-mul, zero-mul, arith, drop-drop, take-add}
use native.Mathlib.Nat.{sub_self}
use lib.Seq.{take-append_seam, drop-append-add}
use Rattle.layout.specs.Lists.{rows, cut, join_all, total}
use Rattle.layout.proofs.Lists.{rows_same}
use Rattle.laws.proofs.Good.{Each}

pub rows_get_or : {X : Type 0} (xs : List X) (d : X) → rows (length xs) (λ r. get_or xs r d) ≡ xs
rows_get_or [] d = refl
rows_get_or {X} (x ∷ xs) d = ap {B = List X} (λ r. x ∷ r) (rows_get_or xs d)

pub map-append : {X Y : Type 0} (f : X → Y) (xs ys : List X) → map f (xs ++ ys) ≡ map f xs ++ map f ys
map-append f [] ys = refl
map-append {Y = Y} f (x ∷ xs) ys = ap {B = List Y} (λ zs. f x ∷ zs) (map-append f xs ys)

pub map_rows : {X Y : Type 0} (g : X → Y) (n : ℕ) (f : ℕ → X) → map g (rows n f) ≡ rows n (λ i. g (f i))
map_rows g zero f = refl
map_rows {Y = Y} g (suc n) f = ap {B = List Y} (λ ys. g (f 0) ∷ ys) (map_rows g n (λ i. f (suc i)))

pub take-rows : {X : Type 0} (n m : ℕ) (f : ℕ → X) → n ≤ m → take n (rows m f) ≡ rows n f
take-rows zero m f h = refl
take-rows (suc n) zero f h = absurd (not-suc-le-zero h)
take-rows {X} (suc n) (suc m) f h = ap {B = List X} (λ xs. f 0 ∷ xs) (take-rows n m (λ i. f (suc i)) (le_of_suc-le-suc h))

pub cut-rows : {X : Type 0} (k n m : ℕ) (f : ℕ → X) → k + n ≤ m → cut k n (rows m f) ≡ rows n (λ i. f (k + i))
cut-rows zero n m f h = take-rows n m f (omega arith) ∙ rows_same n f (λ i. f (0 + i)) (λ i l. ap f (omega arith))
cut-rows (suc k) n zero f h = absurd (omega arith)
cut-rows (suc k) n (suc m) f h =
    cut-rows k n m (λ i. f (suc i)) (omega arith) ∙ rows_same n (λ i. f (suc (k + i))) (λ i. f (suc k + i)) (λ i l. ap f (omega arith))

-- rows, then more rows
pub rows_add : {X : Type 0} (k n : ℕ) (f : ℕ → X) → rows k f ++ rows n (λ i. f (k + i)) ≡ rows (k + n) f
rows_add {X} zero n f =
    ap (λ (g : ℕ → X). rows n g) (λ i x. f (zero_plus x i)) ∙ ap (λ (m : ℕ). rows m f) (omega arith)
  where
    zero_plus : (x : ℕ) → 0 + x ≡ x
    zero_plus x = omega arith
rows_add {X} (suc k) n f =
    let e : suc k + n ≡ suc (k + n) = omega arith in
    ap {B = List X} (λ xs. f 0 ∷ (rows k (λ i. f (suc i)) ++ xs)) (rows_same n (λ i. f (suc k + i)) (λ i. f (suc (k + i))) (λ i l. ap f (omega arith)))
    ∙ ap {B = List X} (λ xs. f 0 ∷ xs) (rows_add k n (λ i. f (suc i)))
    ∙ ap (λ (m : ℕ). rows m f) (sym e)

pub get_or_front : {X : Type 0} (xs ys : List X) (r : ℕ) (d : X) → r < length xs → get_or (xs ++ ys) r d ≡ get_or xs r d
get_or_front [] ys r d h = absurd (not-suc-le-zero h)
get_or_front (x ∷ xs) ys zero d h = refl
get_or_front (x ∷ xs) ys (suc r) d h = get_or_front xs ys r d (le_of_suc-le-suc h)

-- ---- items one after another

pub join_at : {X : Type 0} (vs : List (List X)) (r : ℕ) → r < length vs
    → cut (total (take r (map length vs))) (length (get_or vs r [])) (join_all vs) ≡ get_or vs r []
join_at [] r h = absurd (not-suc-le-zero h)
join_at (v ∷ vs) zero h = take-append_seam v (join_all vs)
join_at (v ∷ vs) (suc r) h = rw (drop-append-add v (join_all vs) (total (take r (map length vs)))) (join_at vs r (le_of_suc-le-suc h))

each_total : (w : ℕ) (vs : List (List ℕ)) (r : ℕ) → Each w vs → r < length vs → (total (take r (map length vs)) ≡ r * w) × (length (get_or vs r []) ≡ w)
each_total w [] r g h = absurd (not-suc-le-zero h)
each_total w (v ∷ vs) zero g h = (sym (zero-mul w), g.0)
each_total w (v ∷ vs) (suc r) g h =
    let p : (total (take r (map length vs)) ≡ r * w) × (length (get_or vs r []) ≡ w) = each_total w vs r g.1 (le_of_suc-le-suc h) in
    (omega (arith, suc-mul r w, g.0), p.1)

-- items of one length
pub cut_fixed : (w : ℕ) (vs : List (List ℕ)) (r : ℕ) → Each w vs → r < length vs → cut (r * w) w (join_all vs) ≡ get_or vs r []
cut_fixed w vs r g h =
    let p : (total (take r (map length vs)) ≡ r * w) × (length (get_or vs r []) ≡ w) = each_total w vs r g h in
    ap₂ (λ (a c : ℕ). cut a c (join_all vs)) (sym p.0) (sym p.1) ∙ join_at vs r h

pub each_rows : (w c : ℕ) (f : ℕ → List ℕ) → ((r : ℕ) → r < c → length (f r) ≡ w) → Each w (rows c f)
each_rows w zero f h = tt
each_rows w (suc c) f h = (h 0 (omega arith), each_rows w c (λ i. f (suc i)) (λ r l. h (suc r) (omega arith)))

-- ---- running sums

pub total-take : (cs : List ℕ) (r : ℕ) → total (take r cs) ≤ total cs
total-take [] zero = omega arith
total-take [] (suc r) = omega arith
total-take (c ∷ cs) zero = omega arith
total-take (c ∷ cs) (suc r) = omega (arith, total-take cs r)

pub total_next : (cs : List ℕ) (r : ℕ) → r < length cs → total (take (suc r) cs) ≡ total (take r cs) + get_or cs r 0
total_next [] r h = absurd (not-suc-le-zero h)
total_next (c ∷ cs) zero h = omega arith
total_next (c ∷ cs) (suc r) h = omega (arith, total_next cs r (le_of_suc-le-suc h))

-- steps of a rising function
pub steps : (c r : ℕ) (s : ℕ → ℕ) → ((i : ℕ) → i < c → s i ≤ s (suc i)) → r ≤ c → s 0 + total (take r (rows c (λ i. s (suc i) - s i))) ≡ s r
steps c zero s h l = omega arith
steps zero (suc r) s h l = absurd (not-suc-le-zero l)
steps (suc c) (suc r) s h l =
    let p : s 1 + total (take r (rows c (λ i. s (suc (suc i)) - s (suc i)))) ≡ s (suc r) = steps c r (λ i. s (suc i)) (λ i m. h (suc i) (omega arith)) (le_of_suc-le-suc l) in
    let q : s 0 ≤ s 1 = h 0 (omega arith) in
    omega arith

pub rise : (c r : ℕ) (s : ℕ → ℕ) → ((i : ℕ) → i < c → s i ≤ s (suc i)) → r ≤ c → s r ≤ s c
rise zero zero s h l = omega arith
rise zero (suc r) s h l = absurd (not-suc-le-zero l)
rise (suc c) zero s h l =
    let q : s 0 ≤ s 1 = h 0 (omega arith) in
    let p : s 1 ≤ s (suc c) = rise c 0 (λ i. s (suc i)) (λ i m. h (suc i) (omega arith)) (omega arith) in
    omega arith
rise (suc c) (suc r) s h l = rise c r (λ i. s (suc i)) (λ i m. h (suc i) (omega arith)) (le_of_suc-le-suc l)

-- parts that follow one another, joined, are one part
pub cut-cut : {X : Type 0} (a b c : ℕ) (xs : List X) → a ≤ b → b ≤ c → cut a (b - a) xs ++ cut b (c - b) xs ≡ cut a (c - a) xs
cut-cut {X} a b c xs h k =
    let e : (b - a) + (c - b) ≡ c - a = omega arith in
    let d : a + (b - a) ≡ b = omega arith in
    sym (ap (λ (n : ℕ). cut a n xs) (sym e)
    ∙ take-add (b - a) (c - b) (drop a xs)
    ∙ ap (λ (l : List X). cut a (b - a) xs ++ take (c - b) l) (drop-drop (b - a) a xs ∙ ap (λ (n : ℕ). drop n xs) d))

pub join_cuts : {X : Type 0} (c : ℕ) (s : ℕ → ℕ) (xs : List X) → ((i : ℕ) → i < c → s i ≤ s (suc i))
    → join_all (rows c (λ i. cut (s i) (s (suc i) - s i) xs)) ≡ cut (s 0) (s c - s 0) xs
join_cuts zero s xs h = rw (sub_self (s 0))
join_cuts {X} (suc c) s xs h =
    ap (λ (l : List X). cut (s 0) (s 1 - s 0) xs ++ l) (join_cuts c (λ i. s (suc i)) xs (λ i l. h (suc i) (omega arith)))
    ∙ cut-cut (s 0) (s 1) (s (suc c)) xs (h 0 (omega arith)) (rise (suc c) 1 s h (omega arith))
