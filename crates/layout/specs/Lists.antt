-- Rows, parts of lists, sums, and tests of all that stands below a number or in a list.
use Rattle.std.specs.Prelude.{ℕ, zero, suc, ◌+◌, Bool, true, cond, ◌&&◌, List, [], ◌∷◌, ◌++◌, map, length, take, drop}

-- f 0, f 1, .. f (n - 1)
abbrev pub rows : {X : Type 0} → ℕ → (ℕ → X) → List X
rows zero f = []
rows (suc n) f = f 0 ∷ rows n (λ i. f (suc i))

-- c items from item a on
abbrev pub cut : {X : Type 0} → ℕ → ℕ → List X → List X
cut a c xs = take c (drop a xs)

-- the lists one after another
abbrev pub join_all : {X : Type 0} → List (List X) → List X
join_all [] = []
join_all (x ∷ xs) = x ++ join_all xs

abbrev pub lengths : List (List ℕ) → List ℕ
lengths vs = map length vs

abbrev pub total : List ℕ → ℕ
total [] = 0
total (n ∷ ns) = n + total ns

-- every number below n passes
abbrev pub every : ℕ → (ℕ → Bool) → Bool
every zero p = true
every (suc n) p = p n && every n p

-- how many numbers below n pass
abbrev pub count : ℕ → (ℕ → Bool) → ℕ
count zero p = 0
count (suc n) p = cond (p n) 1 0 + count n p

-- every member passes
abbrev pub all : List ℕ → (ℕ → Bool) → Bool
all [] p = true
all (x ∷ xs) p = p x && all xs p

-- the sum of what the members have
abbrev pub sum_of : List ℕ → (ℕ → ℕ) → ℕ
sum_of [] f = 0
sum_of (x ∷ xs) f = f x + sum_of xs f
