-- Lists in lent memory.
use Rattle.std.proofs.Common.{◌≡◌, ℕ, ◌+◌, ◌≤◌, List, [], ◌∷◌, ◌++◌, length, take, drop, slice_set, sym, refl, ap, ap₂, ◌∙◌, arith}
use Rattle.std.proofs.lemmas.List.{length-set, length-append, take-append-drop, take_more_set, drop-set-lt, drop-drop, append_assoc}
use borrow.Rule.Slice.PartMut.{put_mid}
use Rattle.columns.specs.Lists.{over, Lent, Grows}

-- ---- items over items

pub over-append : {X : Type 0} (ys zs xs : List X) (at : ℕ) → over xs at (ys ++ zs) ≡ over (over xs at ys) (at + length ys) zs
over-append [] zs xs at = ap (λ (k : ℕ). over xs k zs) (omega arith)
over-append (y ∷ ys) zs xs at = over-append ys zs (slice_set xs at y) (at + 1) ∙ ap (λ (k : ℕ). over (over (slice_set xs at y) (at + 1) ys) k zs) (omega arith)

pub length-over : {X : Type 0} (ys xs : List X) (at : ℕ) → length (over xs at ys) ≡ length xs
length-over [] xs at = refl
length-over (y ∷ ys) xs at = length-over ys (slice_set xs at y) (at + 1) ∙ length-set xs at y

-- where there is room, what stands before and after them stays
pub over_is : {X : Type 0} (ys xs : List X) (at : ℕ) → at + length ys ≤ length xs → over xs at ys ≡ take at xs ++ (ys ++ drop (at + length ys) xs)
over_is [] xs at l = sym (ap (λ (k : ℕ). take at xs ++ drop k xs) (omega arith) ∙ take-append-drop at xs)
over_is {X} (y ∷ ys) xs at l =
    over_is ys (slice_set xs at y) (at + 1) (omega (arith, length-set xs at y))
    ∙ ap₂ (λ (us vs : List X). us ++ (ys ++ vs)) (take_more_set xs at y (omega arith)) (drop-set-lt (at + 1 + length ys) xs at y (omega arith) ∙ ap (λ (k : ℕ). drop k xs) (omega arith))
    ∙ append_assoc (take at xs) (y ∷ []) (ys ++ drop (at + length (y ∷ ys)) xs)

-- ---- lists that grow

pub grows_none : {X : Type 0} (a : Lent X) → Grows a a []
grows_none a = record { same_reference = refl; memory = refl; len = omega arith }

pub grows_more : {X : Type 0} (a b c : Lent X) (xs ys : List X) → Grows a b xs → Grows b c ys → Grows a c (xs ++ ys)
grows_more {X} a b c xs ys g h = record {
  same_reference = h.same_reference ∙ g.same_reference;
  memory = h.memory ∙ ap₂ (λ (m : List X) (k : ℕ). over m k ys) g.memory g.len ∙ sym (over-append xs ys a.memory a.len);
  len = omega (arith, g.len, h.len, length-append xs ys);
}

pub grows_long : {X : Type 0} (a b : Lent X) (xs : List X) → Grows a b xs → length b.memory ≡ length a.memory
grows_long a b xs g = ap length g.memory ∙ length-over xs a.memory a.len

-- a part of lent memory that is written whole
pub over_mid : {X : Type 0} (xs : List X) (at k : ℕ) (zs ys : List X) → zs ≡ ys → at + length ys ≤ length xs → k ≡ length ys → put_mid at k xs zs ≡ over xs at ys
over_mid {X} xs at k zs ys e l n =
    rw (e, n)
    (ap (λ (rest : List X). take at xs ++ (ys ++ rest)) (drop-drop (length ys) at xs ∙ ap (λ (j : ℕ). drop j xs) (omega arith)) ∙ sym (over_is ys xs at l))
