-- The cases so far, and one more or more of the last.
use Rattle.std.proofs.Common.{◌≡◌, ℕ, zero, suc, ◌<◌, List, [], ◌∷◌, map, length, get_or, set, Ok, Err, vec_items, vec_len, Result, Vec, sym, ap, ◌∙◌, arith}
use Rattle.std.specs.declared.alloc.Global.{Global}
use Rattle.std.proofs.lemmas.List.{length-map}
use Rattle.orders.specs.declared.Case.{Case}
use Rattle.orders.specs.declared.error.Why.{Why}
use Rattle.orders.specs.Orders.{Spelled, spelled, cases_in, begun, to_last, Makes}

pub makes_map : (r : Result (Unit {0}) Why) (P Q : Type 0) → (P → Q) → Makes r P → Makes r Q
makes_map (Ok u) P Q f h = f h
makes_map (Err why) P Q f h = h

begun_long : (cs : List Spelled) → 0 < length (begun cs)
begun_long [] = omega arith
begun_long (c ∷ cs) = omega arith

long : (v : Vec Case Global) → length (cases_in v) ≡ vec_len v
long v = length-map (vec_items v) spelled ∙ sym v.ok.0

pub some_begun : (v : Vec Case Global) (cs : List Spelled) → cases_in v ≡ begun cs → 0 < vec_len v
some_begun v cs e = omega (arith, long v, ap length e, begun_long cs)

-- a change of the last element is one of the last case
pub map_last : (f : Spelled → Spelled) (xs : List Case) (x y : Case) (i : ℕ) → suc i ≡ length xs → x ≡ get_or xs i x → spelled y ≡ f (spelled x) → map spelled (set xs i y) ≡ to_last f (map spelled xs)
map_last f [] x y i n is e = absurd (omega arith)
map_last f (a ∷ []) x y zero n is e = ap (λ s. s ∷ []) (e ∙ ap (λ c. f (spelled c)) is)
map_last f (a ∷ []) x y (suc i) n is e = absurd (omega arith)
map_last f (a ∷ b ∷ xs) x y zero n is e = absurd (omega arith)
map_last f (a ∷ b ∷ xs) x y (suc i) n is e = ap (λ l. spelled a ∷ l) (map_last f (b ∷ xs) x y i (omega arith) is e)
