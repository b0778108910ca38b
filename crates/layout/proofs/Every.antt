-- Tests of every number below a bound, of every member, and of what may be absent.
use Rattle.std.proofs.Common.{◌≡◌, ℕ, zero, suc, ◌+◌, ◌<◌, Bool, true, false, cond, ◌&&◌, Some, None, Option, refl, ap, ◌∙◌, inl, inr, add-suc, arith}
use Rattle.std.proofs.lemmas.Bool.{and_left, and_right, and_from, and_parts, cases_eq}
use Rattle.layout.specs.Lists.{every}
use Rattle.layout.specs.Tests.{passes}

-- one number that fails
pub every_false : (n k : ℕ) (p : ℕ → Bool) → k < n → p k ≡ false → every n p ≡ false
every_false zero k p h f = absurd (omega arith)
every_false (suc n) k p h f =
    elim (cases_eq k n) [
      | inl e ↦ and_left (p n) (every n p) (rw e at f)
      | inr ne ↦ and_right (p n) (every n p) (every_false n k p (omega arith) f)
    ]

-- each number
pub every_at : (n k : ℕ) (p : ℕ → Bool) → every n p ≡ true → k < n → p k ≡ true
every_at zero k p h l = absurd (omega arith)
every_at (suc n) k p h l =
    let b = and_parts (p n) (every n p) h in
    elim (cases_eq k n) [ inl e ↦ rw e b.0 | inr ne ↦ every_at n k p b.1 (omega arith) ]

pub every_all : (n : ℕ) (p : ℕ → Bool) → ((k : ℕ) → k < n → p k ≡ true) → every n p ≡ true
every_all zero p h = refl
every_all (suc n) p h = and_from (p n) (every n p) (h n (omega arith)) (every_all n p (λ k l. h k (omega arith)))

-- equal tests
pub every_same : (n : ℕ) (p q : ℕ → Bool) → ((k : ℕ) → k < n → p k ≡ q k) → every n p ≡ every n q
every_same zero p q h = refl
every_same (suc n) p q h = rw (h n (omega arith), every_same n p q (λ k l. h k (omega arith)))

pub turned : (x y : Bool) → (x && y) ≡ (y && x)
turned true true = refl
turned true false = refl
turned false true = refl
turned false false = refl

-- what may be absent
pub passes_at : {X : Type 0} (o : Option X) (p : X → Bool) (x : X) → passes o p ≡ true → o ≡ Some x → p x ≡ true
passes_at o p x h e = rw e at h

pub passes_all : {X : Type 0} (o : Option X) (p : X → Bool) → ((x : X) → o ≡ Some x → p x ≡ true) → passes o p ≡ true
passes_all None p h = refl
passes_all (Some x) p h = h x refl

pub cond_at : (b x : Bool) → cond b x true ≡ true → b ≡ true → x ≡ true
cond_at b x h e = rw e at h

pub cond_all : (b x : Bool) → (b ≡ true → x ≡ true) → cond b x true ≡ true
cond_all true x h = h refl
cond_all false x h = refl

-- some, and then more
pub every_add : (a b : ℕ) (p : ℕ → Bool) → every (a + b) p ≡ (every a p && every b (λ k. p (a + k)))
every_add a zero p = ap (λ (n : ℕ). every n p) (omega arith) ∙ alone (every a p)
  where
    alone : (b : Bool) → b ≡ (b && true)
    alone true = refl
    alone false = refl
every_add a (suc b) p =
    ap (λ (n : ℕ). every n p) (add-suc a b) ∙ ap (λ (x : Bool). p (a + b) && x) (every_add a b p) ∙ mixed (p (a + b)) (every a p) (every b (λ k. p (a + k)))
  where
    mixed : (x y z : Bool) → (x && (y && z)) ≡ (y && (x && z))
    mixed true y z = refl
    mixed false true z = refl
    mixed false false z = refl
