-- Arrays that a closure makes, number by number.
use Rattle.std.proofs.Common.{◌≡◌, ℕ, ◌+◌, ◌<◌, ◌≤◌, zero, suc, List, get_or, ◌∙◌, subst, arith, inl, inr}
use Rattle.std.proofs.lemmas.Bool.{cases_eq}
use denote.Param.Members.{Mut}
use Rattle.std.specs.Fn.{Called}
use Rattle.std.specs.Array.{IsFromFnResultFrom}

-- each call leaves the closure as it was
module _ {F : Type 0} {g : Mut F (ℕ × Unit {0}) ℕ} {f : F} (p : ℕ → ℕ) (one : (i y : ℕ) (f' : F) → Called g f (i, tt) y f' → (y ≡ p i) × (f' ≡ f)) where
  pub made : (n i : ℕ) (ys : List ℕ) (f' : F) → f' ≡ f → IsFromFnResultFrom g f' ys i n → (k : ℕ) → i ≤ k → k < i + n → get_or ys k 0 ≡ p k
  made zero i ys f' same m k h l = absurd (omega arith)
  made (suc n) i ys f' same (q, y, is, called, more) k h l =
      let u = one i y q (subst (λ (f : F). Called g f (i, tt) y q) same called) in
      elim (cases_eq k i) [ inl e ↦ rw e (is.1 0 ∙ u.0) | inr ne ↦ made n (i + 1) ys q u.1 more k (omega arith) (omega arith) ]
