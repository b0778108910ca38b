-- What follows the last word that is asked for.
use Rattle.std.proofs.Common.{◌≡◌, ℕ, Bool, true, false, cond, List, Ok, Err, refl}
use Rattle.orders.specs.declared.error.Why.{Why}
use Rattle.orders.specs.declared.error.Why.TheVariants.{ExtraWord}
use Rattle.orders.specs.Texts.{is_empty, unblanked, at_end}

ok_by : {X Y : Type 0} (b : Bool) (y v : Y) (x : X) → cond b (Ok y) (Err ExtraWord) ≡ Ok v → cond b (Ok x) (Err ExtraWord) ≡ Ok x
ok_by true y v x e = refl
ok_by false y v x e = absurd (cc)

err_by : {X Y : Type 0} (b : Bool) (y : Y) (x : X) (why : Why) → cond b (Ok y) (Err ExtraWord) ≡ Err why → cond b (Ok x) (Err ExtraWord) ≡ Err why
err_by true y x why e = absurd (cc)
err_by false y x why e = cc

module _ {X Y : Type 0} (rest : List ℕ) (y : Y) (x : X) where
  -- whether a word follows does not depend on the value
  pub at_end_ok : (v : Y) → at_end rest y ≡ Ok v → at_end rest x ≡ Ok x
  unfolding at_end
  at_end_ok v e = ok_by (is_empty (unblanked rest)) y v x e

  pub at_end_err : (why : Why) → at_end rest y ≡ Err why → at_end rest x ≡ Err why
  unfolding at_end
  at_end_err why e = err_by (is_empty (unblanked rest)) y x why e
