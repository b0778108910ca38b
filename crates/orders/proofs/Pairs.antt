-- Pairs of hex digits, one after another.
use Rattle.std.proofs.Common.{◌≡◌, ℕ, ◌≤◌, true, false, not, List, [], ◌∷◌, ◌++◌, length, get_or, drop, Some, None, Ok, Err, Option, sym, refl, ap, ◌∙◌, inl, inr, append_assoc, append-nil, one-add, arith, length-drop}
use Rattle.std.specs.List.{position_or_len}
use Rattle.std.specs.Option.{ok_or}
use Rattle.std.proofs.lemmas.Bool.{cases_Bool}
use Rattle.orders.specs.declared.error.Why.TheVariants.{NotHex}
use Rattle.orders.specs.Texts.{is_blank, unblanked}
use Rattle.orders.specs.Hexes.{hex_pair, before, pairs_in, pairs_read}

-- others after the bytes so far, where they are there
abbrev pub after : List ℕ → Option (List ℕ) → Option (List ℕ)
after xs None = None
after xs (Some ys) = Some (xs ++ ys)

after_none : (o : Option (List ℕ)) → o ≡ after [] o
after_none None = refl
after_none (Some ys) = refl

after_before : (xs : List ℕ) (b : ℕ) (o : Option (List ℕ)) → after xs (before (Some b) o) ≡ after (xs ++ b ∷ []) o
after_before xs b None = refl
after_before xs b (Some ys) = ap (λ l. Some l) (sym (append_assoc xs (b ∷ []) ys))

-- ---- a text from its first byte on that is no blank

skip_blank : (a : ℕ) (bs : List ℕ) → is_blank a ≡ true → unblanked (a ∷ bs) ≡ unblanked bs
unfolding unblanked
skip_blank a bs h = rw (h, one-add)

skip_dark : (a : ℕ) (bs : List ℕ) → is_blank a ≡ false → unblanked (a ∷ bs) ≡ a ∷ bs
unfolding unblanked
skip_dark a bs h = rw h

pub skip_le : (bs : List ℕ) → length (unblanked bs) ≤ length bs
unfolding unblanked
skip_le bs = omega (arith, length-drop (position_or_len (λ b. not (is_blank b)) bs) bs)

skip_twice : (bs : List ℕ) → unblanked (unblanked bs) ≡ unblanked bs
unfolding unblanked
skip_twice [] = refl
skip_twice (a ∷ bs) =
    elim (cases_Bool (is_blank a)) [
      | inl h ↦ (let e = skip_blank a bs h in rw e (skip_twice bs))
      | inr h ↦ (let e = skip_dark a bs h in rw (e, e))
    ]

pairs_blank : (a : ℕ) (bs : List ℕ) → is_blank a ≡ true → pairs_in (a ∷ bs) ≡ pairs_in bs
unfolding pairs_in
pairs_blank a [] h = rw h
pairs_blank a (b ∷ bs) h = rw h

pairs_skip : (bs : List ℕ) → pairs_in bs ≡ pairs_in (unblanked bs)
unfolding unblanked
pairs_skip [] = refl
pairs_skip (a ∷ bs) =
    elim (cases_Bool (is_blank a)) [
      | inl h ↦ pairs_blank a bs h ∙ pairs_skip bs ∙ ap pairs_in (sym (skip_blank a bs h))
      | inr h ↦ ap pairs_in (sym (skip_dark a bs h))
    ]

first_dark : (a : ℕ) (bs : List ℕ) → unblanked (a ∷ bs) ≡ a ∷ bs → is_blank a ≡ false
first_dark a bs e =
    elim (cases_Bool (is_blank a)) [
      | inl h ↦ absurd (omega (arith, ap length (sym (skip_blank a bs h) ∙ e), skip_le bs))
      | inr h ↦ h
    ]

-- ---- a text that begins with no blank

pairs_step : (bs : List ℕ) → unblanked bs ≡ bs → 2 ≤ length bs → pairs_in bs ≡ before (hex_pair (get_or bs 0 0) (get_or bs 1 0)) (pairs_in (drop 2 bs))
unfolding pairs_in
pairs_step [] e l = absurd (omega arith)
pairs_step (a ∷ []) e l = absurd (omega arith)
pairs_step (a ∷ b ∷ bs) e l = let d = first_dark a (b ∷ bs) e in rw d

pairs_one : (bs : List ℕ) → unblanked bs ≡ bs → length bs ≡ 1 → pairs_in bs ≡ None
unfolding pairs_in
pairs_one [] e l = absurd (omega arith)
pairs_one (a ∷ []) e l = let d = first_dark a [] e in rw d
pairs_one (a ∷ b ∷ bs) e l = absurd (omega arith)

pairs_none : (bs : List ℕ) → length bs ≡ 0 → pairs_in bs ≡ Some []
unfolding pairs_in
pairs_none [] l = refl
pairs_none (a ∷ bs) l = absurd (omega arith)

-- ---- some pairs read, and others not

-- the bytes xs are read of text, and those of rest are not
pub record PairsSoFar (text rest xs : List ℕ) : Type 0 where
  pub dark : unblanked rest ≡ rest
  pub left : pairs_in text ≡ after xs (pairs_in rest)

pub pairs_start : (text rest : List ℕ) → rest ≡ unblanked text → PairsSoFar text rest []
pairs_start text rest e =
    record {
      dark = ap unblanked e ∙ skip_twice text ∙ sym e;
      left = pairs_skip text ∙ ap pairs_in (sym e) ∙ after_none (pairs_in rest);
    }

module _ {text rest xs : List ℕ} (so_far : PairsSoFar text rest xs) where
  reads : (o : Option (List ℕ)) → pairs_in rest ≡ o → pairs_read text ≡ ok_or (after xs o) NotHex
  reads o e = ap (λ p. ok_or p NotHex) (so_far.left ∙ ap (after xs) e)

  pub pairs_done : length rest ≡ 0 → pairs_read text ≡ Ok xs
  pairs_done l = reads (Some []) (pairs_none rest l) ∙ ap (λ ys. Ok ys) (append-nil xs)

  pub pairs_odd : length rest ≡ 1 → pairs_read text ≡ Err NotHex
  pairs_odd l = reads None (pairs_one rest so_far.dark l)

  module _ (two : 2 ≤ length rest) where
    step : (o : Option ℕ) → o ≡ hex_pair (get_or rest 0 0) (get_or rest 1 0) → pairs_in rest ≡ before o (pairs_in (drop 2 rest))
    step o e = pairs_step rest so_far.dark two ∙ ap (λ p. before p (pairs_in (drop 2 rest))) (sym e)

    pub pairs_bad : None ≡ hex_pair (get_or rest 0 0) (get_or rest 1 0) → pairs_read text ≡ Err NotHex
    pairs_bad e = reads None (step None e)

    pub pairs_more : (b : ℕ) (next : List ℕ) → Some b ≡ hex_pair (get_or rest 0 0) (get_or rest 1 0) → next ≡ unblanked (drop 2 rest) → PairsSoFar text next (xs ++ b ∷ [])
    pairs_more b next e n =
        record {
          dark = ap unblanked n ∙ skip_twice (drop 2 rest) ∙ sym n;
          left =
              so_far.left ∙ ap (after xs) (step (Some b) e) ∙ after_before xs b (pairs_in (drop 2 rest))
              ∙ ap (after (xs ++ b ∷ [])) (pairs_skip (drop 2 rest) ∙ ap pairs_in (sym n));
        }

pub ruleset pairs_end = (skip_le, pairs_done, pairs_odd, pairs_bad)
