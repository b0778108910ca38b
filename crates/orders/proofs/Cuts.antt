-- Where a text is cut in two.
use Rattle.std.proofs.Common.{◌≡◌, ℕ, ◌+◌, ◌-◌, Bool, not, ltb, List, length, take, drop, unwrap_or, Option, sym, ap, ◌∙◌, inl, inr, arith, length-drop}
use Rattle.std.specs.List.{position, position_or_len, after_first}
use Rattle.std.proofs.lemmas.Bool.{cases_Bool, ltb-false}
use Rattle.std.proofs.lemmas.List.{drop-drop, drop_all, take_rest}
use Rattle.std.proofs.lemmas.List.Sums.{prefix_len-le-length}
use Rattle.orders.specs.Texts.{IsCut, from_first}

module _ (p : ℕ → Bool) (bs : List ℕ) where
  cut_at : (r : Option ℕ) → r ≡ position p bs → unwrap_or r (length bs) ≡ position_or_len p bs
  cut_at r e =
      elim (cases_Bool (ltb (position_or_len p bs) (length bs))) [
        | inl h ↦ rw (e, h)
        | inr h ↦ rw (e, h) (omega (arith, prefix_len-le-length (λ b. not (p b)) bs, ltb-false (position_or_len p bs) (length bs) h))
      ]

  pub cut_is : (r : Option ℕ) (n : ℕ) (before after : List ℕ) → r ≡ position p bs → n ≡ unwrap_or r (length bs) → before ≡ take n bs → after ≡ drop n bs → IsCut p bs before after
  cut_is r n before after found is front back =
      let e = is ∙ cut_at r found in
      record { front = front ∙ ap (λ k. take k bs) e; back = back ∙ ap (λ k. drop k bs) e }

  pub from_none : (rest : List ℕ) → rest ≡ from_first p bs → length rest ≡ 0 → rest ≡ after_first p bs
  from_none rest e none =
      let n = position_or_len p bs in
      drop_all 0 rest (omega arith) ∙ sym (drop_all (n + 1) bs (omega (arith, ap length e, length-drop n bs)))

  pub from_some : (rest : List ℕ) → rest ≡ from_first p bs → take (length rest - 1) (drop 1 rest) ≡ after_first p bs
  from_some rest e = take_rest rest 1 ∙ ap (λ r. drop 1 r) e ∙ drop-drop 1 (position_or_len p bs) bs

pub ruleset line_ends = (from_none, from_some)
