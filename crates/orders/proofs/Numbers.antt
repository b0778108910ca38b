-- Numbers, one word after another.
use Rattle.std.proofs.Common.{◌≡◌, ℕ, suc, ◌+◌, ◌-◌, ◌<◌, true, List, [], ◌∷◌, ◌++◌, Ok, Err, Result, sym, refl, ap, append_assoc, append-nil, ◌∙◌, arith}
use Rattle.orders.specs.declared.error.Why.{Why}
use Rattle.orders.specs.declared.error.Why.TheVariants.{MissingWord}
use Rattle.orders.specs.Texts.{is_empty, word_in, at_end, IsFirstWord}
use Rattle.orders.specs.Numbers.{number_read}
use Rattle.orders.specs.Items.{cons_read, numbers_in}
use Rattle.orders.proofs.Ends.{at_end_ok, at_end_err}

-- others after the numbers so far, where they are there
abbrev pub prefixed : List ℕ → Result (List ℕ) Why → Result (List ℕ) Why
prefixed xs (Ok ys) = Ok (xs ++ ys)
prefixed xs (Err why) = Err why

prefixed_cons : (xs : List ℕ) (n : ℕ) (s : Result (List ℕ) Why) → prefixed xs (cons_read (Ok n) s) ≡ prefixed (xs ++ n ∷ []) s
prefixed_cons xs n (Ok ys) = ap (λ l. Ok l) (sym (append_assoc xs (n ∷ []) ys))
prefixed_cons xs n (Err why) = refl

one_less : (n k : ℕ) → k < n → n - k ≡ suc (n - (k + 1))
one_less n k l = omega arith

-- of n numbers of text k are read, which are xs, and the others are in rest
pub record NumbersSoFar (n k : ℕ) (text rest xs : List ℕ) : Type 0 where
  pub left : numbers_in n text ≡ prefixed xs (numbers_in (n - k) rest)

module _ {n k : ℕ} {text rest xs : List ℕ} (so_far : NumbersSoFar n k text rest xs) where
  pub missing : k < n → is_empty (word_in rest) ≡ true → numbers_in n text ≡ Err MissingWord
  unfolding numbers_in
  missing l h =
      let e : numbers_in (n - k) rest ≡ Err MissingWord = rw (one_less n k l, h) in
      so_far.left ∙ ap (prefixed xs) e

  pub ended_err : k ≡ n → (why : Why) → Err why ≡ at_end rest (tt {0}) → numbers_in n text ≡ Err why
  unfolding numbers_in
  ended_err e why is =
      let z : n - k ≡ 0 = omega arith in
      let d : numbers_in (n - k) rest ≡ Err why = rw z (at_end_err rest (tt {0}) [] why (sym is)) in
      so_far.left ∙ ap (prefixed xs) d

  pub ended_ok : k ≡ n → (u : Unit {0}) → Ok u ≡ at_end rest (tt {0}) → numbers_in n text ≡ Ok xs
  unfolding numbers_in
  ended_ok e u is =
      let z : n - k ≡ 0 = omega arith in
      let d : numbers_in (n - k) rest ≡ Ok [] = rw z (at_end_ok rest (tt {0}) [] u (sym is)) in
      so_far.left ∙ ap (prefixed xs) d ∙ ap (λ ys. Ok ys) (append-nil xs)

  module _ (l : k < n) {word after : List ℕ} (f : IsFirstWord rest word after) where
    next : numbers_in (n - k) rest ≡ cons_read (number_read word) (numbers_in (n - (k + 1)) after)
    unfolding numbers_in
    next = rw (one_less n k l, f.some, ← f.word, ← f.rest)

    pub next_err : (why : Why) → Err why ≡ number_read word → numbers_in n text ≡ Err why
    next_err why e = so_far.left ∙ ap (prefixed xs) (next ∙ ap (λ r. cons_read r (numbers_in (n - (k + 1)) after)) (sym e))

    pub next_ok : (x : ℕ) → Ok x ≡ number_read word → NumbersSoFar n (k + 1) text after (xs ++ x ∷ [])
    next_ok x e =
        let others = numbers_in (n - (k + 1)) after in
        record { left = so_far.left ∙ ap (prefixed xs) (next ∙ ap (λ r. cons_read r others) (sym e)) ∙ prefixed_cons xs x others }
