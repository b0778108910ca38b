-- The lines of a text, one after another.
use Rattle.std.proofs.Common.{◌≡◌, ℕ, suc, ◌+◌, ◌<◌, ◌≤◌, true, false, eqb, Ok, Err, Result, MatchResult, is_ok, List, [], ◌∷◌, ◌++◌, length, sym, refl, ap, ◌∙◌, subst, inl, inr, append_assoc, one-add, arith, length-append}
use Rattle.std.specs.List.{position_or_len, onto_first}
use Rattle.std.proofs.lemmas.Bool.{cases_Bool, false≢true}
use Rattle.orders.specs.declared.error.OrderError.{OrderError}
use Rattle.orders.specs.declared.error.Why.{Why}
use Rattle.orders.specs.Texts.{line_in, after_line, lines_in}
use Rattle.orders.specs.Orders.{Spelled, Follows, Followed, BadLine, AllFollowed, FirstBad}

module _ (b : ℕ) (bs : List ℕ) where
  line_here : eqb b 10 ≡ true → (line_in (b ∷ bs) ≡ []) × (after_line (b ∷ bs) ≡ bs) × (lines_in (b ∷ bs) ≡ [] ∷ lines_in bs)
  unfolding line_in after_line
  line_here h = (rw h, rw h, rw h)

  line_on : eqb b 10 ≡ false → (line_in (b ∷ bs) ≡ b ∷ line_in bs) × (after_line (b ∷ bs) ≡ after_line bs) × (lines_in (b ∷ bs) ≡ onto_first b (lines_in bs))
  unfolding line_in after_line
  line_on h =
      let n = position_or_len (λ a. eqb a 10) bs in
      let e : 1 + n + 1 ≡ suc (n + 1) = omega arith in
      (rw (h, one-add), rw (h, e), rw h)

  step_here : eqb b 10 ≡ true → lines_in (b ∷ bs) ≡ line_in (b ∷ bs) ∷ lines_in (after_line (b ∷ bs))
  step_here h = let p = line_here h in p.2 ∙ sym (ap (λ l. l ∷ lines_in (after_line (b ∷ bs))) p.0 ∙ ap (λ r. [] ∷ lines_in r) p.1)

  step_on : eqb b 10 ≡ false → onto_first b (lines_in bs) ≡ (b ∷ line_in bs) ∷ lines_in (after_line bs) → lines_in (b ∷ bs) ≡ line_in (b ∷ bs) ∷ lines_in (after_line (b ∷ bs))
  step_on h e =
      let p = line_on h in
      p.2 ∙ e ∙ sym (ap (λ l. l ∷ lines_in (after_line (b ∷ bs))) p.0 ∙ ap (λ r. (b ∷ line_in bs) ∷ lines_in r) p.1)

  onto_first_le : (lines : List (List ℕ)) → length (onto_first b lines) ≤ suc (length lines)
  onto_first_le [] = omega arith
  onto_first_le (line ∷ lines) = omega arith

no_line : (b : ℕ) → onto_first b (lines_in []) ≡ (b ∷ line_in []) ∷ lines_in (after_line [])
unfolding line_in after_line
no_line b = refl

pub lines_step : (bs : List ℕ) → 0 < length bs → lines_in bs ≡ line_in bs ∷ lines_in (after_line bs)
lines_step [] l = absurd (omega arith)
lines_step (b ∷ []) l =
    elim (cases_Bool (eqb b 10)) [ inl h ↦ step_here b [] h | inr h ↦ step_on b [] h (no_line b) ]
lines_step (b ∷ c ∷ bs) l =
    elim (cases_Bool (eqb b 10)) [
      | inl h ↦ step_here b (c ∷ bs) h
      | inr h ↦ step_on b (c ∷ bs) h (ap (onto_first b) (lines_step (c ∷ bs) (omega arith)))
    ]

-- the same, of a line that was split off
pub lines_split : (bs line rest : List ℕ) → 0 < length bs → line ≡ line_in bs → rest ≡ after_line bs → lines_in bs ≡ line ∷ lines_in rest
lines_split bs line rest some is after = lines_step bs some ∙ sym (ap (λ l. l ∷ lines_in rest) is ∙ ap (λ r. line_in bs ∷ lines_in r) after)

pub lines_le : (bs : List ℕ) → length (lines_in bs) ≤ length bs
lines_le [] = omega arith
lines_le (b ∷ bs) =
    elim (cases_Bool (eqb b 10)) [
      | inl h ↦ omega (arith, ap length (line_here b bs h).2, lines_le bs)
      | inr h ↦ omega (arith, ap length (line_on b bs h).2, onto_first_le b bs (lines_in bs), lines_le bs)
    ]

-- what follows from a line's result, before and after its error is given the line's number
pub followed_ok : (line : List ℕ) (cs ds : List Spelled) (r : Result (Unit {0}) Why) → is_ok r ≡ true → Follows line cs r ds → Followed line cs ds
followed_ok line cs ds (Ok u) e f = f
followed_ok line cs ds (Err why) e f = absurd (false≢true e)

pub followed_err : (line : List ℕ) (cs ds : List Spelled) (n : ℕ) (r : Result (Unit {0}) Why) (s : Result (Unit {0}) OrderError) → MatchResult r (λ u. s ≡ Ok u) (λ why. s ≡ Err (record { line = n; why = why })) → (e : OrderError) → s ≡ Err e → Follows line cs r ds → (e.line ≡ n) × BadLine line e.why
followed_err line cs ds n (Ok u) s told e is f = absurd (cc)
followed_err line cs ds n (Err why) s told e is f =
    let same : record { line = n; why = why } ≡ e = cc in
    (ap (λ x. x.line) (sym same), subst (λ x. BadLine line x.why) same f)

followed_more : (lines : List (List ℕ)) (line : List ℕ) (cs ds es : List Spelled) → AllFollowed lines cs ds → Followed line ds es → AllFollowed (lines ++ line ∷ []) cs es
followed_more [] line cs ds es h f = (es, subst (λ xs. Followed line xs es) h f, refl)
followed_more (first ∷ lines) line cs ds es h f = (h.0, h.1, followed_more lines line h.0 ds es h.2 f)

-- what is done before the lines that are left
pub record Sofar (lines left : List (List ℕ)) (count : ℕ) (cases : List Spelled) : Type 0 where
  pub before : List (List ℕ)
  pub split : lines ≡ before ++ left
  pub count_is : length before ≡ count
  pub good : AllFollowed before [] cases

module _ (text : List ℕ) {left : List (List ℕ)} {count : ℕ} {cases : List Spelled} (old : Sofar (lines_in text) left count cases) (line : List ℕ) (rest : List (List ℕ)) (first : left ≡ line ∷ rest) where
  next : lines_in text ≡ old.before ++ line ∷ rest
  next = old.split ∙ ap (λ ls. old.before ++ ls) first

  pub one_more : (more : List Spelled) → Followed line cases more → Sofar (lines_in text) rest (count + 1) more
  one_more more f =
      record {
        before = old.before ++ line ∷ [];
        split = next ∙ sym (append_assoc old.before (line ∷ []) rest);
        count_is = length-append old.before (line ∷ []) ∙ ap (λ n. n + 1) old.count_is;
        good = followed_more old.before line [] cases more old.good f;
      }

  pub first_bad : (e : OrderError) → e.line ≡ count + 1 → BadLine line e.why → FirstBad text e
  first_bad e n w =
      record {
        before = old.before;
        bad = line;
        after = rest;
        cases = cases;
        split = next;
        good = old.good;
        line = n ∙ ap (λ k. k + 1) (sym old.count_is);
        why = w;
      }
