-- Decimal numbers, a digit at a time.
use Rattle.std.proofs.Common.{◌≡◌, ℕ, zero, suc, ◌+◌, ◌-◌, ◌*◌, ◌^◌, ◌<◌, ◌≤◌, true, false, ◌&&◌, ltb, List, [], ◌∷◌, length, get_or, take, Ok, Err, decimal, Result, sym, refl, ap, ◌∙◌, arith}
use Rattle.std.specs.Str.Parse.{digits_value, digits_value_after}
use Rattle.std.specs.Int.{IsInRange}
use Rattle.std.specs.Char.{digit_value, is_ascii_digit}
use Rattle.std.specs.List.{list_all}
use Rattle.std.specs.Str.{all_ascii_digits}
use Rattle.std.proofs.lemmas.Fmt.{decimal_is_IsNumeral}
use Rattle.std.proofs.lemmas.Int.Digits.{digits_value_more}
use Rattle.std.proofs.lemmas.Str.Parse.{digit_at, numerals_by_value, tells_all_ascii_digits}
use Rattle.std.proofs.lemmas.Bool.{and_parts, and_from, lt-ltb, le-ltb}
use Rattle.std.proofs.lemmas.Str.{digit_value_digit}
use Rattle.orders.specs.declared.error.Why.{Why}
use Rattle.orders.specs.declared.error.Why.TheVariants.{NotNumber, NumberTooLarge}
use Rattle.orders.specs.Numbers.{is_numeral, number_read}

pub all_digits : (w : List ℕ) → list_all is_ascii_digit w ≡ all_ascii_digits w
all_digits [] = refl
all_digits (c ∷ cs) = ap (λ t. is_ascii_digit c && t) (all_digits cs)

-- more digits make no number less
after_ge : (n : ℕ) (cs : List ℕ) → n ≤ digits_value_after 10 n cs
after_ge n [] = omega arith
after_ge n (c ∷ cs) = omega (arith, after_ge (n * 10 + digit_value c) cs)

after_take : (n i : ℕ) (cs : List ℕ) → digits_value_after 10 n (take i cs) ≤ digits_value_after 10 n cs
after_take n zero cs = after_ge n cs
after_take n (suc i) [] = omega arith
after_take n (suc i) (c ∷ cs) = after_take (n * 10 + digit_value c) i cs

module _ (w : List ℕ) (h : is_numeral w ≡ true) where
  pub digit : (i : ℕ) → i < length w → IsInRange 48 57 (get_or w i 0)
  digit i l =
      let p = and_parts (ltb 0 (length w)) (all_ascii_digits w) h in
      digit_at w i ((numerals_by_value (λ ds. all_ascii_digits ds ≡ true) tells_all_ascii_digits).to w p.1) l

  pub one_more : (i : ℕ) → i < length w → digits_value 10 (take (i + 1) w) ≡ digits_value 10 (take i w) * 10 + (get_or w i 0 - 48)
  one_more i l = omega (arith, digits_value_more 10 w i l, digit_value_digit (get_or w i 0) (digit i l))

  pub too_large : (i : ℕ) → 2 ^ 64 ≤ digits_value 10 (take i w) → Err NumberTooLarge ≡ number_read w
  unfolding number_read
  too_large i l =
      let big : 2 ^ 64 ≤ digits_value 10 w = omega (arith, after_take 0 i w) in
      let t = le-ltb (digits_value 10 w) (2 ^ 64) big in
      rw (h, t)

  pub fitting : digits_value 10 w < 2 ^ 64 → Ok (digits_value 10 w) ≡ number_read w
  unfolding number_read
  fitting l = let t = lt-ltb (digits_value 10 w) (2 ^ 64) l in rw (h, t)

pub no_number : (w : List ℕ) → is_numeral w ≡ false → Err NotNumber ≡ number_read w
unfolding number_read
no_number w h = rw h

printed : (n : ℕ) → n < 2 ^ 64 → is_numeral (decimal n) ≡ true
printed n l =
    let d = decimal_is_IsNumeral n l in
    and_from (ltb 0 (length (decimal n))) (all_ascii_digits (decimal n)) (lt-ltb 0 (length (decimal n)) d.0.0)
    ((numerals_by_value (λ ds. all_ascii_digits ds ≡ true) tells_all_ascii_digits).from (decimal n) d.0.1)

-- what is read of a printed number
pub back : (w : List ℕ) (r : Result ℕ Why) → r ≡ number_read w → (n : ℕ) → n < 2 ^ 64 → w ≡ decimal n → r ≡ Ok n
back w r e n l is =
    let d = decimal_is_IsNumeral n l in
    e ∙ ap number_read is ∙ sym (fitting (decimal n) (printed n l) (omega (arith, d.1))) ∙ ap (λ v. Ok v) d.1
