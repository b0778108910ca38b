-- Decimal numbers.
use Rattle.std.specs.Prelude.{ℕ, ◌^◌, Bool, cond, ◌&&◌, List, length, Ok, Err, Result, nat_lt}
use Rattle.std.specs.Str.Parse.{digits_value}
use Rattle.std.specs.Str.{all_ascii_digits}
use Rattle.orders.specs.declared.error.Why.{Why}
use Rattle.orders.specs.declared.error.Why.TheVariants.{NotNumber, NumberTooLarge}

-- a digit or more, and nothing else
abbrev pub is_numeral : List ℕ → Bool
is_numeral w = nat_lt 0 (length w) && all_ascii_digits w

-- the number that a word spells, where it fits 64 bits
unfoldable pub number_read : List ℕ → Result ℕ Why
number_read w = cond (is_numeral w) (cond (nat_lt (digits_value 10 w) (2 ^ 64)) (Ok (digits_value 10 w)) (Err NumberTooLarge)) (Err NotNumber)
