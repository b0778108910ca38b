-- Bytes in hex.
use Rattle.std.specs.Prelude.{ℕ, ◌+◌, ◌*◌, cond, List, [], ◌∷◌, Some, None, Err, codes, Option, Result, nat_lt}
use Rattle.std.specs.Char.{digit_value}
use Rattle.std.specs.Option.{ok_or}
use Rattle.std.specs.Str.{bytes_eq}
use Rattle.orders.specs.declared.error.Why.{Why}
use Rattle.orders.specs.declared.error.Why.TheVariants.{MissingWord, NotHex}
use Rattle.orders.specs.Texts.{is_blank, is_empty, word_in, after_word, at_end}

-- what a hex digit of either case stands for
abbrev pub hex_digit : ℕ → Option ℕ
hex_digit b = cond (nat_lt (digit_value b) 16) (Some (digit_value b)) None

abbrev pub pair_of : Option ℕ → Option ℕ → Option ℕ
pair_of None low = None
pair_of (Some high) None = None
pair_of (Some high) (Some low) = Some (high * 16 + low)

-- what two hex digits stand for
abbrev pub hex_pair : ℕ → ℕ → Option ℕ
hex_pair a b = pair_of (hex_digit a) (hex_digit b)

-- a byte before others, where all are there
abbrev pub before : Option ℕ → Option (List ℕ) → Option (List ℕ)
before None bs = None
before (Some b) None = None
before (Some b) (Some bs) = Some (b ∷ bs)

-- the bytes that pairs of hex digits spell, with blanks between pairs or none
unfoldable pub pairs_in : List ℕ → Option (List ℕ)
pairs_in [] = Some []
pairs_in (a ∷ []) = cond (is_blank a) (Some []) None
pairs_in (a ∷ b ∷ rest) = cond (is_blank a) (pairs_in (b ∷ rest)) (before (hex_pair a b) (pairs_in rest))

abbrev pub pairs_read : List ℕ → Result (List ℕ) Why
pairs_read text = ok_or (pairs_in text) NotHex

-- the bytes that the rest of a line spells; `-` alone spells none
unfoldable pub hex_read : List ℕ → Result (List ℕ) Why
hex_read text =
    cond (is_empty (word_in text)) (Err MissingWord)
    (cond (bytes_eq (word_in text) (codes "-")) (at_end (after_word text) []) (pairs_read text))
