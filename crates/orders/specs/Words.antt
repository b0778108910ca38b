-- What is printed of an error.
use Rattle.std.specs.Prelude.{ℕ, List, ◌++◌, Some, None, Option, codes, decimal}
use Rattle.std.specs.Option.{option_map}
use Rattle.orders.specs.declared.error.OrderError.{OrderError}
use Rattle.orders.specs.declared.error.Why.{Why}
use Rattle.orders.specs.declared.error.Why.TheVariants.{UnknownItem, MissingWord, ExtraWord, NotText, NotNumber, NumberTooLarge, NotHex, UnknownWord, File, Memory}

-- what the system says of a file is not said here
abbrev pub why_words : Why → Option (List ℕ)
why_words UnknownItem = Some (codes "no item has this name")
why_words MissingWord = Some (codes "the line lacks a word")
why_words ExtraWord = Some (codes "the line has a word too many")
why_words NotText = Some (codes "a word is not UTF-8")
why_words NotNumber = Some (codes "a number is asked for, in decimal digits")
why_words NumberTooLarge = Some (codes "a number is above 18446744073709551615")
why_words NotHex = Some (codes "hex is asked for, in pairs of digits, or -")
why_words UnknownWord = Some (codes "the word is none of those that may stand here")
why_words (File error) = None
why_words Memory = Some (codes "out of memory")

abbrev pub order_error_words : OrderError → Option (List ℕ)
order_error_words e = option_map (λ words. codes "line " ++ decimal e.line ++ codes ": " ++ words) (why_words e.why)
