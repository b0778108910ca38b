-- Openings worked out from the definitions.
use Rattle.std.specs.Prelude.{ℕ, ◌-◌, ◌^◌, List, [], ◌∷◌, ◌++◌, Ok, Err}
use Rattle.layout.specs.declared.fault.Refusal.TheVariants.{NodeBytes, KindOrSize, Nesting, Place, Key}
use Rattle.layout.specs.Faults.{fault_of}
use Rattle.layout.specs.Numbers.{le}
use Rattle.layout.specs.Opening.{Verdict}

-- numbers of eight bytes, one after another
abbrev pub eights : List ℕ → List ℕ
eights [] = []
eights (n ∷ ns) = le 8 n ++ eights ns

-- a Dictionary of one row with keys of one byte, over a Null of one row
abbrev pub dictionary : ℕ → List ℕ
dictionary bitmap = eights (8 ∷ 0 ∷ 1 ∷ 1 ∷ 0 ∷ bitmap ∷ 0 ∷ 0 ∷ 0 ∷ 2 ∷ 0 ∷ 0 ∷ 0 ∷ 1 ∷ 0 ∷ 0 ∷ 0 ∷ 0 ∷ 0 ∷ 1 ∷ [])

-- 32-bit offsets 3, 5, 5, 9 over nine bytes of data, from 1, rows 2
abbrev pub strings : List ℕ
strings = eights (3 ∷ 0 ∷ 0 ∷ 2 ∷ 1 ∷ 0 ∷ 0 ∷ 16 ∷ 9 ∷ 1 ∷ [])

abbrev pub bytes_of_strings : List ℕ
bytes_of_strings = 3 ∷ 0 ∷ 0 ∷ 0 ∷ 5 ∷ 0 ∷ 0 ∷ 0 ∷ 5 ∷ 0 ∷ 0 ∷ 0 ∷ 9 ∷ 0 ∷ 0 ∷ 0 ∷ 97 ∷ 98 ∷ 99 ∷ 100 ∷ 101 ∷ 102 ∷ 103 ∷ 104 ∷ 105 ∷ []

pub record Openings : Type 0 where
  pub half_a_node : Verdict (0 ∷ []) [] (Err (fault_of NodeBytes 0 0))
  pub nothing : Verdict [] (1 ∷ 2 ∷ []) (Ok tt)
  pub key_in_valid_row : Verdict (dictionary 0) (0xff ∷ []) (Err (fault_of Key 0 0))
  pub key_in_valid_bit : Verdict (dictionary 2) (0xff ∷ 1 ∷ []) (Err (fault_of Key 0 0))
  pub key_in_null_row : Verdict (dictionary 2) (0xff ∷ 0xfe ∷ []) (Ok tt)
  pub strings_open : Verdict strings bytes_of_strings (Ok tt)
  pub strings_short : Verdict strings (3 ∷ 0 ∷ 0 ∷ 0 ∷ []) (Err (fault_of Place 0 0))
  pub nothing_wraps : Verdict (eights (2 ∷ 0 ∷ 1 ∷ 1 ∷ 0 ∷ 0 ∷ (2 ^ 64 - 1) ∷ 0 ∷ 0 ∷ 1 ∷ [])) (0 ∷ []) (Err (fault_of Place 0 0))
  pub no_child : Verdict (eights (5 ∷ 0 ∷ 0 ∷ 0 ∷ 0 ∷ 0 ∷ 0 ∷ 0 ∷ 0 ∷ 1 ∷ [])) (0 ∷ 0 ∷ 0 ∷ 0 ∷ []) (Err (fault_of Nesting 0 0))
  pub no_kind : Verdict (eights (9 ∷ 0 ∷ 0 ∷ 0 ∷ 0 ∷ 0 ∷ 0 ∷ 0 ∷ 0 ∷ 1 ∷ [])) [] (Err (fault_of KindOrSize 0 0))
