-- What is printed of a body, and of what a sink was sent.
use Rattle.std.specs.Prelude.{ℕ, ◌/◌, ◌%◌, false, cond, List, ◌++◌, length, codes, decimal, ◌==◌}
use Rattle.std.specs.List.{flat_map}
use Rattle.std.specs.Fmt.{digits}

-- two digits a byte
abbrev pub hex_shown : List ℕ → List ℕ
hex_shown bs = flat_map (λ b. digits 16 false (b / 16) ++ digits 16 false (b % 16)) bs

abbrev pub body_shown : List ℕ → List ℕ
body_shown bs = cond (length bs == 0) (codes "body -") (codes "body " ++ hex_shown bs)

abbrev pub appended_shown : List ℕ → List ℕ
appended_shown bs = cond (length bs == 0) (codes "appended -") (codes "appended " ++ hex_shown bs)

-- each after a blank
abbrev pub lengths_shown : List ℕ → List ℕ
lengths_shown ns = flat_map (λ n. codes " " ++ decimal n) ns

-- the length of each piece
abbrev pub pieces_shown : List ℕ → List ℕ
pieces_shown ns = codes "pieces" ++ lengths_shown ns
