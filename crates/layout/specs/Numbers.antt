-- Numbers in bytes, the lowest first, and signed ones in two's complement.
use Rattle.std.specs.Prelude.{ℕ, zero, suc, ◌+◌, ◌-◌, ◌*◌, ◌/◌, ◌%◌, ◌^◌, ◌<◌, ◌≤◌, Bool, cond, List, [], ◌∷◌, map, length, ℤ, pos, negsuc, Some, None, Option, ◌==◌, nat_lt}
use Rattle.layout.specs.declared.number.Width.{Width}
use Rattle.layout.specs.declared.number.Width.TheVariants.{One, Two, Four, Eight}
use Rattle.layout.specs.Lists.{cut, join_all}

-- how many bytes a number of a width has
abbrev pub wide : Width → ℕ
wide One = 1
wide Two = 2
wide Four = 4
wide Eight = 8

-- the width of so many bytes
abbrev pub width_of : ℕ → Option Width
width_of n = cond (n == 1) (Some One) (cond (n == 2) (Some Two) (cond (n == 4) (Some Four) (cond (n == 8) (Some Eight) None)))

-- the w bytes that spell n, or what w bytes hold of it
abbrev pub le : ℕ → ℕ → List ℕ
le zero n = []
le (suc w) n = n % 256 ∷ le w (n / 256)

-- numbers one after another, w bytes each
abbrev pub le_all : ℕ → List ℕ → List ℕ
le_all w ns = join_all (map (le w) ns)

-- the number that bytes spell
abbrev pub unle : List ℕ → ℕ
unle [] = 0
unle (b ∷ bs) = b + 256 * unle bs

-- as a signed number these bytes are not below 0
abbrev pub natural : List ℕ → Bool
natural bs = nat_lt (2 * unle bs) (256 ^ length bs)

-- the signed number that bytes spell
abbrev pub signed : List ℕ → ℤ
signed bs = cond (natural bs) (pos (unle bs)) (negsuc (256 ^ length bs - suc (unle bs)))

-- the same, with 0 for what is below it
abbrev pub number : List ℕ → ℕ
number bs = cond (natural bs) (unle bs) 0

-- the number whose w bytes are those of a signed one
abbrev pub twos : ℕ → ℤ → ℕ
twos w (pos n) = n
twos w (negsuc n) = 256 ^ w - suc n

-- a signed number that w bytes can spell
abbrev pub SignedFits : ℕ → ℤ → Type 0
SignedFits w (pos n) = 2 * n < 256 ^ w
SignedFits w (negsuc n) = 2 * suc n ≤ 256 ^ w

-- ---- at a place

abbrev pub unsigned_at : List ℕ → ℕ → Width → ℕ
unsigned_at bs p w = unle (cut p (wide w) bs)
