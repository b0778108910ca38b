-- Lines and words of bytes.
use Rattle.std.specs.Prelude.{◌≡◌, ℕ, Bool, true, false, cond, not, ◌||◌, ◌⊎◌, List, [], ◌∷◌, length, drop, Ok, Err, Result, ◌==◌}
use Rattle.std.specs.Borrow.{Bor}
use Rattle.std.specs.Fn.{Called, Mut}
use Rattle.std.specs.List.{position_or_len, before_first, after_first, onto_first}
use Rattle.orders.specs.declared.error.Why.{Why}
use Rattle.orders.specs.declared.error.Why.TheVariants.{MissingWord, ExtraWord, Memory}

-- a space, a tab or a carriage return
abbrev pub is_blank : ℕ → Bool
is_blank b = b == 32 || (b == 9 || b == 13)

-- a text from its first byte on that passes p, or its end where none does
abbrev pub from_first : (ℕ → Bool) → List ℕ → List ℕ
from_first p bs = drop (position_or_len p bs) bs

-- what stands before a text's first byte that passes p, and the text from there on
pub record IsCut (p : ℕ → Bool) (text before after : List ℕ) : Type 0 where
  pub front : before ≡ before_first p text
  pub back : after ≡ from_first p text

-- each call of a closure, which changes nothing, answers what p does of the byte
abbrev pub Tests : {F : Type 0} → Mut F (Bor ℕ × Unit {0}) Bool → F → (ℕ → Bool) → Type 0
Tests {F} g f p = (x : Bor ℕ) (b : Bool) (q : F) → Called g f (x, tt) b q → (q ≡ f) × (b ≡ p x.now)

-- the first line, and what follows its end
unfoldable pub line_in : List ℕ → List ℕ
line_in bs = before_first (λ b. b == 10) bs

unfoldable pub after_line : List ℕ → List ℕ
after_line bs = after_first (λ b. b == 10) bs

-- a line feed ends each line, and may end the last
abbrev pub lines_in : List ℕ → List (List ℕ)
lines_in [] = []
lines_in (b ∷ bs) = cond (b == 10) ([] ∷ lines_in bs) (onto_first b (lines_in bs))

-- a line up to its comment
unfoldable pub uncommented : List ℕ → List ℕ
uncommented bs = before_first (λ b. b == 35) bs

-- the bytes from the first on that is no blank
unfoldable pub unblanked : List ℕ → List ℕ
unblanked bs = from_first (λ b. not (is_blank b)) bs

-- the first word, and what follows it
unfoldable pub word_in : List ℕ → List ℕ
word_in bs = before_first is_blank (unblanked bs)

unfoldable pub after_word : List ℕ → List ℕ
after_word bs = from_first is_blank (unblanked bs)

abbrev pub is_empty : List ℕ → Bool
is_empty bs = length bs == 0

abbrev pub LacksWord : List ℕ → Type 0
LacksWord text = is_empty (word_in text) ≡ true

-- a text's first word, and what follows it
pub record IsFirstWord (text first after : List ℕ) : Type 0 where
  pub some : is_empty (word_in text) ≡ false
  pub word : first ≡ word_in text
  pub rest : after ≡ after_word text

-- a value, where no word follows
unfoldable pub at_end : {X : Type 0} → List ℕ → X → Result X Why
at_end rest x = cond (is_empty (unblanked rest)) (Ok x) (Err ExtraWord)

-- the only word
unfoldable pub only_word : List ℕ → Result (List ℕ) Why
only_word bs = cond (is_empty (word_in bs)) (Err MissingWord) (at_end (after_word bs) (word_in bs))

-- a reading and what it is to give, which a view of the value read shows
abbrev pub Reads : {X Y : Type 0} → (X → Y) → Result X Why → Result Y Why → Type 0
Reads view (Ok x) s = s ≡ Ok (view x)
Reads view (Err why) s = s ≡ Err why

-- the same, where a reading may find no memory
abbrev pub ReadsInto : {X Y : Type 0} → (X → Y) → Result X Why → Result Y Why → Type 0
ReadsInto view (Ok x) s = s ≡ Ok (view x)
ReadsInto view (Err why) s = (why ≡ Memory) ⊎ (s ≡ Err why)
