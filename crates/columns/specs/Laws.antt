-- Laws of what is planned.
use Rattle.std.specs.Prelude.{◌≡◌, ℕ, List, [], ◌∷◌, map}
use Rattle.layout.specs.Windows.{EachInside}
use Rattle.columns.specs.declared.memory.Memory.{Memory}
use Rattle.columns.specs.Memories.{short_for}
use Rattle.columns.specs.Plans.{ToSend}
use Rattle.columns.specs.Telling.{shows, sent_as}

-- their columns are windows that recordings have
abbrev pub EachMessageInside : List ToSend → Type 0
EachMessageInside [] = Unit {0}
EachMessageInside (m ∷ ms) = EachInside m.columns × EachMessageInside ms

-- messages of any recordings that show the same are told the same, and are refused the same memories
pub record NothingElseCounts : Type 0 where
  pub told : (al : ℕ) (ms ns : List ToSend) → map shows ms ≡ map shows ns → map (sent_as al) ms ≡ map (sent_as al) ns
  pub refused : (ms ns : List ToSend) → EachMessageInside ms → EachMessageInside ns → map shows ms ≡ map shows ns → (m : Memory) → short_for ms m ≡ short_for ns m
