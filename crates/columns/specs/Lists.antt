-- Lists in lent memory.
use Rattle.std.specs.Prelude.{◌≡◌, ℕ, ◌+◌, List, [], ◌∷◌, length, slice_set}
use Rattle.columns.specs.declared.list.LentList.{LentList}

-- the items of one list over those of another, from a place on; the others stay
abbrev pub over : {X : Type 0} → List X → ℕ → List X → List X
over xs at [] = xs
over xs at (y ∷ ys) = over (slice_set xs at y) (at + 1) ys

-- what lent memory holds, which it is, and how many of its first places are taken
pub record Lent (X : Type 0) : Type 0 where
  pub memory : List X
  pub name : ℕ
  pub len : ℕ

abbrev pub lent : {X : Type 0} → LentList X → Lent X
lent l = record { memory = l.memory.now; name = l.memory.ghost_name; len = l.len }

-- these items more are taken, in the same memory, of which nothing else changed
pub record Grows {X : Type 0} (before after : Lent X) (items : List X) : Type 0 where
  pub same_reference : after.name ≡ before.name
  pub memory : after.memory ≡ over before.memory before.len items
  pub len : after.len ≡ before.len + length items
