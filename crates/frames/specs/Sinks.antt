-- What a sink means: the bytes that it holds, and how much more it takes.
use Rattle.std.specs.Prelude.{◌≡◌, ℕ, ◌-◌, ◌*◌, Bool, true, false, ◌&&◌, cond, List, [], ◌∷◌, ◌++◌, length, Some, None, Option, Ok, Err, Result, nat_le, ◌==◌}
use Rattle.layout.specs.declared.fault.Fault.{Fault}
use Rattle.layout.specs.declared.fault.Refusal.TheVariants as refused
use Rattle.layout.specs.Faults.{fault_of}
use Rattle.frames.specs.declared.room.Room.{Room}

-- the bytes that it holds, how many more bytes and pieces are free, and the length of each piece, where it keeps them
pub record SinkMeaning : Type 0 where
  pub held : List ℕ
  pub bytes : ℕ
  pub pieces : ℕ
  pub lengths : Option (List ℕ)

abbrev pub lengths_with : Option (List ℕ) → List ℕ → Option (List ℕ)
lengths_with None ns = None
lengths_with (Some ls) ns = Some (ls ++ ns)

-- whether so many bytes, in pieces of these lengths, fit into what is free; a piece costs so much
abbrev pub has_room : ℕ → ℕ → ℕ → SinkMeaning → Bool
has_room cost bytes pieces m = nat_le bytes m.bytes && nat_le (cost * pieces) m.pieces

-- what is free after so many bytes in so many pieces; none where there is too little
abbrev pub room_after : ℕ → ℕ → ℕ → Room → Option Room
room_after cost bytes pieces r = cond (nat_le bytes r.bytes && nat_le (cost * pieces) r.pieces) (Some (record { bytes = r.bytes - bytes; pieces = r.pieces - cost * pieces })) None

abbrev pub then_after : ℕ → ℕ → ℕ → Option Room → Option Room
then_after cost bytes pieces None = None
then_after cost bytes pieces (Some r) = room_after cost bytes pieces r

-- these bytes more, in pieces of these lengths
abbrev pub with_pieces : ℕ → List ℕ → List ℕ → SinkMeaning → SinkMeaning
with_pieces cost xs ns m = record { held = m.held ++ xs; bytes = m.bytes - length xs; pieces = m.pieces - cost * length ns; lengths = lengths_with m.lengths ns }

-- what is not empty is a piece
abbrev pub piece_unless_empty : ℕ → List ℕ
piece_unless_empty n = cond (n == 0) [] (n ∷ [])

-- taken exactly if there is room
pub record Takes (cost : ℕ) (xs ns : List ℕ) (before after : SinkMeaning) : Type 0 where
  pub room : has_room cost (length xs) (length ns) before ≡ true
  pub taken : after ≡ with_pieces cost xs ns before

-- and else refused, and nothing changes
pub record TurnsAway (cost : ℕ) (xs ns : List ℕ) (before after : SinkMeaning) (f : Fault) : Type 0 where
  pub no_room : has_room cost (length xs) (length ns) before ≡ false
  pub unchanged : after ≡ before
  pub fault : f ≡ fault_of refused.Sink 0 0

abbrev pub SinkAnswer : ℕ → List ℕ → List ℕ → SinkMeaning → SinkMeaning → Result (Unit {0}) Fault → Type 0
SinkAnswer cost xs ns before after (Ok _) = Takes cost xs ns before after
SinkAnswer cost xs ns before after (Err f) = TurnsAway cost xs ns before after f

-- what there is room for is taken whole, with an answer
pub record AllTaken {X : Type 0} (cost : ℕ) (xs ns : List ℕ) (before after : SinkMeaning) (result : Result X Fault) (answer : X) : Type 0 where
  pub answered : result ≡ Ok answer
  pub taken : after ≡ with_pieces cost xs ns before
