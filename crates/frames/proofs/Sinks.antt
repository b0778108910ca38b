-- What is taken, step by step.
use Rattle.std.proofs.Common.{◌≡◌, ℕ, ◌+◌, ◌-◌, ◌*◌, ◌≤◌, true, List, ◌++◌, length, subst, ◌∙◌, ap, refl, append_assoc, length-append, mul-add, arith}
use Rattle.std.proofs.lemmas.Bool.{and_parts, and_from, leb-true, le-leb}
use Rattle.std.specs.Prelude.{Result, Ok, Err, Option, Some, None, nat_le}
use Rattle.layout.specs.declared.fault.Fault.{Fault}
use Rattle.frames.specs.Sinks.{SinkMeaning, SinkAnswer, AllTaken, has_room, with_pieces, lengths_with}

-- what goes out is known by another name
pub answer_along : (cost : ℕ) (xs ys ns ms : List ℕ) (before after : SinkMeaning) (r : Result (Unit {0}) Fault) → xs ≡ ys → ns ≡ ms
    → SinkAnswer cost xs ns before after r → SinkAnswer cost ys ms before after r
answer_along cost xs ys ns ms before after r e f h =
    let P : List ℕ → Type 0 = λ zs. SinkAnswer cost zs ms before after r in
    let Q : List ℕ → Type 0 = λ zs. SinkAnswer cost xs zs before after r in
    subst P e (subst Q f h)

-- where there is room, it is taken
pub must_take : (cost : ℕ) (xs ns : List ℕ) (before after : SinkMeaning) (r : Result (Unit {0}) Fault) → has_room cost (length xs) (length ns) before ≡ true
    → SinkAnswer cost xs ns before after r → AllTaken cost xs ns before after r tt
must_take cost xs ns before after (Ok tt) room h = record { answered = refl; taken = h.taken }
must_take cost xs ns before after (Err f) room h = let no = h.no_room in cc (room, no)

-- ---- room

pub room_holds : (cost bytes pieces : ℕ) (m : SinkMeaning) → has_room cost bytes pieces m ≡ true → (bytes ≤ m.bytes) × (cost * pieces ≤ m.pieces)
room_holds cost bytes pieces m h =
    let two = and_parts (nat_le bytes m.bytes) (nat_le (cost * pieces) m.pieces) h in
    (leb-true bytes m.bytes two.0, leb-true (cost * pieces) m.pieces two.1)

pub room_from : (cost bytes pieces : ℕ) (m : SinkMeaning) → bytes ≤ m.bytes → cost * pieces ≤ m.pieces → has_room cost bytes pieces m ≡ true
room_from cost bytes pieces m b p =
    and_from (nat_le bytes m.bytes) (nat_le (cost * pieces) m.pieces) (le-leb bytes m.bytes b) (le-leb (cost * pieces) m.pieces p)

-- ---- one after another

pub lengths_twice : (ls : Option (List ℕ)) (ns ms : List ℕ) → lengths_with (lengths_with ls ns) ms ≡ lengths_with ls (ns ++ ms)
lengths_twice None ns ms = refl
lengths_twice (Some ls) ns ms = ap Some (append_assoc ls ns ms)

module _ (cost : ℕ) (xs ys ns ms : List ℕ) (m : SinkMeaning) where
  bytes_of_both : length (xs ++ ys) ≡ length xs + length ys
  bytes_of_both = length-append xs ys

  pieces_of_both : cost * length (ns ++ ms) ≡ cost * length ns + cost * length ms
  pieces_of_both = ap (λ (n : ℕ). cost * n) (length-append ns ms) ∙ mul-add cost (length ns) (length ms)

  pub taken_twice : with_pieces cost ys ms (with_pieces cost xs ns m) ≡ with_pieces cost (xs ++ ys) (ns ++ ms) m
  taken_twice =
      let held = append_assoc m.held xs ys in
      let bytes : m.bytes - length xs - length ys ≡ m.bytes - length (xs ++ ys) = omega (arith, bytes_of_both) in
      let pieces : m.pieces - cost * length ns - cost * length ms ≡ m.pieces - cost * length (ns ++ ms) = omega (arith, pieces_of_both) in
      let lengths = lengths_twice m.lengths ns ms in
      rw (held, bytes, pieces, lengths)

  pub room_first : has_room cost (length (xs ++ ys)) (length (ns ++ ms)) m ≡ true → has_room cost (length xs) (length ns) m ≡ true
  room_first h =
      let room = room_holds cost (length (xs ++ ys)) (length (ns ++ ms)) m h in
      room_from cost (length xs) (length ns) m (omega (arith, room.0, bytes_of_both)) (omega (arith, room.1, pieces_of_both))

  pub room_then : has_room cost (length (xs ++ ys)) (length (ns ++ ms)) m ≡ true
      → has_room cost (length ys) (length ms) (with_pieces cost xs ns m) ≡ true
  room_then h =
      let room = room_holds cost (length (xs ++ ys)) (length (ns ++ ms)) m h in
      room_from cost (length ys) (length ms) (with_pieces cost xs ns m) (omega (arith, room.0, bytes_of_both)) (omega (arith, room.1, pieces_of_both))

  -- both are taken, where there is room for both
  pub both_taken : {X : Type 0} (a : X) (middle after : SinkMeaning) (one : Result (Unit {0}) Fault) (two : Result X Fault)
      → has_room cost (length (xs ++ ys)) (length (ns ++ ms)) m ≡ true
      → SinkAnswer cost xs ns m middle one
      → (has_room cost (length ys) (length ms) middle ≡ true → AllTaken cost ys ms middle after two a)
      → (one ≡ Ok tt) × AllTaken cost (xs ++ ys) (ns ++ ms) m after two a
  both_taken a middle after one two room h later =
      let first = must_take cost xs ns m middle one (room_first room) h in
      let left : has_room cost (length ys) (length ms) middle ≡ true =
      ap (has_room cost (length ys) (length ms)) first.taken ∙ room_then room in
      let then = later left in
      (first.answered, record { answered = then.answered; taken = then.taken ∙ ap (with_pieces cost ys ms) first.taken ∙ taken_twice })
