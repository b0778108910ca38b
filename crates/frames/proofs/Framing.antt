-- Buffers that go out one after another.
use Rattle.std.proofs.Common.{◌≡◌, ℕ, zero, suc, ◌+◌, ◌-◌, ◌*◌, ◌<◌, true, List, [], ◌∷◌, ◌++◌, length, drop, get_or, sym, ◌∙◌, ap, refl, append-nil, pos, Option, Some, None, arith}
use Rattle.columns.specs.Telling.{bytes_named}
use Rattle.layout.specs.Lists.{lengths}
use Rattle.layout.specs.Messages.{body, padding}
use Rattle.columns.specs.declared.reader.Sources.{Sources}
use Rattle.columns.specs.declared.record.BufferEntry.{BufferEntry}
use Rattle.columns.specs.declared.record.EncodedBuffer.TheVariants.{Recording}
use Rattle.frames.specs.Frames.{zeros, body_pieces, named}
use Rattle.frames.specs.Sinks.{SinkMeaning, has_room, with_pieces, lengths_with, piece_unless_empty}
use Rattle.frames.proofs.Sinks.{room_first, room_then, taken_twice}

abbrev pub blank : BufferEntry
blank = record { buffer = record { offset = pos 0; length = pos 0 }; source = Recording 0 }

-- and the memories that a sink writes to are the same
pub record Kept (P : Type 0) (before after : List ℕ) : Type 0 where
  pub left : P
  pub memories : after ≡ before

-- there is room for these buffers, and with them all are taken
pub record BuffersLeft (cost al : ℕ) (all left : List (List ℕ)) (first now : SinkMeaning) : Type 0 where
  pub room : has_room cost (length (body al left)) (length (body_pieces al (lengths left))) now ≡ true
  pub whole : with_pieces cost (body al left) (body_pieces al (lengths left)) now ≡ with_pieces cost (body al all) (body_pieces al (lengths all)) first

lengths_none : (ls : Option (List ℕ)) → lengths_with ls [] ≡ ls
lengths_none None = refl
lengths_none (Some ls) = ap Some (append-nil ls)

module _ (cost al : ℕ) (all : List (List ℕ)) (b : List ℕ) (bs : List (List ℕ)) (first now : SinkMeaning) (h : BuffersLeft cost al all (b ∷ bs) first now) where
  pub room_for_buffer : has_room cost (length (b ++ zeros (padding al (length b)))) (length (length b ∷ piece_unless_empty (padding al (length b)))) now ≡ true
  room_for_buffer = room_first cost (b ++ zeros (padding al (length b))) (body al bs) (length b ∷ piece_unless_empty (padding al (length b))) (body_pieces al (lengths bs)) now h.room

  pub after_buffer : (after : SinkMeaning) → after ≡ with_pieces cost (b ++ zeros (padding al (length b))) (length b ∷ piece_unless_empty (padding al (length b))) now
      → BuffersLeft cost al all bs first after
  after_buffer after e =
      let xs = b ++ zeros (padding al (length b)) in
      let ns = length b ∷ piece_unless_empty (padding al (length b)) in
      record {
        room = ap (has_room cost (length (body al bs)) (length (body_pieces al (lengths bs)))) e ∙ room_then cost xs (body al bs) ns (body_pieces al (lengths bs)) now h.room;
        whole = ap (with_pieces cost (body al bs) (body_pieces al (lengths bs))) e ∙ taken_twice cost xs (body al bs) ns (body_pieces al (lengths bs)) now ∙ h.whole;
      }

pub taken_none : (cost : ℕ) (m : SinkMeaning) → with_pieces cost [] [] m ≡ m
taken_none cost m =
    let held = append-nil m.held in
    let bytes : m.bytes - length {A = ℕ} [] ≡ m.bytes = omega arith in
    let pieces : m.pieces - cost * length {A = ℕ} [] ≡ m.pieces = omega arith in
    let lengths = lengths_none m.lengths in
    rw (held, bytes, pieces, lengths)

-- no buffer is left
pub all_taken : (cost al : ℕ) (all : List (List ℕ)) (first now : SinkMeaning) → BuffersLeft cost al all [] first now
    → now ≡ with_pieces cost (body al all) (body_pieces al (lengths all)) first
all_taken cost al all first now h = sym (taken_none cost now) ∙ h.whole

-- the first that is left
pub named_next : (s : Sources) (i : ℕ) (es : List BufferEntry) (d : BufferEntry) → i < length es
    → named s (drop i es) ≡ bytes_named s.recording.now s.work.now (get_or es i d) ∷ named s (drop (i + 1) es)
named_next s i [] d l = absurd (omega arith)
named_next s zero (e ∷ es) d l = refl
named_next s (suc i) (e ∷ es) d l =
    let after : suc (i + 1) ≡ suc i + 1 = omega arith in
    named_next s i es d (omega arith) ∙ ap (λ (k : ℕ). bytes_named s.recording.now s.work.now (get_or es i d) ∷ named s (drop k (e ∷ es))) after
