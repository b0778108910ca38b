-- What is free after one thing and another.
use Rattle.std.proofs.Common.{◌≡◌, ℕ, zero, suc, ◌+◌, ◌-◌, ◌*◌, ◌≤◌, List, ◌∷◌, ◌++◌, length, sym, ◌∙◌, ap, ap₂, refl, length-append, mul-add, Option, Some, None, inl, inr, arith}
use Rattle.std.proofs.lemmas.List.{length-replicate}
use Rattle.std.proofs.lemmas.Bool.{le-leb, lt-leb, lt-ltb, ne_eqb}
use Rattle.std.proofs.lemmas.Bool.Decides.{leb_tells}
use Rattle.std.proofs.Math.Bool.{and-false}
use mir.Val.{bool_byte}
use Rattle.std.specs.Prelude.{nat_le, nat_lt}
use Rattle.layout.specs.Lists.{lengths}
use Rattle.layout.specs.Messages.{body, padding}
use Rattle.frames.specs.declared.room.Room.{Room}
use Rattle.frames.specs.Frames.{zeros, header_length, header_pieces, body_pieces}
use Rattle.frames.specs.Sinks.{room_after, then_after, piece_unless_empty}

le_shift : (a c n : ℕ) → a ≤ n → nat_le c (n - a) ≡ nat_le (a + c) n
le_shift a c n l =
    elim (leb_tells c (n - a)) [
      | inl t ↦ t.0 ∙ sym (le-leb (a + c) n (omega (arith, t.1, l)))
      | inr t ↦ t.0 ∙ sym (lt-leb (a + c) n (omega (arith, t.1, l)))
    ]

-- after both is after the one and then the other
pub after_both : (cost b c p q : ℕ) (r : Room) → then_after cost c q (room_after cost b p r) ≡ room_after cost (b + c) (p + q) r
after_both cost b c p q r =
    let all : cost * p + cost * q ≡ cost * (p + q) = sym (mul-add cost p q) in
    elim (leb_tells b r.bytes) [
      | inr t ↦ rw (t.0, lt-leb (b + c) r.bytes (omega (arith, t.1))) refl
      | inl t ↦
          elim (leb_tells (cost * p) r.pieces) [
            | inr u ↦ rw (t.0, u.0, lt-leb (cost * (p + q)) r.pieces (omega (arith, u.1, all)), and-false (nat_le (b + c) r.bytes)) refl
            | inl u ↦
                let bytes : r.bytes - b - c ≡ r.bytes - (b + c) = omega arith in
                let pieces : r.pieces - cost * p - cost * q ≡ r.pieces - cost * (p + q) = omega (arith, all) in
                rw (t.0, u.0) (rw (le_shift b c r.bytes t.1, le_shift (cost * p) (cost * q) r.pieces u.1, all, bytes, pieces) refl)
          ]
    ]

-- there is room for what is left exactly if there was for all
pub record RoomLeft (cost al : ℕ) (all left : List (List ℕ)) (first now : Room) : Type 0 where
  pub same : room_after cost (length (body al left)) (length (body_pieces al (lengths left))) now ≡ room_after cost (length (body al all)) (length (body_pieces al (lengths all))) first

module _ (cost al : ℕ) (all : List (List ℕ)) (b : List ℕ) (bs : List (List ℕ)) (first now : Room) (h : RoomLeft cost al all (b ∷ bs) first now) where
  after_next : then_after cost (length (body al bs)) (length (body_pieces al (lengths bs))) (room_after cost (length b + padding al (length b)) (length (length b ∷ piece_unless_empty (padding al (length b)))) now)
      ≡ room_after cost (length (body al all)) (length (body_pieces al (lengths all))) first
  after_next =
      let long : length b + padding al (length b) + length (body al bs) ≡ length (body al (b ∷ bs)) =
      omega (arith, length-append (b ++ zeros (padding al (length b))) (body al bs), length-append b (zeros (padding al (length b))), length-replicate {A = ℕ} (padding al (length b)) 0) in
      let many : length (length b ∷ piece_unless_empty (padding al (length b))) + length (body_pieces al (lengths bs)) ≡ length (body_pieces al (lengths (b ∷ bs))) =
      sym (length-append (length b ∷ piece_unless_empty (padding al (length b))) (body_pieces al (lengths bs))) in
      after_both cost _ _ _ _ now ∙ ap₂ (λ (x y : ℕ). room_after cost x y now) long many ∙ h.same

  pub room_next : (r : Room) → room_after cost (length b + padding al (length b)) (length (length b ∷ piece_unless_empty (padding al (length b)))) now ≡ Some r → RoomLeft cost al all bs first r
  room_next r e = record { same = sym (ap (then_after cost (length (body al bs)) (length (body_pieces al (lengths bs)))) e) ∙ after_next }

  pub no_room_next : room_after cost (length b + padding al (length b)) (length (length b ∷ piece_unless_empty (padding al (length b)))) now ≡ None
      → room_after cost (length (body al all)) (length (body_pieces al (lengths all))) first ≡ None
  no_room_next e = sym after_next ∙ ap (then_after cost (length (body al bs)) (length (body_pieces al (lengths bs)))) e

-- ---- a header

counted : (n : ℕ) → bool_byte (nat_lt 0 n) ≡ length (piece_unless_empty n)
counted zero = refl
counted (suc n) = rw (lt-ltb 0 (suc n) (omega arith), ne_eqb (suc n) 0 (λ e. absurd (omega (arith, e)))) refl

-- what is left after a header, and then after what follows
pub after_header : (cost al n long many a b : ℕ) (bs : List (List ℕ)) (room : Room) (r : Option Room)
    → long ≡ header_length al n → a ≡ bool_byte (nat_lt 0 n) → b ≡ bool_byte (nat_lt 0 (padding al (8 + n))) → many ≡ 1 + a + b
    → r ≡ room_after cost long many room
    → then_after cost (length (body al bs)) (length (body_pieces al (lengths bs))) r
    ≡ room_after cost (header_length al n + length (body al bs)) (length (header_pieces al n ++ body_pieces al (lengths bs))) room
after_header cost al n long many a b bs room r l ea eb m e =
    let parts = length-append (piece_unless_empty n) (piece_unless_empty (padding al (8 + n))) in
    let count : many ≡ length (header_pieces al n) = omega (arith, m, ea ∙ counted n, eb ∙ counted (padding al (8 + n)), parts) in
    let all : many + length (body_pieces al (lengths bs)) ≡ length (header_pieces al n ++ body_pieces al (lengths bs)) =
    ap (λ (k : ℕ). k + length (body_pieces al (lengths bs))) count ∙ sym (length-append (header_pieces al n) (body_pieces al (lengths bs))) in
    ap (then_after cost (length (body al bs)) (length (body_pieces al (lengths bs)))) e
    ∙ after_both cost long (length (body al bs)) many (length (body_pieces al (lengths bs))) room
    ∙ ap₂ (λ (x y : ℕ). room_after cost x y room) (ap (λ (k : ℕ). k + length (body al bs)) l) all
