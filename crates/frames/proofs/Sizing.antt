-- Messages whose frames are counted one after another.
use Rattle.std.proofs.Common.{◌≡◌, ℕ, zero, suc, ◌+◌, ◌-◌, ◌<◌, Bool, true, false, cond, ◌&&◌, List, [], ◌∷◌, ◌++◌, length, drop, get_or, sym, ◌∙◌, ap, ap₂, refl, length-append, Option, Some, None, arith}
use Rattle.std.proofs.lemmas.List.{length-replicate}
use Rattle.std.proofs.lemmas.Option.{none-some}
use Rattle.layout.specs.Messages.{body, padding}
use Rattle.columns.specs.declared.message.Message.{Message}
use Rattle.columns.specs.declared.message.MessageKind.TheVariants.{Batch}
use Rattle.columns.specs.Telling.{Told}
use Rattle.frames.specs.declared.room.Room.{Room}
use Rattle.frames.specs.Frames.{FormBytes, zeros, prefix, header, header_length, has_headers, frames, frame, pieces, frame_pieces}
use Rattle.frames.specs.Headers.{is_header, size_of}
use Rattle.frames.specs.Sinks.{room_after, then_after}
use Rattle.frames.proofs.Rooms.{after_both}

-- what a read past the last would give
abbrev pub no_message : Message
no_message = record { kind = Batch; id = 0; rows = 0; fields = 0; buffers = 0; lengths = (0, 0) }

pub next_message : (j : ℕ) (ms : List Message) (d : Message) → j < length ms → drop j ms ≡ get_or ms j d ∷ drop (j + 1) ms
next_message j [] d l = absurd (omega arith)
next_message zero (m ∷ ms) d l = refl
next_message (suc j) (m ∷ ms) d l =
    let after : suc (j + 1) ≡ suc j + 1 = omega arith in
    next_message j ms d (omega arith) ∙ ap (λ (k : ℕ). get_or ms j d ∷ drop k (m ∷ ms)) after

then_both : (cost b c p q : ℕ) (r : Option Room) → then_after cost c q (then_after cost b p r) ≡ then_after cost (b + c) (p + q) r
then_both cost b c p q None = refl
then_both cost b c p q (Some r) = after_both cost b c p q r

-- what is left of the messages tells whether each has a header, and what is free after all
pub record CountLeft (cost al : ℕ) (form : FormBytes) (o k : ℕ) (all left : List Told) (first : Room) (now : Option Room) : Type 0 where
  pub headers : has_headers form k left ≡ has_headers form o all
  pub room : then_after cost (length (frames al form k left)) (length (pieces al form k left)) now ≡ room_after cost (length (frames al form o all)) (length (pieces al form o all)) first

module _ (cost al : ℕ) (form : FormBytes) (o k : ℕ) (all : List Told) (t : Told) (ts : List Told) (first : Room) (now : Option Room) (h : CountLeft cost al form o k all (t ∷ ts) first now) where
  pub without_header : is_header (form k t.message) ≡ false → has_headers form o all ≡ false
  without_header e = sym h.headers ∙ ap (λ (b : Bool). b && has_headers form (k + 1) ts) e

  pub with_header : is_header (form k t.message) ≡ true → (after : Option Room)
      → after ≡ then_after cost (length (frame al (form k t.message) t)) (length (frame_pieces al (form k t.message) t)) now
      → CountLeft cost al form o (k + 1) all ts first after
  with_header e after room =
      let md = form k t.message in
      let bytes = length-append (frame al md t) (frames al form (k + 1) ts) in
      let count = length-append (frame_pieces al md t) (pieces al form (k + 1) ts) in
      record {
        headers = sym (ap (λ (b : Bool). b && has_headers form (k + 1) ts) e) ∙ h.headers;
        room = ap (then_after cost (length (frames al form (k + 1) ts)) (length (pieces al form (k + 1) ts))) room
            ∙ then_both cost (length (frame al md t)) (length (frames al form (k + 1) ts)) (length (frame_pieces al md t)) (length (pieces al form (k + 1) ts)) now
            ∙ sym (ap₂ (λ (x y : ℕ). then_after cost x y now) bytes count)
            ∙ h.room;
      }

-- ---- one message

pub sized : (bs : List ℕ) (n : ℕ) → size_of bs ≡ Some n → (is_header bs ≡ true) × (n ≡ length bs)
sized bs n e = by (is_header bs) refl
  where
    by : (b : Bool) → is_header bs ≡ b → (is_header bs ≡ true) × (n ≡ length bs)
    by true h = let s = sym e ∙ ap (λ (b : Bool). cond b (Some (length bs)) None) h in (h, cc s)
    by false h = let s = sym e ∙ ap (λ (b : Bool). cond b (Some (length bs)) None) h in absurd (none-some n (sym s))

pub length-header : (al : ℕ) (md : List ℕ) → length (header al md) ≡ header_length al (length md)
length-header al md =
    let a = length-append (prefix (header_length al (length md) - 8)) (md ++ zeros (padding al (8 + length md))) in
    let b = length-append md (zeros (padding al (8 + length md))) in
    let c = length-replicate {A = ℕ} (padding al (8 + length md)) 0 in
    omega (arith, a, b, c)

pub length-frame : (al : ℕ) (md : List ℕ) (t : Told) → length (frame al md t) ≡ header_length al (length md) + length (body al t.buffers)
length-frame al md t = length-append (header al md) (body al t.buffers) ∙ ap (λ (n : ℕ). n + length (body al t.buffers)) (length-header al md)
