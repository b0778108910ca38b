-- Messages whose frames are written one after another.
use Rattle.std.proofs.Common.{◌≡◌, ℕ, ◌+◌, ◌<◌, true, List, [], ◌∷◌, ◌++◌, length, take, drop, sym, ◌∙◌, ap, ap₂, append_assoc, Ok, Result, arith}
use Rattle.std.specs.Prelude.{slice_set}
use Rattle.std.proofs.lemmas.Bool.{and_parts}
use Rattle.std.proofs.lemmas.List.{take_more_set, drop-set-lt, drop-drop, length-set}
use Rattle.columns.specs.declared.message.Message.{Message}
use Rattle.columns.specs.Telling.{Told}
use Rattle.frames.specs.Frames.{FormBytes, header_length, has_headers, frames, frame, pieces, frame_pieces, framed, with_headers}
use Rattle.frames.specs.Headers.{is_header, header_of, over_front}
use Rattle.frames.specs.Sinks.{SinkMeaning, has_room, with_pieces}
use Rattle.frames.proofs.Sinks.{room_first, room_then, taken_twice}

pub ok_same : {X E : Type 0} (x y : X) (r : Result X E) → r ≡ Ok x → r ≡ Ok y → x ≡ y
ok_same x y r e f = cc (e, f)

-- there is room for the frames that are left, and with them all is written
pub record FramesLeft (cost al : ℕ) (form : FormBytes) (o k j : ℕ) (all left : List Told) (first now : List Message) (metadata_first metadata : List ℕ) (sink_first sink : SinkMeaning) : Type 0 where
  pub messages : take j now ++ framed al form k left (drop j now) ≡ framed al form o all first
  pub long : length now ≡ length first
  pub put : with_headers form k left metadata ≡ with_headers form o all metadata_first
  pub headed : has_headers form k left ≡ true
  pub room : has_room cost (length (frames al form k left)) (length (pieces al form k left)) sink ≡ true
  pub taken : with_pieces cost (frames al form k left) (pieces al form k left) sink ≡ with_pieces cost (frames al form o all) (pieces al form o all) sink_first

module _ (cost al : ℕ) (form : FormBytes) (o k j : ℕ) (all : List Told) (t : Told) (ts : List Told) (first now : List Message) (metadata_first metadata : List ℕ) (sink_first sink : SinkMeaning)
    (h : FramesLeft cost al form o k j all (t ∷ ts) first now metadata_first metadata sink_first sink) where
  md : List ℕ
  md = form k t.message

  pub headed_here : is_header (form k t.message) ≡ true
  headed_here = (and_parts (is_header (form k t.message)) (has_headers form (k + 1) ts) h.headed).0

  pub room_here : has_room cost (length (frame al (form k t.message) t)) (length (frame_pieces al (form k t.message) t)) sink ≡ true
  room_here = room_first cost (frame al (form k t.message) t) (frames al form (k + 1) ts) (frame_pieces al (form k t.message) t) (pieces al form (k + 1) ts) sink h.room

  pub after_frame : (m : Message) (rest : List Message) → drop j now ≡ m ∷ rest → j < length now → (metadata_after : List ℕ) → metadata_after ≡ over_front (header_of (form k t.message)) metadata
      → (after : SinkMeaning) → after ≡ with_pieces cost (frame al (form k t.message) t) (frame_pieces al (form k t.message) t) sink
      → FramesLeft cost al form o (k + 1) (j + 1) all ts first (slice_set now j (record m { lengths = (header_length al (length (form k t.message)), m.lengths.1) })) metadata_first metadata_after sink_first after
  after_frame m rest e l metadata_after me after se =
      let both = and_parts (is_header (form k t.message)) (has_headers form (k + 1) ts) h.headed in
      let n : Message = record m { lengths = (header_length al (length (form k t.message)), m.lengths.1) } in
      let tail = sym (drop-drop 1 j now ∙ ap (λ (i : ℕ). drop i now) (omega arith)) ∙ ap (drop 1) e in
      let xs = frame al (form k t.message) t in
      let ns = frame_pieces al (form k t.message) t in
      let ys = frames al form (k + 1) ts in
      let ps = pieces al form (k + 1) ts in
      record {
        messages =
            ap₂ (λ (xs ys : List Message). xs ++ framed al form (k + 1) ts ys) (take_more_set now j n l) (drop-set-lt (j + 1) now j n (omega arith) ∙ tail)
            ∙ append_assoc (take j now) (n ∷ []) (framed al form (k + 1) ts rest)
            ∙ sym (ap (λ (bs : List Message). take j now ++ framed al form k (t ∷ ts) bs) e)
            ∙ h.messages;
        long = length-set now j n ∙ h.long;
        put = ap (with_headers form (k + 1) ts) me ∙ h.put;
        headed = both.1;
        room = ap (has_room cost (length ys) (length ps)) se ∙ room_then cost xs ys ns ps sink h.room;
        taken = ap (with_pieces cost ys ps) se ∙ taken_twice cost xs ys ns ps sink ∙ h.taken;
      }
