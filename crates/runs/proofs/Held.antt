-- What a run leaves in the sink.
use Rattle.std.proofs.Common.{◌≡◌, ℕ, ◌+◌, ◌*◌, true, List, [], ◌∷◌, ◌++◌, length, sym, refl, ap, ◌∙◌, append-nil, append_assoc, length-append, mul-add, Some, None, Option, arith}
use Rattle.frames.specs.Frames.{end_mark, frames, pieces}
use Rattle.frames.specs.Sinks.{SinkMeaning, has_room, with_pieces, lengths_with}
use Rattle.frames.proofs.Sinks.{room_holds, lengths_twice}
use Rattle.dictionaries.specs.Collecting.{met_columns}
use Rattle.runs.specs.Calls.{Call, Setting, alignment}
use Rattle.runs.specs.Looks.{Recorded}
use Rattle.runs.specs.Turns.{State, Turn, new_stream, all_sends, turn}
use Rattle.runs.specs.Runs.{Run, turns_from, last}
use Rattle.runs.specs.Laws.{all_frames, all_pieces, Held}
use Rattle.runs.proofs.Went.{told_of, Went, went}
use Rattle.runs.proofs.Went.Went.{stays, numbers, clears, ends, goes}

-- a sink with more in it: these bytes, in pieces of these lengths
pub record Grew (cost : ℕ) (xs ns : List ℕ) (before after : SinkMeaning) : Type 0 where
  pub held : after.held ≡ before.held ++ xs
  pub bytes : after.bytes + length xs ≡ before.bytes
  pub pieces : after.pieces + cost * length ns ≡ before.pieces
  pub lengths : after.lengths ≡ lengths_with before.lengths ns

lengths_none : (ls : Option (List ℕ)) → lengths_with ls [] ≡ ls
lengths_none None = refl
lengths_none (Some ls) = ap Some (append-nil ls)

grew_none : (cost : ℕ) (m : SinkMeaning) → Grew cost [] [] m m
grew_none cost m = record { held = sym (append-nil m.held); bytes = omega arith; pieces = omega arith; lengths = sym (lengths_none m.lengths) }

grew_taken : (cost : ℕ) (xs ns : List ℕ) (m : SinkMeaning) → has_room cost (length xs) (length ns) m ≡ true → Grew cost xs ns m (with_pieces cost xs ns m)
grew_taken cost xs ns m h =
    let room = room_holds cost (length xs) (length ns) m h in
    record { held = refl; bytes = omega (arith, room.0); pieces = omega (arith, room.1); lengths = refl }

grew_twice : (cost : ℕ) (xs ys ns ks : List ℕ) (a b c : SinkMeaning) → Grew cost xs ns a b → Grew cost ys ks b c → Grew cost (xs ++ ys) (ns ++ ks) a c
grew_twice cost xs ys ns ks a b c g h =
    let pieces = ap (λ (n : ℕ). cost * n) (length-append ns ks) ∙ mul-add cost (length ns) (length ks) in
    record {
      held = h.held ∙ ap (λ (x : List ℕ). x ++ ys) g.held ∙ append_assoc a.held xs ys;
      bytes = omega (arith, g.bytes, h.bytes, length-append xs ys);
      pieces = omega (arith, g.pieces, h.pieces, pieces);
      lengths = h.lengths ∙ ap (λ l. lengths_with l ks) g.lengths ∙ lengths_twice a.lengths ns ks;
    }

module _ (e : Setting) (r : Recorded) where
  grew_went : {s : State} {c : Call} {t : Turn} → Went e r s c t → Grew e.cost t.frames t.pieces s.sink t.next.sink
  grew_went {s} (stays w f b) = grew_none e.cost s.sink
  grew_went {s} (numbers h) = grew_none e.cost s.sink
  grew_went {s} clears = grew_none e.cost s.sink
  grew_went {s} (ends h) = grew_taken e.cost end_mark (8 ∷ []) s.sink h
  grew_went {s} (goes first columns rows lent ss later us l q g) =
      let ts = told_of e (all_sends later (met_columns 0 ss) us rows ss) in
      grew_taken e.cost (frames (alignment e) e.form s.messages ts) (pieces (alignment e) e.form s.messages ts) s.sink g.room

  pub grew : (c : Call) (s : State) → Grew e.cost (turn e r c s).frames (turn e r c s).pieces s.sink (turn e r c s).next.sink
  grew c s = grew_went (went e r s c)

  pub grew_run : (cs : List Call) (s : State) → Grew e.cost (all_frames (turns_from e r cs s)) (all_pieces (turns_from e r cs s)) s.sink (last s (turns_from e r cs s)).sink
  grew_run [] s = grew_none e.cost s.sink
  grew_run (c ∷ cs) s =
      let t = turn e r c s in
      let ts = turns_from e r cs t.next in
      grew_twice e.cost t.frames (all_frames ts) t.pieces (all_pieces ts) s.sink t.next.sink (last t.next ts).sink (grew c s) (grew_run cs t.next)

pub held : (i : Run) → Held i
held i =
    let g = grew_run i.setting i.recorded i.calls (new_stream i.sink) in
    record { held = g.held; bytes = g.bytes; pieces = g.pieces; lengths = g.lengths }
