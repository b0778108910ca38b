-- What holds of every run.
use Rattle.std.specs.Prelude.{◌≡◌, ℕ, ◌+◌, ◌*◌, List, [], ◌∷◌, ◌++◌, map, length}
use Rattle.layout.specs.declared.fault.Fault.{Fault}
use Rattle.layout.specs.declared.fault.Refusal.TheVariants as fault
use Rattle.layout.specs.Messages as sent
use Rattle.layout.specs.Opening.{Kept}
use Rattle.frames.specs.Headers.{header_of}
use Rattle.frames.specs.Sinks.{SinkMeaning, lengths_with}
use Rattle.runs.specs.Calls.{Call, Entry, Setting, numbers, nothing}
use Rattle.runs.specs.Calls.Answer.{refused}
use Rattle.runs.specs.Looks.{Recorded}
use Rattle.runs.specs.Turns.{State, Turn, turn}
use Rattle.runs.specs.Runs.{Run, turns, shown_along, state_after, answers, all_written}
use Rattle.runs.specs.Readers.{schema_of, new_reader, rebuilt_from, accepted_rows}

abbrev pub all_frames : List Turn → List ℕ
all_frames [] = []
all_frames (t ∷ ts) = t.frames ++ all_frames ts

abbrev pub all_pieces : List Turn → List ℕ
all_pieces [] = []
all_pieces (t ∷ ts) = t.pieces ++ all_pieces ts

-- The sink holds what it held at first, then the frames of each accepted batch and finish in call order, and no further byte; what is free
-- falls by as much.
pub record Held (i : Run) : Type 0 where
  pub held : (state_after i).sink.held ≡ i.sink.held ++ all_frames (turns i)
  pub bytes : (state_after i).sink.bytes + length (all_frames (turns i)) ≡ i.sink.bytes
  pub pieces : (state_after i).sink.pieces + i.setting.cost * length (all_pieces (turns i)) ≡ i.sink.pieces
  pub lengths : (state_after i).sink.lengths ≡ lengths_with i.sink.lengths (all_pieces (turns i))

abbrev pub NoLengths : List Entry → Type 0
NoLengths [] = Unit {0}
NoLengths (x ∷ xs) = (x.lengths.header ≡ 0) × NoLengths xs

-- A refusal leaves stream and sink as they were, and the memories too, except that 16 and 17 leave the plan, header lengths 0, in the first
-- four.
pub record Stays (f : Fault) (s : State) (t : Turn) : Type 0 where
  pub next : t.next ≡ s
  pub frames : t.frames ≡ []
  pub pieces : t.pieces ≡ []
  pub written : (f.refusal ≡ fault.Header → ⊥) → (f.refusal ≡ fault.Sink → ⊥) → t.written ≡ nothing
  pub headers : t.written.headers ≡ []
  pub updates : t.written.updates ≡ []
  pub lengths : NoLengths t.written.messages

-- sinks that hold the same and take as much more; the lengths of earlier pieces, where a sink keeps them, do not count
pub record SameSink (m n : SinkMeaning) : Type 0 where
  pub held : m.held ≡ n.held
  pub bytes : m.bytes ≡ n.bytes
  pub pieces : m.pieces ≡ n.pieces

-- Runs are alike when these agree: options, calls and their numbers apart from first nodes, lengths of the lent memories, the form's meaning,
-- the sink's meaning at first and its piece cost, and what each batch shows.
pub record Alike (i j : Run) : Type 0 where
  pub options : i.setting.options ≡ j.setting.options
  pub calls : map numbers i.calls ≡ map numbers j.calls
  pub form : (o : ℕ) (m : sent.Message) → header_of (i.setting.form o m) ≡ header_of (j.setting.form o m)
  pub cost : i.setting.cost ≡ j.setting.cost
  pub sink : SameSink i.sink j.sink
  pub shown : shown_along i ≡ shown_along j

-- compared are the answers with their updates and descriptions, what each call writes, and the sink
pub record Agree (i j : Run) : Type 0 where
  pub answers : answers (turns i) ≡ answers (turns j)
  pub written : all_written (turns i) ≡ all_written (turns j)
  pub sink : SameSink (state_after i).sink (state_after j).sink
  pub pieces : all_pieces (turns i) ≡ all_pieces (turns j)

-- Each accepted batch, rebuilt by the Arrow rules from the messages up to its own, has exactly the rows and values that the recording has
-- there; the bodies are cut from the sink's bytes by the answers' lengths.
abbrev pub ReadsBack : Run → Type 0
ReadsBack i =
    rebuilt_from (state_after i).sink.held (map (schema_of i.recorded) i.calls) (answers (turns i)) (new_reader (length i.sink.held))
    ≡ accepted_rows i.recorded i.calls (answers (turns i))

pub record Promise : Type 0 where
  pub held : (i : Run) → Held i
  pub stays : (e : Setting) (r : Recorded) (c : Call) (s : State) (f : Fault) → (turn e r c s).answer ≡ refused f → Stays f s (turn e r c s)
  pub alike : (i j : Run) → Alike i j → Agree i j
  pub rebuilt : (i : Run) → Kept i.recorded.nodes i.recorded.bytes → ReadsBack i
