-- Calls in code by what they mean, and what a list of them comes to.
use Rattle.std.specs.Prelude.{◌≡◌, ℕ, min, List, [], ◌∷◌, take, length}
use Rattle.layout.specs.declared.fault.Fault.{Fault}
use Rattle.layout.specs.Messages as sent
use Rattle.dictionaries.specs.declared.update.DictionaryUpdate.{DictionaryUpdate}
use Rattle.columns.specs.declared.memory.Memory.{Memory}
use Rattle.frames.specs.Sinks.{SinkMeaning}
use Rattle.runs.specs.Calls as calls
use Rattle.runs.specs.Calls.{Lengths, Setting}
use Rattle.runs.specs.Laws.{Held, Stays, Alike, Agree, ReadsBack}
use Rattle.runs.specs.Layers.{lent_by}
use Rattle.runs.specs.Looks.{Recorded}
use Rattle.runs.specs.Runs.{Run, turns, state_after}
use Rattle.runs.specs.Turns.{State, Turn, turn}
use Rattle.stream.specs.declared.calls.Answer.{Answer}
use Rattle.stream.specs.declared.calls.Answer.TheVariants.{Refused, Given, Accepted, Cleared, Finished}
use Rattle.stream.specs.declared.calls.Call.{Call}
use Rattle.stream.specs.declared.calls.Call.TheVariants.{NextDictId, Batch, Clear, Finish}
use Rattle.stream.specs.Batches.{Counts, Leaves}

-- a call, with the memory that it is lent
abbrev pub call_of : Call → Memory → calls.Call
call_of NextDictId m = calls.Call.next_id
call_of (Batch b) m = calls.Call.batch b.first b.columns b.rows (lent_by m)
call_of Clear m = calls.Call.clear
call_of Finish m = calls.Call.finish

-- what it answers
abbrev pub AnswersBy : calls.Answer → Answer → Type 0
AnswersBy a (Refused f) = a ≡ calls.Answer.refused f
AnswersBy a (Given id) = a ≡ calls.Answer.given id
AnswersBy a (Accepted x) = (us : List DictionaryUpdate) × (ms : List sent.Message) × (ls : List Lengths) × (a ≡ calls.Answer.accepted us ms ls) × Counts x us ms
AnswersBy a Cleared = a ≡ calls.Answer.cleared
AnswersBy a Finished = a ≡ calls.Answer.finished

-- the answer, the state after it, and what it leaves in the memory that it is lent
pub record CallTook (t : Turn) (r : Answer) (next : State) (before after : Memory) (updates_before updates_after : List DictionaryUpdate) : Type 0 where
  pub answer : AnswersBy t.answer r
  pub state : next ≡ t.next
  pub leaves : Leaves t.written before after updates_before updates_after

-- ---- a list of calls

abbrev pub calls_of : List Call → List Memory → List calls.Call
calls_of [] ms = []
calls_of (c ∷ cs) [] = []
calls_of (c ∷ cs) (m ∷ ms) = call_of c m ∷ calls_of cs ms

-- each answers and leaves what its turn says; what is there for no call stays as it was
abbrev pub EachTook : List Turn → List Answer → List Answer → List Memory → List Memory → List (List DictionaryUpdate) → List (List DictionaryUpdate) → Type 0
EachTook [] answers after ms ns us vs = (after ≡ answers) × (ns ≡ ms) × (vs ≡ us)
EachTook (t ∷ ts) (a ∷ answers) (b ∷ after) (m ∷ ms) (n ∷ ns) (u ∷ us) (v ∷ vs) = AnswersBy t.answer b × Leaves t.written m n u v × EachTook ts answers after ms ns us vs
EachTook (t ∷ ts) answers after ms ns us vs = ⊥

-- a call is made where there is a memory, and places for its updates and its answer
abbrev pub calls_made : List Call → List Memory → List (List DictionaryUpdate) → List Answer → ℕ
calls_made cs ms us ws = min (min (min (length cs) (length ms)) (length us)) (length ws)

abbrev pub run_of : Setting → Recorded → List Call → List Memory → ℕ → SinkMeaning → Run
run_of e r cs ms n m = record { setting = e; recorded = r; calls = calls_of (take n cs) (take n ms); sink = m }

-- what calls to a new stream came to
pub record Ran (i : Run) (final : State) (answers_before answers : List Answer) (before after : List Memory) (updates_before updates : List (List DictionaryUpdate)) : Type 0 where
  -- each call answers and leaves what the definitions say, at the state that the earlier ones left
  pub took : EachTook (turns i) answers_before answers before after updates_before updates
  pub state : final ≡ state_after i
  -- the sink holds what it held at first, then the frames of each accepted batch and finish in call order, and no further byte
  pub held : Held i
  -- a refusal leaves all as it was, except that 16 and 17 leave the plan
  pub stays : (c : calls.Call) (s : State) (f : Fault) → (turn i.setting i.recorded c s).answer ≡ calls.Answer.refused f → Stays f s (turn i.setting i.recorded c s)
  -- runs that are alike, over any recordings, agree
  pub alike : (j : Run) → Alike i j → Agree i j
  -- each accepted batch, rebuilt by the Arrow rules from the messages up to its own, has exactly the shown rows and values
  pub rebuilt : ReadsBack i
