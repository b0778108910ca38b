-- A stream in code, as the definitions have it.
use Rattle.std.specs.Prelude.{◌≡◌, ℕ, map, Ok, Err, Result}
use Rattle.layout.specs.declared.fault.Fault.{Fault}
use Rattle.recording.specs.View.{nodes_in, bytes_in}
use Rattle.dictionaries.specs.Tracking.{kept_windows, kept_shown}
use Rattle.frames.specs.Frames.{FormBytes}
use Rattle.frames.specs.Sinks.{SinkMeaning}
use Rattle.runs.specs.Calls.{Answer, Setting}
use Rattle.runs.specs.Calls.Answer.{refused, given, cleared, finished}
use Rattle.runs.specs.Layers.{recorded}
use Rattle.runs.specs.Looks.{Recorded}
use Rattle.runs.specs.Turns.{State, Turn}
use Rattle.stream.specs.declared.stream.Stream.{Stream}

-- by what the form has for each message, and what a piece costs in the sink
abbrev pub setting_of : {F S : Type 0} → (F → FormBytes) → ℕ → Stream F S → Setting
setting_of header cost s = record { options = s.options; form = header s.form; cost = cost }

abbrev pub recorded_in : {F S : Type 0} → Stream F S → Recorded
recorded_in s = recorded s.recording

-- of what is kept, what the recording shows of it
abbrev pub state_of : {F S : Type 0} → (S → SinkMeaning) → Stream F S → State
state_of meaning s = record { kept = map (kept_shown (nodes_in s.recording) (bytes_in s.recording)) (kept_windows s.tracker); messages = s.messages; ended = s.ended; sink = meaning s.sink }

-- what no call changes: the recording, the options and the form
pub record Same {F S : Type 0} (before after : Stream F S) : Type 0 where
  pub recording : after.recording ≡ before.recording
  pub options : after.options ≡ before.options
  pub form : after.form ≡ before.form

-- a call's answer and the state after it are those of its turn
pub record Took (t : Turn) (answer : Answer) (next : State) : Type 0 where
  pub told : answer ≡ t.answer
  pub state : next ≡ t.next

abbrev pub id_answer : Result ℕ Fault → Answer
id_answer (Ok id) = given id
id_answer (Err f) = refused f

abbrev pub clear_answer : Result (Unit {0}) Fault → Answer
clear_answer (Ok _) = cleared
clear_answer (Err f) = refused f

abbrev pub finish_answer : Result (Unit {0}) Fault → Answer
finish_answer (Ok _) = finished
finish_answer (Err f) = refused f
