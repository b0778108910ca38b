-- Runs: calls one after another, and what they show.
use Rattle.std.specs.Prelude.{ℕ, ◌+◌, Bool, true, false, List, [], ◌∷◌, ◌++◌, map, Some, None, Option, Ok, Err, Result}
use Rattle.layout.specs.declared.fault.Fault.{Fault}
use Rattle.layout.specs.declared.fault.Refusal.TheVariants as fault
use Rattle.layout.specs.Faults.{fault_of}
use Rattle.layout.specs.Shown.{Shown, Showns}
use Rattle.dictionaries.specs.declared.update.DictionaryUpdate.{DictionaryUpdate}
use Rattle.dictionaries.specs.declared.update.DictionaryUpdate.TheVariants as update
use Rattle.dictionaries.specs.Collecting.{collected, met_columns}
use Rattle.frames.specs.Sinks.{SinkMeaning}
use Rattle.runs.specs.Calls.{Call, Answer, Written, Setting}
use Rattle.runs.specs.Looks.{Look, lacks, shows, Recorded, look}
use Rattle.runs.specs.Turns.{State, Turn, new_stream, early, turn}

-- ---- what a call shows, at the state that it meets

-- nothing; a batch that is refused with 9, 15 or 10 its fault; another batch its columns, and the windows that Deltas send
pub data Seen : Type 0 where
  nothing : Seen
  fails : Fault → Seen
  windows : Showns → List Shown → Seen

abbrev pub delta_by : (ℕ → Shown) → DictionaryUpdate → List Shown
delta_by later update.None = []
delta_by later update.New = []
delta_by later update.Replaced = []
delta_by later (update.Delta k) = later k ∷ []

abbrev pub deltas : (ℕ → ℕ → Shown) → ℕ → List DictionaryUpdate → List Shown
deltas later id [] = []
deltas later id (u ∷ us) = delta_by (later id) u ++ deltas later (id + 1) us

-- where a dictionary is refused, none of them counts
abbrev pub deltas_of : (ℕ → ℕ → Shown) → Result (List DictionaryUpdate) Fault → List Shown
deltas_of later (Ok us) = deltas later 0 us
deltas_of later (Err f) = []

module _ (e : Setting) (s : State) where
  abbrev pub seen_in : Look → Seen
  seen_in (lacks k) = fails (fault_of fault.Column k 0)
  seen_in (shows ss later) = windows ss (deltas_of later (collected e.options s.kept (met_columns 0 ss)))

  abbrev pub seen_unless : Look → Option Fault → Seen
  seen_unless l (Some f) = fails f
  seen_unless l None = seen_in l

  abbrev pub seen_by : Bool → Recorded → Call → Seen
  seen_by ended r Call.next_id = nothing
  seen_by ended r Call.clear = nothing
  seen_by ended r Call.finish = nothing
  seen_by true r (Call.batch first columns rows lent) = fails (fault_of fault.Ended 0 0)
  seen_by false r (Call.batch first columns rows lent) = seen_unless (look r first columns rows) (early e s rows)

abbrev pub seen : Setting → Recorded → Call → State → Seen
seen e r c s = seen_by e s s.ended r c

-- ---- a run

-- each call meets the state that the earlier ones left
abbrev pub turns_from : Setting → Recorded → List Call → State → List Turn
turns_from e r [] s = []
turns_from e r (c ∷ cs) s = turn e r c s ∷ turns_from e r cs (turn e r c s).next

abbrev pub seen_from : Setting → Recorded → List Call → State → List Seen
seen_from e r [] s = []
seen_from e r (c ∷ cs) s = seen e r c s ∷ seen_from e r cs (turn e r c s).next

abbrev pub last : State → List Turn → State
last s [] = s
last s (t ∷ ts) = last t.next ts

-- calls to a new stream over a recording
pub record Run : Type 0 where
  pub setting : Setting
  pub recorded : Recorded
  pub calls : List Call
  pub sink : SinkMeaning

abbrev pub turns : Run → List Turn
turns i = turns_from i.setting i.recorded i.calls (new_stream i.sink)

abbrev pub shown_along : Run → List Seen
shown_along i = seen_from i.setting i.recorded i.calls (new_stream i.sink)

abbrev pub state_after : Run → State
state_after i = last (new_stream i.sink) (turns i)

abbrev pub answers : List Turn → List Answer
answers ts = map (λ (t : Turn). t.answer) ts

abbrev pub all_written : List Turn → List Written
all_written ts = map (λ (t : Turn). t.written) ts
