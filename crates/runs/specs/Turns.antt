-- What each call answers, writes, sends and leaves, from the state that it meets and from what windows show.
use Rattle.std.specs.Prelude.{ℕ, ◌+◌, ◌-◌, Bool, true, false, cond, List, [], ◌∷◌, ◌++◌, map, length, Some, None, Option, Ok, Err, Result, nat_lt, nat_le}
use Rattle.layout.specs.declared.fault.Fault.{Fault}
use Rattle.layout.specs.declared.fault.Refusal.TheVariants as fault
use Rattle.layout.specs.Faults.{fault_of}
use Rattle.layout.specs.Lists.{join_all}
use Rattle.layout.specs.Messages as sent
use Rattle.layout.specs.Messages.{field_entries, buffer_entries, work_bytes, made_all}
use Rattle.layout.specs.Shown.{Shown, Showns, none, more, count}
use Rattle.dictionaries.specs.declared.update.DictionaryUpdate.{DictionaryUpdate}
use Rattle.dictionaries.specs.declared.update.DictionaryUpdate.TheVariants as update
use Rattle.dictionaries.specs.Collecting.{Met, Kept, absent, collected, met_columns}
use Rattle.dictionaries.specs.Laws.{shown_after}
use Rattle.columns.specs.declared.message.MessageKind.TheVariants as kind
use Rattle.columns.specs.Telling.{Shows, Told, sent_of}
use Rattle.frames.specs.Frames.{header_length, has_headers, frames, pieces, end_mark}
use Rattle.frames.specs.Sinks.{SinkMeaning, has_room, with_pieces}
use Rattle.runs.specs.Calls.{Call, Lent, Answer, Lengths, Entry, Written, Setting, nothing, alignment}
use Rattle.runs.specs.Calls.Answer.{refused, given, cleared, finished, accepted}
use Rattle.runs.specs.Looks.{Look, lacks, shows, Recorded, look}

-- ---- the state of a stream

-- what is kept under each id that is given out, how many messages went, whether it has ended, and its sink
pub record State : Type 0 where
  pub kept : List Kept
  pub messages : ℕ
  pub ended : Bool
  pub sink : SinkMeaning

abbrev pub new_stream : SinkMeaning → State
new_stream m = record { kept = []; messages = 0; ended = false; sink = m }

-- what a call comes to
pub record Turn : Type 0 where
  pub answer : Answer
  pub written : Written
  -- the bytes that go to the sink, and how long their pieces are
  pub frames : List ℕ
  pub pieces : List ℕ
  pub next : State

-- ---- the messages of a batch

-- what an update sends of a dictionary under an id; what is later in it is what its rows from so many on show
abbrev pub sends_by : (ℕ → Shown) → ℕ → Met → DictionaryUpdate → List Shows
sends_by later id d update.None = []
sends_by later id d update.New = record { kind = kind.Dictionary; id = id; rows = count d.values; shown = more d.values none } ∷ []
sends_by later id d update.Replaced = record { kind = kind.Dictionary; id = id; rows = count d.values; shown = more d.values none } ∷ []
sends_by later id d (update.Delta k) = record { kind = kind.Delta; id = id; rows = count d.values - k; shown = more (later k) none } ∷ []

-- of the dictionaries met under the ids from one on
abbrev pub sends : (ℕ → ℕ → Shown) → ℕ → List Met → List DictionaryUpdate → List Shows
sends later id [] us = []
sends later id (d ∷ ds) [] = []
sends later id (d ∷ ds) (u ∷ us) = sends_by (later id) id d u ++ sends later (id + 1) ds us

-- and then the batch
abbrev pub all_sends : (ℕ → ℕ → Shown) → List Met → List DictionaryUpdate → ℕ → Showns → List Shows
all_sends later ds us rows ss = sends later 0 ds us ++ record { kind = kind.Batch; id = 0; rows = rows; shown = ss } ∷ []

-- what they need of the lent memories
abbrev pub total_of : (Showns → ℕ) → List Shows → ℕ
total_of f [] = 0
total_of f (s ∷ ss) = f s.shown + total_of f ss

abbrev pub short : Lent → List Shows → Option ℕ
short l ss =
    cond (nat_lt l.fields (total_of field_entries ss)) (Some 0)
    (cond (nat_lt l.buffers (total_of buffer_entries ss)) (Some 1)
    (cond (nat_lt l.messages (length ss)) (Some 2)
    (cond (nat_lt l.work (total_of work_bytes ss)) (Some 3)
    (cond (nat_lt l.metadata 65536) (Some 4) None))))

abbrev pub all_made : List Shows → List ℕ
all_made [] = []
all_made (s ∷ ss) = join_all (made_all s.shown) ++ all_made ss

-- ---- what is written of them

abbrev pub all_fields : List Told → List sent.FieldRecord
all_fields [] = []
all_fields (t ∷ ts) = t.message.fields ++ all_fields ts

abbrev pub all_buffers : List Told → List sent.BufferRecord
all_buffers [] = []
all_buffers (t ∷ ts) = t.message.buffers ++ all_buffers ts

abbrev pub entry : ℕ → Told → Entry
entry h t = record { kind = t.message.kind; id = t.message.id; rows = t.message.rows; fields = length t.message.fields; buffers = length t.message.buffers; lengths = record { header = h; body = t.message.body_length } }

-- what stays of a plan whose frames are refused: header lengths are 0
abbrev pub planned : ℕ → List Shows → Written
planned al ss =
    let ts : List Told = map (sent_of al) ss in
    record { fields = all_fields ts; buffers = all_buffers ts; messages = map (entry 0) ts; work = all_made ss; headers = []; updates = [] }

module _ (e : Setting) where
  -- the headers of messages from an ordinal on
  abbrev pub headers : ℕ → List Told → List (List ℕ)
  headers o [] = []
  headers o (t ∷ ts) = e.form o t.message ∷ headers (o + 1) ts

  abbrev pub entries : ℕ → List Told → List Entry
  entries o [] = []
  entries o (t ∷ ts) = entry (header_length (alignment e) (length (e.form o t.message))) t ∷ entries (o + 1) ts

  abbrev pub lengths_of : List Entry → List Lengths
  lengths_of es = map (λ (x : Entry). x.lengths) es

  abbrev pub written : ℕ → List Shows → List DictionaryUpdate → Written
  written o ss us =
      let ts : List Told = map (sent_of (alignment e)) ss in
      record { fields = all_fields ts; buffers = all_buffers ts; messages = entries o ts; work = all_made ss; headers = headers o ts; updates = us }

-- a refusal, and what it leaves in the memories
abbrev pub refuse : Written → Fault → State → Turn
refuse w f s = record { answer = refused f; written = w; frames = []; pieces = []; next = s }

-- ---- a batch, check by check

module _ (e : Setting) (s : State) where
  -- the frames go out, and the new values are kept
  abbrev pub accept : List Met → List DictionaryUpdate → List Shows → Turn
  accept ds us ss =
      let ts : List Told = map (sent_of (alignment e)) ss in
      let bytes : List ℕ = frames (alignment e) e.form s.messages ts in
      let lengths : List ℕ = pieces (alignment e) e.form s.messages ts in
      record {
        answer = accepted us (map (λ (t : Told). t.message) ts) (lengths_of e (entries e s.messages ts));
        written = written e s.messages ss us;
        frames = bytes;
        pieces = lengths;
        next = record { kept = shown_after s.kept us ds; messages = s.messages + length ss; ended = s.ended; sink = with_pieces e.cost bytes lengths s.sink };
      }

  -- 16, then 17
  abbrev pub on_frames : List Met → List DictionaryUpdate → List Shows → Turn
  on_frames ds us ss =
      let ts : List Told = map (sent_of (alignment e)) ss in
      cond (has_headers e.form s.messages ts)
      (cond (has_room e.cost (length (frames (alignment e) e.form s.messages ts)) (length (pieces (alignment e) e.form s.messages ts)) s.sink)
      (accept ds us ss)
      (refuse (planned (alignment e) ss) (fault_of fault.Sink 0 0) s))
      (refuse (planned (alignment e) ss) (fault_of fault.Header 0 0) s)

  -- 14
  abbrev pub on_plan : List Met → List DictionaryUpdate → List Shows → Option ℕ → Turn
  on_plan ds us ss None = on_frames ds us ss
  on_plan ds us ss (Some k) = refuse nothing (fault_of fault.Memory k 0) s

  -- 11, 12 or 13 of a dictionary that is met
  abbrev pub on_updates : ℕ → Lent → Showns → (ℕ → ℕ → Shown) → Result (List DictionaryUpdate) Fault → Turn
  on_updates rows lent ss later (Err f) = refuse nothing f s
  on_updates rows lent ss later (Ok us) =
      let all : List Shows = all_sends later (met_columns 0 ss) us rows ss in
      on_plan (met_columns 0 ss) us all (short lent all)

  -- 10
  abbrev pub on_look : ℕ → Lent → Look → Turn
  on_look rows lent (lacks k) = refuse nothing (fault_of fault.Column k 0) s
  on_look rows lent (shows ss later) = on_updates rows lent ss later (collected e.options s.kept (met_columns 0 ss))

  -- 9 after so many messages, then 15: before the recording is looked at
  abbrev pub early : ℕ → Option Fault
  early rows = cond (nat_le 4000000000 s.messages) (Some (fault_of fault.Ended 0 0)) (cond (nat_lt 2147483647 rows) (Some (fault_of fault.Rows 0 0)) None)

  abbrev pub on_batch : ℕ → Lent → Look → Option Fault → Turn
  on_batch rows lent l (Some f) = refuse nothing f s
  on_batch rows lent l None = on_look rows lent l

  -- ---- the other calls

  abbrev pub on_id : Bool → Turn
  on_id true = record { answer = given (length s.kept); written = nothing; frames = []; pieces = []; next = record { kept = s.kept ++ absent ∷ []; messages = s.messages; ended = s.ended; sink = s.sink } }
  on_id false = refuse nothing (fault_of fault.Ids 0 0) s

  abbrev pub on_clear : Turn
  on_clear = record { answer = cleared; written = nothing; frames = []; pieces = []; next = record { kept = []; messages = s.messages; ended = s.ended; sink = s.sink } }

  abbrev pub on_finish : Bool → Turn
  on_finish true =
      record { answer = finished; written = nothing; frames = end_mark; pieces = 8 ∷ []; next = record { kept = s.kept; messages = s.messages; ended = true; sink = with_pieces e.cost end_mark (8 ∷ []) s.sink } }
  on_finish false = refuse nothing (fault_of fault.Sink 0 0) s

  abbrev pub on_call : Recorded → Call → Turn
  on_call r Call.next_id = on_id (nat_lt (length s.kept) 64)
  on_call r Call.clear = on_clear
  on_call r Call.finish = on_finish (has_room e.cost 8 1 s.sink)
  on_call r (Call.batch first columns rows lent) = on_batch rows lent (look r first columns rows) (early rows)

  abbrev pub on_open : Bool → Recorded → Call → Turn
  on_open true r c = refuse nothing (fault_of fault.Ended 0 0) s
  on_open false r c = on_call r c

abbrev pub turn : Setting → Recorded → Call → State → Turn
turn e r c s = on_open e s s.ended r c
