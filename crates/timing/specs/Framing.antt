-- The frame of a batch, planned and written.
use Rattle.std.specs.Prelude.{◌≡◌, ℕ, ◌⊎◌, false, List, [], length, take, Ok, Err, Result}
use Rattle.layout.specs.declared.fault.Fault.{Fault}
use Rattle.layout.specs.Messages as sent
use Rattle.recording.specs.declared.columns.Columns.{Columns}
use Rattle.recording.specs.declared.options.DictionaryHandling.TheVariants.{Resend}
use Rattle.recording.specs.declared.options.IpcWriteOptions.{IpcWriteOptions}
use Rattle.recording.specs.declared.recording.Recording.{Recording}
use Rattle.recording.specs.ColumnPlaces.{ColumnsFound}
use Rattle.recording.specs.Options.{Sets}
use Rattle.dictionaries.specs.declared.update.MetDictionary.{MetDictionary}
use Rattle.dictionaries.specs.Batches.{AreMet, updates_of_batch}
use Rattle.columns.specs.declared.memory.Memory.{Memory}
use Rattle.columns.specs.Plans.{ToSend, messages_of}
use Rattle.frames.specs.Batches.{Unwritten, sent_all}
use Rattle.frames.specs.Frames.{frames}
use Rattle.frames.specs.Makes.{byte_sink}
use Rattle.frames.specs.Numbers.{number_bytes}

-- a message's own numbers, at every ordinal
abbrev pub numbers : ℕ → sent.Message → List ℕ
numbers o m = number_bytes m

-- by the definitions
abbrev pub defined_frames : List ToSend → List ℕ
defined_frames ms = frames 64 numbers 0 (sent_all 64 ms)

-- the room that a batch has: the records that it keeps by itself, and what is lent for the rest
pub record FrameRoom (ws ds : List ℕ) (m : Memory) : Type 0 where
  pub fields : length m.fields.now ≡ 64
  pub buffers : length m.buffers.now ≡ 192
  pub messages : length m.messages.now ≡ 1
  pub work : m.work.now ≡ ws
  pub metadata : m.metadata.now ≡ ds

-- the room is too short for the messages, or `out` for their frames, or a header for its numbers
abbrev pub Unframed : List ToSend → List ℕ → List ℕ → List ℕ → Fault → Type 0
Unframed ms ws ds out f = (before : Memory) × FrameRoom ws ds before × ((after : Memory) × Unwritten 0 64 numbers 0 ms before after (byte_sink out 0) f)

-- the frames of messages are the first bytes, so many, or why they are not
abbrev pub FramesMessages : List ToSend → List ℕ → List ℕ → List ℕ → List ℕ → Result ℕ Fault → Type 0
FramesMessages ms ws ds before after (Ok n) = (n ≡ length (defined_frames ms)) × (take n after ≡ defined_frames ms)
FramesMessages ms ws ds before after (Err f) = Unframed ms ws ds before f

-- of columns from a node on, with the dictionaries that they meet in a new stream, by the options that are so without being set
abbrev pub FramesColumns : Recording → ℕ → ℕ → ℕ → IpcWriteOptions → List ℕ → List ℕ → List ℕ → List ℕ → Result ℕ Fault → Type 0
FramesColumns rec node count rows o ws ds before after r =
    ((f : Fault) × (r ≡ Err f) × ColumnsFound rec node count rows (Err f))
    ⊎ ((c : Columns) × ColumnsFound rec node count rows (Ok c)
    × (((f : Fault) × (r ≡ Err f) × (updates_of_batch o [] c ≡ Err f))
    ⊎ ((ms : List MetDictionary) × AreMet o [] c ms × FramesMessages (messages_of c ms) ws ds before after r)))

abbrev pub number_or_none : Result ℕ Fault → ℕ
number_or_none (Ok n) = n
number_or_none (Err f) = 0

-- n says how many bytes the frames have, or is 0
abbrev pub TellsFrames : Recording → ℕ → ℕ → ℕ → List ℕ → List ℕ → List ℕ → List ℕ → ℕ → Type 0
TellsFrames rec node count rows ws ds before after n =
    (o : IpcWriteOptions) × Sets o 64 Resend false × ((r : Result ℕ Fault) × FramesColumns rec node count rows o ws ds before after r × (n ≡ number_or_none r))
