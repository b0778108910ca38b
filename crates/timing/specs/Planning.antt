-- A plan of one column, whose body is copied out.
use Rattle.std.specs.Prelude.{◌≡◌, ◌<◌, ◌≤◌, ◌⊎◌, ℕ, List, [], ◌∷◌, ◌++◌, length, drop, Some, Ok, Err}
use Rattle.layout.specs.declared.fault.Fault.{Fault}
use Rattle.layout.specs.Messages.{body_of}
use Rattle.layout.specs.Windows.{shown_side}
use Rattle.recording.specs.declared.columns.Columns.{Columns}
use Rattle.recording.specs.declared.recording.Recording.{Recording}
use Rattle.recording.specs.ColumnPlaces.{ColumnsFound}
use Rattle.dictionaries.specs.Batches.{column_windows}
use Rattle.columns.specs.declared.memory.Memory.{Memory}
use Rattle.columns.specs.Memories.{short_for}
use Rattle.columns.specs.Plans.{batch_message}

-- one list over the first items of another, which stay after it
abbrev pub over_start : {X : Type 0} → List X → List X → List X
over_start xs ys = xs ++ drop (length xs) ys

-- by the definitions
abbrev pub defined_body : Columns → List ℕ
defined_body c = body_of 64 (shown_side (column_windows c))

-- the room that a plan has: the records that it keeps by itself, and what is lent for the rest
pub record Room (ws ds : List ℕ) (m : Memory) : Type 0 where
  pub fields : length m.fields.now ≡ 16
  pub buffers : length m.buffers.now ≡ 32
  pub messages : length m.messages.now ≡ 1
  pub work : m.work.now ≡ ws
  pub metadata : m.metadata.now ≡ ds

-- something is too short for the columns: the room, or what the body is to be copied to
abbrev pub TooShort : Columns → List ℕ → List ℕ → List ℕ → Type 0
TooShort c ws ds out =
    ((m : Memory) × Room ws ds m × ((k : ℕ) × (short_for (batch_message c ∷ []) m ≡ Some k)))
    ⊎ (length out < length (defined_body c))

-- the whole body of the columns is copied and n says how long it is, or something is too short: then n is 0, and nothing is copied
abbrev pub Copies : Columns → List ℕ → List ℕ → List ℕ → List ℕ → ℕ → Type 0
Copies c ws ds before after n =
    ((length (defined_body c) ≤ length before) × (after ≡ over_start (defined_body c) before) × (n ≡ length (defined_body c)))
    ⊎ (TooShort c ws ds before × (n ≡ 0) × (after ≡ before))

-- of the column at a node, with so many rows; nothing is copied if the recording has none
abbrev pub CopiesColumn : Recording → ℕ → ℕ → List ℕ → List ℕ → List ℕ → List ℕ → ℕ → Type 0
CopiesColumn rec node rows ws ds before after n =
    ((c : Columns) × ColumnsFound rec node 1 rows (Ok c) × Copies c ws ds before after n)
    ⊎ ((f : Fault) × ColumnsFound rec node 1 rows (Err f) × (n ≡ 0) × (after ≡ before))
