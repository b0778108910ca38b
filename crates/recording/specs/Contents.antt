-- What the rows of a window hold, one after another.
use Rattle.std.specs.Prelude.{◌≡◌, ℕ, ◌+◌, ◌*◌, ◌<◌, ◌≤◌, Bool, true, false, not, cond, List, drop, Some, None, Option, ◌==◌}
use Rattle.layout.specs.declared.bit.BitSlice.{BitSlice}
use Rattle.layout.specs.declared.kind.Kind.{Kind}
use Rattle.layout.specs.declared.kind.Kind.TheVariants.{Null}
use Rattle.layout.specs.declared.number.Width.{Width}
use Rattle.layout.specs.BitSlices.{bit_in}
use Rattle.layout.specs.Kinds.{kind_number, has_bitmap}
use Rattle.layout.specs.Lists.{cut}
use Rattle.layout.specs.Nodes.{bitmap_of}
use Rattle.layout.specs.Numbers.{wide, unle}
use Rattle.layout.specs.Rows.{mark_at, flag_at}
use Rattle.layout.specs.Rules.{Is, HasOffsets}
use Rattle.layout.specs.Windows as layout
use Rattle.layout.specs.Windows.{passed_first, passed_count, top_in}
use Rattle.recording.specs.declared.runs.Run.{Run}
use Rattle.recording.specs.declared.window.Window.{Window}
use Rattle.recording.specs.NodeRefs.{run_of, numbers_of}
use Rattle.recording.specs.Windows.{window_in, HasStrings}

-- row r of it is valid: its bit is 1, and no row of a Null is
abbrev pub valid_at : layout.Window → ℕ → Bool
valid_at w r = cond ((top_in w).kind == kind_number Null) false (mark_at w.bytes (top_in w) (w.first + r))

-- the rows from one on that are valid, or null, as that one is: all of them up to the first that is not, or to the last
pub record IsRun (w : layout.Window) (from : ℕ) (run : Run) : Type 0 where
  pub some : 0 < run.rows
  pub within : from + run.rows ≤ w.rows
  pub alike : (r : ℕ) → r < run.rows → valid_at w (from + r) ≡ run.valid
  pub whole : from + run.rows < w.rows → valid_at w (from + run.rows) ≡ not run.valid

-- a bit for each row, 1 where it is valid, where they stand in the bitmap; a Null has none
pub record AreMarks (w : Window) (bits : BitSlice) : Type 0 where
  pub place : ℕ
  pub bitmap : bitmap_of (numbers_of w.node) ≡ Some place
  pub bytes : bits.bytes.now ≡ drop place (run_of w.node)
  pub first : bits.first ≡ (numbers_of w.node).from + w.first
  pub count : bits.len ≡ w.rows
  pub each : (r : ℕ) → r < w.rows → bit_in bits r ≡ valid_at (window_in w) r
  pub kind : (k : Kind) → Is (numbers_of w.node) k → has_bitmap k ≡ true

-- without a bitmap every row is valid, but of a Null none
pub record NoMarks (w : Window) : Type 0 where
  pub bitmap : (k : Kind) → Is (numbers_of w.node) k → has_bitmap k ≡ true → bitmap_of (numbers_of w.node) ≡ None
  pub each : (k : Kind) → Is (numbers_of w.node) k → (r : ℕ) → r < w.rows → valid_at (window_in w) r ≡ has_bitmap k

abbrev pub TellValid : Window → Option BitSlice → Type 0
TellValid w None = NoMarks w
TellValid w (Some bits) = AreMarks w bits

-- a bit for each row of a Boolean, where they stand in its slots
pub record AreFlags (w : Window) (bits : BitSlice) : Type 0 where
  pub bytes : bits.bytes.now ≡ drop (numbers_of w.node).slots (run_of w.node)
  pub first : bits.first ≡ (numbers_of w.node).from + w.first
  pub count : bits.len ≡ w.rows
  pub each : (r : ℕ) → r < w.rows → bit_in bits r ≡ flag_at (run_of w.node) (numbers_of w.node) (w.first + r)

-- the values of a Fixed, or the keys of a Dictionary
abbrev pub slots_of : Window → List ℕ
slots_of w = cut ((numbers_of w.node).slots + ((numbers_of w.node).from + w.first) * (numbers_of w.node).size) (w.rows * (numbers_of w.node).size) (run_of w.node)

-- the offsets of a Bytes or a List, one more than there are rows
abbrev pub offset_slots : ℕ → Window → List ℕ
offset_slots x w = cut ((numbers_of w.node).slots + ((numbers_of w.node).from + w.first) * x) ((w.rows + 1) * x) (run_of w.node)

-- offset i of x bytes, as it is read
abbrev pub offset_in : List ℕ → ℕ → ℕ → ℕ
offset_in bs x i = unle (cut (i * x) x bs)

abbrev pub AreOffsets : Window → List ℕ → Type 0
AreOffsets v bs = (w : Width) → HasOffsets (numbers_of v.node) w → bs ≡ offset_slots (wide w) v

-- the byte strings of a Bytes
abbrev pub AreStrings : Window → List ℕ → Type 0
AreStrings v bs =
    (w : Width) → HasStrings (numbers_of v.node) w
    → bs ≡ cut ((numbers_of v.node).«data» + passed_first (run_of v.node) (wide w) (numbers_of v.node) v.first v.rows) (passed_count (run_of v.node) (wide w) (numbers_of v.node) v.first v.rows) (run_of v.node)
