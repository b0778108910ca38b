-- Buffers of a message, and where their bytes are.
use Rattle.std.specs.Prelude.{◌≡◌, ℕ, ◌+◌, cond, List, [], ◌∷◌, map, length}
use Rattle.layout.specs.declared.kind.Kind.{Kind}
use Rattle.layout.specs.declared.kind.Kind.TheVariants.{Null, Boolean, Fixed, Bytes32, Bytes64, List32, List64, Struct, Dictionary}
use Rattle.layout.specs.Kinds.{has_bitmap}
use Rattle.layout.specs.Windows as layout
use Rattle.layout.specs.Messages.{own_field}
use Rattle.layout.specs.Windows.{passed_to, shown_in}
use Rattle.recording.specs.declared.window.Window.{Window}
use Rattle.recording.specs.NodeRefs.{run_of, numbers_of}
use Rattle.recording.specs.Places.{Place, children_of}
use Rattle.recording.specs.Windows.{window_in}
use Rattle.columns.specs.declared.buffer.Buffer.{Buffer}
use Rattle.columns.specs.declared.record.FieldRecord.{FieldRecord}
use Rattle.columns.specs.declared.record.EncodedBuffer.TheVariants.{Recording, Work}
use Rattle.columns.specs.Lists.{over}
use Rattle.columns.specs.Pieces.{Piece, field_record, made, lies, offsets_from, strings_piece, marks_piece, slots_piece, bits_piece}

-- these bytes are made in work memory from a place on, as a buffer
pub record Makes (bs : List ℕ) (at : ℕ) (before after : List ℕ) (b : Buffer) : Type 0 where
  pub memory : after ≡ over before at bs
  pub source : b.source ≡ Work at
  pub long : b.len ≡ length bs

-- these rows' offsets, in bytes of their width
abbrev pub offsets_in : ℕ → Window → List ℕ
offsets_in w v = offsets_from (run_of v.node) w (numbers_of v.node) v.first v.rows

abbrev pub offsets_of : ℕ → Window → Piece
offsets_of w v = made (offsets_in w v)

-- its byte strings
abbrev pub strings_of : ℕ → Window → Piece
strings_of w v = strings_piece (run_of v.node) w (numbers_of v.node) v.first v.rows

-- a buffer of so many bytes of the recording, from a place on
abbrev pub Lies : Piece → Buffer → Type 0
Lies (made bs) b = ⊥
Lies (lies p n) b = (b.source ≡ Recording p) × (b.len ≡ n)

-- the offsets of byte strings, and the strings
abbrev pub AreStringBuffers : ℕ → Window → ℕ → List ℕ → List ℕ → List Buffer → Type 0
AreStringBuffers w v at before after bs =
    (a : Buffer) × (b : Buffer) × (bs ≡ a ∷ b ∷ []) × Makes (offsets_in w v) at before after a × Lies (strings_of w v) b

-- which of a window's rows are valid, and the slots of a Fixed or a Dictionary
abbrev pub marks_in : Window → Piece
marks_in v = marks_piece (run_of v.node) (numbers_of v.node) v.first v.rows

abbrev pub slots_in : Window → Piece
slots_in v = slots_piece (numbers_of v.node) v.first v.rows

-- the bits of a Boolean
abbrev pub flags_of : Window → Piece
flags_of v = bits_piece (run_of v.node) (numbers_of v.node) v.first v.rows

-- ---- what is written of a window of a kind: whether rows are valid, its own buffers, and the windows below it

abbrev pub own_record : Window → FieldRecord
own_record v = field_record (own_field (shown_in (window_in v)))

abbrev pub validity_of : Kind → Window → List Piece
validity_of k v = cond (has_bitmap k) (marks_in v ∷ []) []

abbrev pub own_buffers : Kind → Window → List Piece
own_buffers Null v = []
own_buffers Boolean v = flags_of v ∷ []
own_buffers Fixed v = slots_in v ∷ []
own_buffers Bytes32 v = offsets_of 4 v ∷ strings_of 4 v ∷ []
own_buffers Bytes64 v = offsets_of 8 v ∷ strings_of 8 v ∷ []
own_buffers List32 v = offsets_of 4 v ∷ []
own_buffers List64 v = offsets_of 8 v ∷ []
own_buffers Struct v = []
own_buffers Dictionary v = slots_in v ∷ []

abbrev pub windows_below : Kind → Window → List layout.Window
windows_below Null v = []
windows_below Boolean v = []
windows_below Fixed v = []
windows_below Bytes32 v = []
windows_below Bytes64 v = []
windows_below List32 v = passed_to List32 (window_in v) (v.node.index + 1) ∷ []
windows_below List64 v = passed_to List64 (window_in v) (v.node.index + 1) ∷ []
windows_below Struct v = map (λ (p : Place). passed_to Struct (window_in v) p.1) (children_of v.node)
windows_below Dictionary v = []
