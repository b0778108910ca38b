-- A row of a node.
use Rattle.std.specs.Prelude.{◌≡◌, ℕ, ◌+◌, Bool, List}
use Rattle.layout.specs.declared.number.Width.{Width}
use Rattle.layout.specs.Numbers.{wide}
use Rattle.layout.specs.Rows.{mark_at, flag_at, slot_at, string_at}
use Rattle.recording.specs.declared.node.NodeRef.{NodeRef}
use Rattle.recording.specs.declared.row.Row.{Row}
use Rattle.recording.specs.declared.window.Window.{Window}
use Rattle.recording.specs.NodeRefs.{run_of, numbers_of, IsNode}
use Rattle.recording.specs.Windows.{window_in, elements_at, HasStrings, HasElements}

-- it is row r of node n
abbrev pub IsRow : NodeRef → ℕ → Row → Type 0
IsRow n r row = (row.node ≡ n) × (row.index ≡ r)

-- it is valid
abbrev pub mark_of : Row → Bool
mark_of row = mark_at (run_of row.node) (numbers_of row.node) row.index

-- the bit of a Boolean
abbrev pub flag_of : Row → Bool
flag_of row = flag_at (run_of row.node) (numbers_of row.node) row.index

-- the bytes of a Fixed, or of a Dictionary, whose key they spell
abbrev pub slot_of : Row → List ℕ
slot_of row = slot_at (run_of row.node) (numbers_of row.node).size (numbers_of row.node) row.index

-- the byte string of a Bytes
abbrev pub IsString : Row → List ℕ → Type 0
IsString row bs =
    (w : Width) → HasStrings (numbers_of row.node) w → bs ≡ string_at (run_of row.node) (wide w) (numbers_of row.node) row.index

-- the elements of a List, in its child
abbrev pub IsElements : Row → Window → Type 0
IsElements row v =
    IsNode row.node.recording (row.node.index + 1) v.node
    × ((w : Width) → HasElements (numbers_of row.node) w → window_in v ≡ elements_at row.node.recording row.node.index row.index w)
