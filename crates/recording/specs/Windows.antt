-- Windows of a recording.
use Rattle.std.specs.Prelude.{◌≡◌, ℕ, ◌+◌, true, false, Some, None, Option}
use Rattle.layout.specs.declared.kind.Kind.{Kind}
use Rattle.layout.specs.declared.node.Node.{Node}
use Rattle.layout.specs.declared.number.Width.{Width}
use Rattle.layout.specs.Kinds.{offset_width, has_data}
use Rattle.layout.specs.Numbers.{wide}
use Rattle.layout.specs.Rows.{offset_at, count_at}
use Rattle.layout.specs.Rules.{Is}
use Rattle.layout.specs.Windows as layout
use Rattle.layout.specs.Windows.{Inside}
use Rattle.recording.specs.declared.recording.Recording.{Recording}
use Rattle.recording.specs.declared.window.Window.{Window}
use Rattle.recording.specs.View.{nodes_in, bytes_in, node_of}

abbrev pub window_at : Recording → ℕ → ℕ → ℕ → layout.Window
window_at rec i a n = record { nodes = nodes_in rec; bytes = bytes_in rec; node = i; first = a; rows = n }

abbrev pub window_in : Window → layout.Window
window_in w = window_at w.node.recording w.node.index w.first w.rows

-- a node's kind is Bytes, or List, with offsets of a width
abbrev pub HasStrings : Node → Width → Type 0
HasStrings n w = (k : Kind) × Is n k × (offset_width k ≡ Some w) × (has_data k ≡ true)

abbrev pub HasElements : Node → Width → Type 0
HasElements n w = (k : Kind) × Is n k × (offset_width k ≡ Some w) × (has_data k ≡ false)

-- the rows of its child that row r of node i, a List, has
abbrev pub elements_at : Recording → ℕ → ℕ → Width → layout.Window
elements_at rec i r w = window_at rec (i + 1) (offset_at (bytes_in rec) (wide w) (node_of rec i) r) (count_at (bytes_in rec) (wide w) (node_of rec i) r)

-- a window is made exactly if it lies inside, and of just these rows
abbrev pub Made : Recording → ℕ → ℕ → ℕ → Option Window → Type 0
Made rec i a n None = Inside (window_at rec i a n) → ⊥
Made rec i a n (Some w) = (window_in w ≡ window_at rec i a n) × Inside (window_at rec i a n)
