-- What a window passes to the children of its node.
use Rattle.std.specs.Prelude.{◌≡◌, ℕ, ◌+◌, ◌<◌, ◌≤◌, List, map}
use Rattle.layout.specs.declared.kind.Kind.{Kind}
use Rattle.layout.specs.declared.number.Width.{Width}
use Rattle.layout.specs.Numbers.{wide}
use Rattle.layout.specs.Rules.{Is, HasOffsets, reach}
use Rattle.layout.specs.Windows as layout
use Rattle.layout.specs.Windows.{passed_first, passed_count, passed_to, top_in, ChildOf}
use Rattle.recording.specs.declared.node.NodeRef.{NodeRef}
use Rattle.recording.specs.declared.windows.Windows.{Windows}
use Rattle.recording.specs.declared.window.Window.{Window}
use Rattle.recording.specs.NodeRefs.{table_of, run_of, numbers_of}
use Rattle.recording.specs.Places.{Place, place_of, children_of, IsChildPlace}
use Rattle.recording.specs.Trees.{places_left}
use Rattle.recording.specs.Windows.{window_at, window_in}

-- c is a child of n
abbrev pub IsChild : NodeRef → NodeRef → Type 0
IsChild n c = IsChildPlace n (place_of c)

-- so many rows from one on are what it passes to each child of its node
abbrev pub ArePassed : Window → ℕ → ℕ → Type 0
ArePassed w first rows =
    (k : Kind) → Is (numbers_of w.node) k → (c : ℕ) → ChildOf (table_of w.node) w.node.index c
    → (first ≡ (passed_to k (window_in w) c).first) × (rows ≡ (passed_to k (window_in w) c).rows)

-- of a Bytes or a List: what its rows have in the data or the child, from the first offset up to the last
pub record AreContents (v : Window) (x n : ℕ) : Type 0 where
  pub first : (w : Width) → HasOffsets (numbers_of v.node) w → x ≡ passed_first (run_of v.node) (wide w) (numbers_of v.node) v.first v.rows
  pub count : (w : Width) → HasOffsets (numbers_of v.node) w → n ≡ passed_count (run_of v.node) (wide w) (numbers_of v.node) v.first v.rows
  pub bound : (k : Kind) → Is (numbers_of v.node) k → x + n ≤ reach k (table_of v.node) v.node.index

-- v is what w passes to the child at node c
abbrev pub IsPassed : Window → ℕ → Window → Type 0
IsPassed w c v = (k : Kind) → Is (numbers_of w.node) k → window_in v ≡ passed_to k (window_in w) c

-- ---- one window after another

-- so many rows of each of some nodes, from one on
abbrev pub rows_of_places : ℕ → ℕ → List Place → List layout.Window
rows_of_places first rows ps = map (λ (p : Place). window_at p.0 p.1 first rows) ps

abbrev pub windows_left : Windows → List layout.Window
windows_left s = rows_of_places s.first s.rows (places_left s.nodes)

-- what a window passes to each child of its node
abbrev pub ArePassedEach : Window → List layout.Window → Type 0
ArePassedEach w vs = (k : Kind) → Is (numbers_of w.node) k → vs ≡ map (λ (p : Place). passed_to k (window_in w) p.1) (children_of w.node)

-- its node's tree has fewer nodes
abbrev pub IsSmaller : Window → layout.Window → Type 0
IsSmaller w v = (top_in v).span < (numbers_of w.node).span

-- its node stands after the window's
abbrev pub IsAfter : Window → layout.Window → Type 0
IsAfter w v = w.node.index < v.node
