-- What a window passes to its children lies inside their rows, and is what it shows of them.
use Rattle.std.specs.Prelude.{◌≡◌, ℕ, ◌+◌, List, map}
use Rattle.layout.specs.declared.kind.Kind.{Kind}
use Rattle.layout.specs.declared.kind.Kind.TheVariants.{List32, List64, Struct, Dictionary}
use Rattle.layout.specs.Lists.{rows}
use Rattle.layout.specs.Nodes.{end_of}
use Rattle.layout.specs.Rows.{count_at, key_at}
use Rattle.layout.specs.Rules.{Is, SideBySide}
use Rattle.layout.specs.Shown.{Shown}
use Rattle.layout.specs.Windows.{marks_at, label_of, Window, Inside, top_in, shown_in, shown_side, passed_to, ChildOf}

pub record Passing : Type 0 where
  pub inside : (w : Window) (k : Kind) (c : ℕ) → Inside w → Is (top_in w) k → ChildOf w.nodes w.node c → Inside (passed_to k w c)
  pub list32 : (w : Window) → Inside w → Is (top_in w) List32
      → shown_in w ≡ Shown.lists (label_of (top_in w)) 4 (marks_at w.bytes (top_in w) w.first w.rows) (rows w.rows (λ r. count_at w.bytes 4 (top_in w) (w.first + r))) (shown_in (passed_to List32 w (w.node + 1)))
  pub list64 : (w : Window) → Inside w → Is (top_in w) List64
      → shown_in w ≡ Shown.lists (label_of (top_in w)) 8 (marks_at w.bytes (top_in w) w.first w.rows) (rows w.rows (λ r. count_at w.bytes 8 (top_in w) (w.first + r))) (shown_in (passed_to List64 w (w.node + 1)))
  pub struct : (w : Window) (cs : List ℕ) → Inside w → Is (top_in w) Struct → SideBySide w.nodes (w.node + 1) cs (end_of w.nodes w.node)
      → shown_in w ≡ Shown.struct (label_of (top_in w)) (marks_at w.bytes (top_in w) w.first w.rows) w.rows (shown_side (map (passed_to Struct w) cs))
  pub dictionary : (w : Window) → Inside w → Is (top_in w) Dictionary
      → shown_in w ≡ Shown.dictionary (label_of (top_in w)) (top_in w).size (marks_at w.bytes (top_in w) w.first w.rows) (rows w.rows (λ r. key_at w.bytes (top_in w) (w.first + r))) (shown_in (passed_to Dictionary w (w.node + 1)))
