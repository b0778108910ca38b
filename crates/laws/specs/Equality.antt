-- Equality of windows.
use Rattle.std.specs.Prelude.{◌≡◌, ℕ, ◌<◌, ◌≤◌, ◌↔◌, take}
use Rattle.layout.specs.Shown.{Same, Front}
use Rattle.layout.specs.Windows.{Window, Inside, values_in, shown_in, first_rows, Equal}

pub record Equality : Type 0 where
  pub same : (w : Window) → Equal w w
  pub back : (w v : Window) → Equal w v → Equal v w
  pub along : (w v u : Window) → Equal w v → Equal v u → Equal w u
  -- a window equal to the first rows of a longer one has the longer one's first values
  pub first : (k : ℕ) (w v : Window) → k ≤ v.rows → Equal w (first_rows k v) → values_in w ≡ take k (values_in v)

-- it is told by what the windows show, and so is a window that goes on after another
pub record ToldByShown : Type 0 where
  pub equal : (w v : Window) → Inside w → Inside v → Equal w v ↔ Same (shown_in w) (shown_in v)
  pub longer : (w v : Window) → Inside w → Inside v → ((w.rows < v.rows) × Equal w (first_rows w.rows v)) ↔ Front (shown_in w) (shown_in v)
