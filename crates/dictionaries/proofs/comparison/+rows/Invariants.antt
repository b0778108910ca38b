use Rattle.std.proofs.Common.{◌≡◌, ℕ, ◌+◌, ◌-◌, ◌*◌, ◌<◌, ◌≤◌, ◌↔◌}
use Rattle.recording.specs.NodeRefs.{numbers_of}
use Rattle.recording.specs.Passing.{windows_left}
use Rattle.recording.specs.Windows.{window_in}
use Rattle.layout.specs.Windows.{value_in}
use Rattle.dictionaries.specs.Rows.{SameRows, Alike, Pairwise}
use Rattle.dictionaries.specs.Windows.{SameParts}
use Rattle.dictionaries.proofs.comparison.+rows.Given as goal

-- parts are of smaller trees
abbrev pub decreases-equal_parts : goal.decreases-equal_parts
decreases-equal_parts l = 3 * (numbers_of l.one.now.node).span

abbrev pub decreases-equal_valid_rows : goal.decreases-equal_valid_rows
decreases-equal_valid_rows l = 3 * (numbers_of l.one.now.node).span + 1

abbrev pub decreases-equal_rows : goal.decreases-equal_rows
decreases-equal_rows l = 3 * (numbers_of l.one.now.node).span + 2

-- the rows so far are the same
abbrev pub invariant-equal_rows-loop-from : goal.invariant-equal_rows-loop-from
invariant-equal_rows-loop-from l =
    record {
      within : l.from ≤ l.one.rows;
      same : (r : ℕ) → r < l.from → value_in (window_in l.one) r ≡ value_in (window_in l.other) r;
    }

abbrev pub decreases-equal_rows-loop-from : goal.decreases-equal_rows-loop-from
decreases-equal_rows-loop-from l = l.one.rows - l.from

-- what is left decides, and can be compared
abbrev pub invariant-equal_parts-loop-part : goal.invariant-equal_parts-loop-part
invariant-equal_parts-loop-part l =
    record {
      alike : Pairwise Alike (windows_left l.part-iterator) (windows_left l.twins);
      left : Pairwise SameRows (windows_left l.part-iterator) (windows_left l.twins) ↔ SameParts l.fn.one l.fn.other;
    }
