-- A bit for each row of a node of a recording.
use Rattle.std.specs.Prelude.{◌≡◌, ℕ, Some, None, Option}
use Rattle.layout.specs.declared.bit.BitSlice.{BitSlice}
use Rattle.layout.specs.BitSlices.{AreBits}
use Rattle.layout.specs.Nodes.{bitmap_of}
use Rattle.recording.specs.declared.node.NodeRef.{NodeRef}
use Rattle.recording.specs.NodeRefs.{run_of, numbers_of}

-- those of its bitmap, if it has one
abbrev pub AreMarks : NodeRef → Option BitSlice → Type 0
AreMarks n None = bitmap_of (numbers_of n) ≡ None
AreMarks n (Some b) = (p : ℕ) × (bitmap_of (numbers_of n) ≡ Some p) × AreBits (numbers_of n) (run_of n) p b
