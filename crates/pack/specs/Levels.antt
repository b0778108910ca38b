-- How deep nodes stand.
use Rattle.std.specs.Prelude.{◌≡◌, ℕ}
use Rattle.layout.specs.Nodes.{depth_of}
use Rattle.recording.specs.View.{nodes_in}
use Rattle.recording.specs.Places.{Place}

-- a node of a recording stands at depth d
abbrev pub IsDeep : ℕ → Place → Type 0
IsDeep d p = d ≡ depth_of (nodes_in p.0) p.1
