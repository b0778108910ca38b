-- What a recording holds.
use Rattle.std.specs.Prelude.{ℕ, List, ◌++◌, length, codes, decimal}
use Rattle.layout.specs.declared.node.Node.{Node}
use Rattle.layout.specs.Nodes.{nodes_of, node_at}
use Rattle.recording.specs.declared.recording.Recording.{Recording}

abbrev pub nodes_in : Recording → List Node
nodes_in r = nodes_of r.nodes.now

abbrev pub bytes_in : Recording → List ℕ
bytes_in r = r.bytes.now

abbrev pub node_of : Recording → ℕ → Node
node_of r i = node_at (nodes_in r) i

-- a recording by what it has, and none of its bytes
abbrev pub recording_shown : Recording → List ℕ
recording_shown r = codes "recording of " ++ (decimal (length (nodes_in r)) ++ (codes " nodes and " ++ (decimal (length (bytes_in r)) ++ codes " bytes")))
