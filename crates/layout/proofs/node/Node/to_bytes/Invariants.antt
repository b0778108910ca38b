use Rattle.layout.proofs.Nodes.{Spelled}
use Rattle.layout.proofs.node.Node.to_bytes.Given as goal

abbrev pub invariant-loop-k : goal.invariant-loop-k
invariant-loop-k l = Spelled l.bytes l.number-items l.k
