use Rattle.std.proofs.Common.{arith}
use Rattle.layout.proofs.Nodes.{length-nodes}
use Rattle.recording.proofs.Reading.{rules_at}
use Rattle.recording.proofs.node.NodeRef.node.Goals as goal

pub at-requires : goal.at-requires
at-requires c = omega (arith, length-nodes c.args.self.now.recording.nodes.now)

pub returns-clause-rules : goal.returns-clause-rules
returns-clause-rules c = rules_at c.args.self.now
