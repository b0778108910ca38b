use Rattle.dictionaries.proofs.Comparing.{nodes_tell, spans_tell}
use Rattle.dictionaries.proofs.comparison.same_shape.Goals as goal

pub returns-then-node : goal.returns-then-node
returns-then-node c = nodes_tell c.args.one.now c.args.other.now c.same_nodes.result c.same_nodes.ensures

pub returns-else-node : goal.returns-else-node
returns-else-node c = spans_tell c.args.one.now c.args.other.now c.node.result c.node-2.result c.node.ensures.value c.node-2.ensures.value c.if-node.false
