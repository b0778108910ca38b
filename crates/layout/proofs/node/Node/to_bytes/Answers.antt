use Rattle.std.proofs.Common.{◌*◌, ◌-◌, refl, get_or, arith}
use Rattle.layout.proofs.Nodes.{spelled_more, spelled_node}
use Rattle.layout.proofs.node.Node.to_bytes.Goals as goal

pub loop-k-preserved : goal.loop-k-preserved
loop-k-preserved c =
    spelled_more c.loop-k.bytes c.write.new.out c.from.result c.loop-k.k (80 - 8 * c.loop-k.k) (get_or c.from.result c.loop-k.k 0) c.loop-k.invariant c.loop-k-test.true
    refl refl (omega (arith, c.write.auto.out)) c.write.ensures.back

pub returns-clause-back : goal.returns-clause-back
returns-clause-back c = spelled_node c.loop-k.bytes c.from.result c.args.self.now c.loop-k.k c.from.ensures (omega arith) c.loop-k.invariant
