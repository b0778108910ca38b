use Rattle.std.proofs.Common.{length, vec_items}
use Rattle.orders.proofs.Pairs.{PairsSoFar}
use Rattle.orders.proofs.hex.read_pairs.Given as goal

abbrev pub invariant-loop-rest : goal.invariant-loop-rest
invariant-loop-rest l = PairsSoFar l.text l.rest (vec_items l.bytes)

abbrev pub decreases-loop-rest : goal.decreases-loop-rest
decreases-loop-rest l = length l.rest
