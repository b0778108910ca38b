use Rattle.std.proofs.Common.{◌-◌, All}
use Rattle.recording.specs.Trees.{places_left}
use Rattle.pack.specs.Levels.{IsDeep}
use Rattle.pack.proofs.show.+show_trees.Given as goal

abbrev pub decreases-show_trees : goal.decreases-show_trees
decreases-show_trees g l = 65 - l.depth

abbrev pub invariant-loop-node : goal.invariant-loop-node
invariant-loop-node g l = All (IsDeep l.depth) (places_left l.node-iterator)
