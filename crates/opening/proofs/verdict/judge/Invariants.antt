use Rattle.std.proofs.Common.{ℕ, ◌<◌}
use Rattle.layout.specs.Nodes.{nodes_of}
use Rattle.layout.proofs.Depth.{Stacked}
use Rattle.opening.specs.Checks.{AllHold}
use Rattle.opening.proofs.verdict.judge.Given as goal

abbrev pub invariant-loop-i : goal.invariant-loop-i
invariant-loop-i l =
    record {
      ends : Stacked (nodes_of l.nodes) l.ancestors l.i-counter;
      kept : (x : ℕ) → x < l.i-counter → AllHold (nodes_of l.nodes) l.bytes x;
    }
