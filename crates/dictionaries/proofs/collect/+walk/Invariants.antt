use Rattle.std.proofs.Common.{◌+◌, ◌*◌, All}
use Rattle.recording.specs.NodeRefs.{numbers_of}
use Rattle.recording.specs.Passing.{windows_left}
use Rattle.recording.specs.Windows.{window_in}
use Rattle.dictionaries.specs.Walking.{met_in_windows}
use Rattle.dictionaries.specs.Walks.{walk_of, state_of, below_window}
use Rattle.dictionaries.proofs.Walks.{IsInWalk, Left}
use Rattle.dictionaries.proofs.collect.+walk.Given as goal

-- the span falls
abbrev pub decreases-_collect_dict_updates : goal.decreases-_collect_dict_updates
decreases-_collect_dict_updates l = 2 * (numbers_of l.window.now.node).span

abbrev pub decreases-collect_dict_updates : goal.decreases-collect_dict_updates
decreases-collect_dict_updates l = 2 * (numbers_of l.window.now.node).span + 1

-- what is met so far leads from the first state to this one, and what is left is still to be met
abbrev pub invariant-_collect_dict_updates-loop-child : goal.invariant-_collect_dict_updates-loop-child
invariant-_collect_dict_updates-loop-child l =
    record {
      left : Left (walk_of l.fn.walk l.fn.window l.fn.above) (below_window l.fn.walk.column l.fn.walk.first (window_in l.fn.window)) (met_in_windows l.fn.walk.column l.fn.walk.first (windows_left l.child-iterator)) (state_of l.fn.written l.fn.met.items) (state_of l.written l.met.items);
      each : All (IsInWalk l.fn.walk.first l.fn.window) (windows_left l.child-iterator);
    }
