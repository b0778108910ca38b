use Rattle.std.proofs.Common.{◌+◌, ◌≤◌, length, arith}
use Rattle.layout.specs.Numbers.{wide}
use Rattle.recording.specs.NodeRefs.{run_of}
use Rattle.recording.proofs.WindowFacts.{string_ends, string_cut}
use Rattle.recording.proofs.row.Row.string.Goals as goal

within : (c : goal.After-result-1) → c.node-data.result.«data» + c.bounds-first.result.1 ≤ length (run_of c.args.self.now.node)
within c =
    let (w, has) = c.requires in
    let e = rw c.offsets.ensures at c.bounds-first.ensures.end in
    string_ends c.args.self.now.node w has c.node-data.result c.bounds-first.result.1 c.node-data.ensures.value (e.bound has.0 has.1)

pub overflow_add-result : goal.overflow_add-result
overflow_add-result c = omega (arith, within c, c.bounds-first.ensures.rises, c.args.self.now.node.recording.opened.1)

pub overflow_add-result-2 : goal.overflow_add-result-2
overflow_add-result-2 c = omega (arith, within c, c.args.self.now.node.recording.opened.1)

pub slice_bounds-result-end : goal.slice_bounds-result-end
slice_bounds-result-end c = omega (arith, within c, c.bounds-first.ensures.rises)

pub returns : goal.returns
returns c = λ w has.
    let b = c.bounds-first in
    let first = rw c.offsets.ensures at b.ensures.first in
    let end = rw c.offsets.ensures at b.ensures.end in
    string_cut c.args.self.now.node (wide w) c.args.self.now.index c.node-data.result b.result.0 b.result.1 c.node-data.ensures.value
    (first.value w (has.0, has.1, has.2)) (end.value w (has.0, has.1, has.2))
