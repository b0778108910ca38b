use Rattle.std.proofs.Common.{sym, ◌∙◌, arith}
use Rattle.std.proofs.lemmas.Bool.{false≢true}
use Rattle.recording.specs.Windows.{window_in}
use Rattle.recording.proofs.WindowFacts.{inside_of}
use Rattle.dictionaries.proofs.Tests.{comparison_equal, comparison_delta, comparison_shapes, comparison_shorter, comparison_rows}
use Rattle.dictionaries.proofs.Comparing.{shapes_tell, front_tells}
use Rattle.dictionaries.proofs.comparison.compare_dictionaries.Goals as goal
use Rattle.dictionaries.proofs.comparison.compare_dictionaries.Goals.{then-rows-via-then-rows, then-rows-via-else-rows+then-not-same_shape}

pub returns-then-rows : goal.returns-then-rows
returns-then-rows c =
    let old = c.args.old.now in
    let new = c.args.new.now in
    elim c.then-rows.branch [
      | then-rows-via-then-rows w ↦ sym (comparison_shorter (window_in old) (window_in new) (inside_of old) (inside_of new) (omega arith))
      | then-rows-via-else-rows+then-not-same_shape w ↦
          (let shapes = shapes_tell old new w.node.result w.node-else-rows.result w.same_shape.result w.node.ensures w.node-else-rows.ensures w.same_shape.ensures in
          sym (comparison_shapes (window_in old) (window_in new) (inside_of old) (inside_of new) (λ e. false≢true (sym w.if-not-same_shape.true ∙ shapes.1 e))))
    ]

pub returns-then-not-equal_rows : goal.returns-then-not-equal_rows
returns-then-not-equal_rows c =
    let old = c.args.old.now in
    let new = c.args.new.now in
    let front = front_tells old new c.part.result c.rows-3.result c.equal_rows.result c.part.ensures c.rows-3.ensures c.equal_rows.ensures in
    sym (comparison_rows (window_in old) (window_in new) (inside_of old) (inside_of new) (omega arith) (λ s. false≢true (sym c.if-not-equal_rows.true ∙ front.1 s)))

pub returns-then-rows-2 : goal.returns-then-rows-2
returns-then-rows-2 c =
    let old = c.args.old.now in
    let new = c.args.new.now in
    let shapes = shapes_tell old new c.node.result c.node-else-rows.result c.same_shape.result c.node.ensures c.node-else-rows.ensures c.same_shape.ensures in
    let front = front_tells old new c.part.result c.rows-3.result c.equal_rows.result c.part.ensures c.rows-3.ensures c.equal_rows.ensures in
    sym (comparison_equal (window_in old) (window_in new) (inside_of old) (inside_of new) (shapes.0 c.if-not-same_shape.false) (omega arith) (front.0 c.if-not-equal_rows.false))

pub returns-else-rows-2 : goal.returns-else-rows-2
returns-else-rows-2 c =
    let old = c.args.old.now in
    let new = c.args.new.now in
    let shapes = shapes_tell old new c.node.result c.node-else-rows.result c.same_shape.result c.node.ensures c.node-else-rows.ensures c.same_shape.ensures in
    let front = front_tells old new c.part.result c.rows-3.result c.equal_rows.result c.part.ensures c.rows-3.ensures c.equal_rows.ensures in
    sym (comparison_delta (window_in old) (window_in new) (inside_of old) (inside_of new) (shapes.0 c.if-not-same_shape.false) (omega arith) (front.0 c.if-not-equal_rows.false))
