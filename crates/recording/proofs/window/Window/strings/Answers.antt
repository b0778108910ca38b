use Rattle.std.proofs.Common.{arith}
use Rattle.recording.proofs.Contents.{strings_lie, strings_cut}
use Rattle.recording.proofs.window.Window.strings.Goals as goal

pub overflow_add-start : goal.overflow_add-start
overflow_add-start c = record { fits = omega (arith, strings_lie c.args.self.now c.node.result c.requires.0 c.contents-first.result.0 c.contents-first.result.1 c.node.ensures.value c.requires.1 c.contents-first.ensures, c.args.self.now.node.recording.opened.1) }

pub overflow_add-result : goal.overflow_add-result
overflow_add-result c = record { fits = omega (arith, strings_lie c.args.self.now c.node.result c.requires.0 c.contents-first.result.0 c.contents-first.result.1 c.node.ensures.value c.requires.1 c.contents-first.ensures, c.args.self.now.node.recording.opened.1) }

pub slice_bounds-result-end : goal.slice_bounds-result-end
slice_bounds-result-end c = omega (arith, strings_lie c.args.self.now c.node.result c.requires.0 c.contents-first.result.0 c.contents-first.result.1 c.node.ensures.value c.requires.1 c.contents-first.ensures)

pub returns : goal.returns
returns c = strings_cut c.args.self.now c.node.result c.contents-first.result.0 c.contents-first.result.1 c.node.ensures.value c.contents-first.ensures
