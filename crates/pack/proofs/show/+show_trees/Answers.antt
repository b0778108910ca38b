use Rattle.std.proofs.Common.{◌+◌, All, sym, subst, arith, rules}
use Rattle.std.proofs.lemmas.List.Elements.{All-rest}
use Rattle.recording.specs.Trees.{places_left}
use Rattle.recording.specs.Places.{place_of}
use Rattle.pack.specs.Levels.{IsDeep}
use Rattle.pack.proofs.Levels.{first_deep, depth_small, children_deep}
use Rattle.pack.proofs.show.+show_trees.Goals as goal

pub overflow_add-depth : goal.overflow_add-depth
overflow_add-depth g t c =
    omega (arith, first_deep c.args.depth _ c.in-Some.node _ c.in-Some.ensures.steps c.loop-node.invariant, depth_small c.in-Some.node)

pub show_trees-requires : goal.show_trees-requires
show_trees-requires g t c =
    let deep = first_deep c.args.depth _ c.in-Some.node _ c.in-Some.ensures.steps c.loop-node.invariant in
    let small = depth_small c.in-Some.node in
    λ κs within. (search rules, (search rules, subst (All (IsDeep (c.args.depth + 1))) (sym c.children.ensures.nodes) (children_deep c.in-Some.node c.args.depth deep)))

pub loop-node-preserved : goal.loop-node-preserved
loop-node-preserved g t c = All-rest (IsDeep c.args.depth) (place_of c.in-Some.node) (places_left c.next.new.self) _ c.in-Some.ensures.steps c.loop-node.invariant
