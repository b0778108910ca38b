use Rattle.std.proofs.Common.{◌≡◌, ◌∙◌, List, All, sym, subst, rules}
use Rattle.std.proofs.lemmas.List.Elements.{All-rest}
use Rattle.layout.specs.declared.kind.Kind.TheVariants.{Struct}
use Rattle.layout.specs.Windows as layout
use Rattle.recording.specs.Passing.{windows_left, IsSmaller}
use Rattle.recording.specs.Windows.{window_in}
use Rattle.columns.specs.Buffers.{windows_below}
use Rattle.columns.proofs.Counting.{CountLeft, nothing, count_all, count_next, count_done, window_counted}
use Rattle.columns.proofs.Writing.{kind_is}
use Rattle.columns.proofs.needs.+count.Goals as goal

pub count_children-loop-child-init : goal.count_children-loop-child-init
count_children-loop-child-init t c =
    let w = c.args.window.now in
    let e = c.children-child-items.ensures in
    let ws : List layout.Window = windows_left c.into_iter-child-iterator.result in
    let same : windows_left c.children-child-items.result ≡ ws = search rules in
    record {
      left = subst (λ (us : List layout.Window). CountLeft (windows_below Struct w) us nothing) (sym (e.windows Struct c.requires) ∙ same) (count_all (windows_below Struct w));
      smaller = subst (All (IsSmaller w)) same e.smaller;
    }

pub count_children-loop-child-preserved : goal.count_children-loop-child-preserved
count_children-loop-child-preserved t c =
    let w = c.args.window.now in
    let left = windows_left c.loop-child.child-iterator in
    let rest = windows_left c.next.new.self in
    record {
      left = subst (CountLeft (windows_below Struct w) rest) (sym c.plus-needs.ensures) (count_next (windows_below Struct w) left rest (window_in c.in-Some.child) c.loop-child.needs c.count_array_data.result c.in-Some.ensures.steps c.loop-child.invariant.left c.count_array_data.ensures);
      smaller = All-rest (IsSmaller w) (window_in c.in-Some.child) rest left c.in-Some.ensures.steps c.loop-child.invariant.smaller;
    }

pub count_children-returns : goal.count_children-returns
count_children-returns t c = count_done (windows_below Struct c.args.window.now) (windows_left c.loop-child.child-iterator) c.loop-child.needs c.in-None.ensures.steps.0 c.loop-child.invariant.left

pub count_array_data-returns : goal.count_array_data-returns
count_array_data-returns t c =
    let v = c.args.window.now in
    let k = c.kind-kind.result in
    let is = kind_is k c.node.ensures c.kind-kind.ensures in
    window_counted v k is c.own_needs.result c.needs_below.result c.plus.result c.plus.ensures c.own_needs.ensures c.needs_below.ensures
