use Rattle.std.proofs.Common.{◌≡◌, ℕ, ◌-◌, List, [], ◌∷◌, None, Some, Err, All, sym, ap, ◌∙◌, subst, rules}
use Rattle.layout.specs.declared.fault.Fault.{Fault}
use Rattle.layout.specs.declared.kind.Kind.TheVariants.{Dictionary}
use Rattle.layout.specs.Rules.{Is}
use Rattle.layout.specs.Windows as layout
use Rattle.layout.specs.Windows.{shown_in, tree_in, met_in}
use Rattle.recording.specs.NodeRefs.{numbers_of}
use Rattle.recording.specs.Passing.{windows_left}
use Rattle.recording.specs.Windows.{window_in}
use Rattle.dictionaries.specs.Walking.{State, Told, Steps, met_in_windows}
use Rattle.dictionaries.specs.Walks.{walk_of, state_of, below_window}
use Rattle.dictionaries.proofs.Meeting.{met_below}
use Rattle.dictionaries.proofs.Walks.{IsInWalk, left_all, each_in_walk, rest_in, child_left, child_refused, not_dictionary, above_refuses, below_refuses, below_none, here_told}
use Rattle.dictionaries.proofs.collect.+walk.Goals as goal

-- ---- over the children

pub _collect_dict_updates-loop-child-init : goal._collect_dict_updates-loop-child-init
_collect_dict_updates-loop-child-init t c =
    let k = c.args.walk.now in
    let w = c.args.window.now in
    let e = c.children-child-items.ensures in
    let ws : List layout.Window = windows_left c.into_iter-child-iterator.result in
    let same : windows_left c.children-child-items.result ≡ ws = search rules in
    record {
      left =
          left_all (walk_of k w c.args.above) (below_window k.column k.first (window_in w)) (state_of c.args.written.now c.args.met.now.items) (met_in_windows k.column k.first ws)
          (ap (met_in_windows k.column k.first) (sym same) ∙ met_below k.column k.first w (windows_left c.children-child-items.result) c.requires.within e.windows e.shown);
      each = subst (All (IsInWalk k.first w)) same (each_in_walk k w (windows_left c.children-child-items.result) c.requires.within e.windows e.smaller e.after);
    }

pub _collect_dict_updates-loop-child-preserved : goal._collect_dict_updates-loop-child-preserved
_collect_dict_updates-loop-child-preserved t c =
    let k = c.args.walk.now in
    let w = c.args.window.now in
    let ds = below_window k.column k.first (window_in w) in
    let old = state_of c.args.written.now c.args.met.now.items in
    let now = state_of c.loop-child.written c.loop-child.met.items in
    let xs = windows_left c.loop-child.child-iterator in
    let rest = windows_left c.next.new.self in
    record {
      left =
          child_left k w c.args.above ds old now c.in-Some.child xs rest c.in-Some.ensures.steps c.loop-child.invariant.each c.loop-child.invariant.left
          (state_of c.collect_dict_updates.new.written c.collect_dict_updates.new.met.items)
          (subst (Told _ _ _ _) c.in_ok-collect_dict_updates.was c.collect_dict_updates.ensures);
      each = rest_in k w c.args.above ds old now c.in-Some.child xs rest c.in-Some.ensures.steps c.loop-child.invariant.each c.loop-child.invariant.left;
    }

pub _collect_dict_updates-returns-in_err-collect_dict_updates : goal._collect_dict_updates-returns-in_err-collect_dict_updates
_collect_dict_updates-returns-in_err-collect_dict_updates t c =
    let k = c.args.walk.now in
    let w = c.args.window.now in
    let f : Fault = c.in_err-collect_dict_updates.field-0.0 in
    let e : c.from_residual.result ≡ Err f = search rules in
    rw e
    (child_refused k w c.args.above (below_window k.column k.first (window_in w)) (state_of c.args.written.now c.args.met.now.items) (state_of c.loop-child.written c.loop-child.met.items) c.in-Some.child
    (windows_left c.loop-child.child-iterator) (windows_left c.next.new.self) c.in-Some.ensures.steps c.loop-child.invariant.each c.loop-child.invariant.left f
    (subst (Told _ _ _ _) c.in_err-collect_dict_updates.was c.collect_dict_updates.ensures))

-- ---- a window

pub collect_dict_updates-returns-then-ne : goal.collect_dict_updates-returns-then-ne
collect_dict_updates-returns-then-ne t c =
    let ne : c.kind.result ≡ Dictionary → ⊥ = search rules in
    let is : Is (numbers_of c.args.window.now.node) c.kind.result = search rules in
    not_dictionary c.args.walk.now c.args.window.now c.args.above _ _ _ c.kind.result is ne c._collect_dict_updates.ensures

pub collect_dict_updates-returns-in-Some : goal.collect_dict_updates-returns-in-Some
collect_dict_updates-returns-in-Some t c =
    let k = c.args.walk.now in
    let w = c.args.window.now in
    let is : Is (numbers_of w.node) Dictionary = search rules in
    rw (c.fault.ensures, c.in-Some.is) (above_refuses k w is c.in-Some.upper (state_of c.args.written.now c.args.met.now.items))

pub collect_dict_updates-returns-in_err-_collect_dict_updates : goal.collect_dict_updates-returns-in_err-_collect_dict_updates
collect_dict_updates-returns-in_err-_collect_dict_updates t c =
    let k = c.args.walk.now in
    let w = c.args.window.now in
    let old = state_of c.args.written.now c.args.met.now.items in
    let now = state_of c._collect_dict_updates-2.new.written c._collect_dict_updates-2.new.met.items in
    let is : Is (numbers_of w.node) Dictionary = search rules in
    let f : Fault = c.in_err-_collect_dict_updates.field-0.0 in
    let e : c.from_residual.result ≡ Err f = search rules in
    let index : c.index.result ≡ w.node.index = search rules in
    let told = subst (λ (i : ℕ). Told (walk_of k w (Some (i - k.first))) (below_window k.column k.first (window_in w)) old now c._collect_dict_updates-2.result) index c._collect_dict_updates-2.ensures in
    rw (e, c.in_default.is) (below_refuses k w is old f (subst (Told (walk_of k w (Some (w.node.index - k.first))) (below_window k.column k.first (window_in w)) old now) c.in_err-_collect_dict_updates.was told))

pub collect_dict_updates-collect_dictionary-requires-clause-plain : goal.collect_dict_updates-collect_dictionary-requires-clause-plain
collect_dict_updates-collect_dictionary-requires-clause-plain t c =
    let k = c.args.walk.now in
    let w = c.args.window.now in
    let old = state_of c.args.written.now c.args.met.now.items in
    let now = state_of c._collect_dict_updates-2.new.written c._collect_dict_updates-2.new.met.items in
    let is : Is (numbers_of w.node) Dictionary = search rules in
    let index : c.index.result ≡ w.node.index = search rules in
    let told = subst (λ (i : ℕ). Told (walk_of k w (Some (i - k.first))) (below_window k.column k.first (window_in w)) old now c._collect_dict_updates-2.result) index c._collect_dict_updates-2.ensures in
    let steps : Steps (walk_of k w (Some (w.node.index - k.first))) (below_window k.column k.first (window_in w)) old now =
    subst (Told (walk_of k w (Some (w.node.index - k.first))) (below_window k.column k.first (window_in w)) old now) c.in_ok-_collect_dict_updates.was told in
    subst (λ (x : layout.Window). met_in (tree_in x) ≡ []) (sym (c.values.ensures.rows Dictionary is)) (below_none k w is old now steps).0

pub collect_dict_updates-returns : goal.collect_dict_updates-returns
collect_dict_updates-returns t c =
    let k = c.args.walk.now in
    let w = c.args.window.now in
    let old = state_of c.args.written.now c.args.met.now.items in
    let now = state_of c._collect_dict_updates-2.new.written c._collect_dict_updates-2.new.met.items in
    let end = state_of c.collect_dictionary.new.written c.collect_dictionary.new.met.items in
    let is : Is (numbers_of w.node) Dictionary = search rules in
    let index : c.index.result ≡ w.node.index = search rules in
    let told = subst (λ (i : ℕ). Told (walk_of k w (Some (i - k.first))) (below_window k.column k.first (window_in w)) old now c._collect_dict_updates-2.result) index c._collect_dict_updates-2.ensures in
    let steps : Steps (walk_of k w (Some (w.node.index - k.first))) (below_window k.column k.first (window_in w)) old now =
    subst (Told (walk_of k w (Some (w.node.index - k.first))) (below_window k.column k.first (window_in w)) old now) c.in_ok-_collect_dict_updates.was told in
    let one = subst (λ (i : ℕ). Told (walk_of k c.values.result None) (record { column = k.column; node = i - k.first; values = shown_in (window_in c.values.result) } ∷ []) now end c.collect_dictionary.result) index c.collect_dictionary.ensures in
    rw c.in_default.is
    (here_told k w is c.values.result old end c.collect_dictionary.result (c.values.ensures.rows Dictionary is)
    (subst (λ (s : State). Told (walk_of k c.values.result None) (record { column = k.column; node = w.node.index - k.first; values = shown_in (window_in c.values.result) } ∷ []) s end c.collect_dictionary.result) (below_none k w is old now steps).1 one))
