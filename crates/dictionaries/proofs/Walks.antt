-- The walks of the code.
use Rattle.std.proofs.Common.{◌≡◌, ℕ, ◌+◌, ◌-◌, ◌<◌, ◌≤◌, List, [], ◌∷◌, ◌++◌, map, get_or, Some, None, Option, Result, All, IsSome, sym, refl, ap, ap₂, ◌∙◌, subst, append_assoc, append-nil, arith}
use Rattle.std.proofs.lemmas.List.Elements.{All-nil, All-append, All-head, All-rest}
use Rattle.std.proofs.lemmas.List.{map-append}
use Rattle.layout.specs.declared.fault.Fault.{Fault}
use Rattle.layout.specs.declared.fault.Refusal.TheVariants.{DictionaryAboveDictionary}
use Rattle.layout.specs.declared.kind.Kind.{Kind}
use Rattle.layout.specs.declared.kind.Kind.TheVariants.{Dictionary}
use Rattle.layout.specs.declared.node.Node.{Node}
use Rattle.layout.specs.Faults.{fault_of}
use Rattle.layout.specs.Nodes.{node_at}
use Rattle.layout.specs.Rules.{Is}
use Rattle.layout.specs.Windows as layout
use Rattle.layout.specs.Windows.{shown_in, tree_in, met_in, passed_to}
use Rattle.recording.specs.declared.window.Window.{Window}
use Rattle.recording.specs.NodeRefs.{table_of, run_of, numbers_of}
use Rattle.recording.specs.Passing.{ArePassedEach, IsSmaller, IsAfter}
use Rattle.recording.specs.Windows.{window_in}
use Rattle.recording.proofs.WindowFacts.{inside_of}
use Rattle.dictionaries.specs.declared.collect.Walk.{Walk}
use Rattle.dictionaries.specs.declared.update.DictionaryUpdate.{DictionaryUpdate}
use Rattle.dictionaries.specs.declared.update.MetDictionary.{MetDictionary}
use Rattle.dictionaries.specs.Collecting.{Met, met_from}
use Rattle.dictionaries.specs.Tracking.{values_at}
use Rattle.dictionaries.specs.Walking.{Walked, State, met_of, outcome, IsPlaced, Steps, Refuses, Told, met_in_window, met_in_windows}
use Rattle.dictionaries.specs.Walks.{walk_of, below_window}
use Rattle.dictionaries.proofs.Meeting.{met_not, met_dictionary, below_dictionary, met_column, met_none, plain_shown, alone_some, same_each}
use Rattle.dictionaries.proofs.Walking.{met_above, none_met, some_met, nested_refused}

-- all rows of a node show what their numbers say
pub values_met : (v : Window) (c k node rows : ℕ) → node ≡ v.node.index → rows ≡ v.rows → v.first ≡ 0
    → ◌≡◌ {A = Met} (record { column = c; node = k; values = shown_in (values_at (table_of v.node) (run_of v.node) (record { node = node; rows = rows })) }) (record { column = c; node = k; values = shown_in (window_in v) })
values_met v c k node rows at many whole =
    let first = sym whole in
    ap (λ (w : layout.Window). record { column = c; node = k; values = shown_in w })
    (λ i. record { nodes = table_of v.node; bytes = run_of v.node; node = at i; first = first i; rows = many i })

pub values_placed : (k : Walk) (v : Window) (node at rows : ℕ) (u : DictionaryUpdate) → at ≡ v.node.index → rows ≡ v.rows → v.node.index ≡ k.first + node + 1 → v.rows ≡ (numbers_of v.node).rows
    → IsPlaced (walk_of k v None) (record { column = k.column; node = node; values = record { node = at; rows = rows }; update = u })
values_placed k v node at rows u here many place whole = record {
  column = refl;
  node = here ∙ place;
  stands = omega (arith, v.node.stands);
  rows = many ∙ whole ∙ ap (λ (i : ℕ). (node_at (table_of v.node) i).rows) (sym here);
}

-- ---- windows on a walk that started in a column's first node

-- it is in the same recording, after that node, and its tree is smaller
pub record IsInWalk (first : ℕ) (w : Window) (u : layout.Window) : Type 0 where
  pub nodes : u.nodes ≡ table_of w.node
  pub bytes : u.bytes ≡ run_of w.node
  pub within : first ≤ u.node
  pub smaller : IsSmaller w u

-- of all that is to be met, this is left at state t
pub record Left (w : Walked) (ds left : List Met) (s t : State) : Type 0 where
  pub outcome : (rest : List Met) → outcome w s (ds ++ rest) ≡ outcome w t (left ++ rest)
  pub more : List MetDictionary
  pub listed : t.listed ≡ s.listed ++ more
  pub met : map (met_of w) more ++ left ≡ ds
  pub placed : All (IsPlaced w) more
  pub unchanged : IsSome w.above → t ≡ s

module _ (w : Walked) (ds : List Met) (s : State) where
  pub left_all : (left : List Met) → left ≡ ds → Left w ds left s s
  left_all left e = record {
    outcome = λ rest. ap (λ (ds : List Met). outcome w s (ds ++ rest)) (sym e);
    more = [];
    listed = sym (append-nil s.listed);
    met = e;
    placed = All-nil (IsPlaced w);
    unchanged = λ h. refl;
  }

  pub left_more : (a b : List Met) (t u : State) → Left w ds (a ++ b) s t → Steps w a t u → Left w ds b s u
  left_more a b t u l h = record {
    outcome = λ rest. l.outcome rest ∙ ap (outcome w t) (append_assoc a b rest) ∙ h.outcome (b ++ rest);
    more = l.more ++ h.more;
    listed = h.listed ∙ ap (λ (ms : List MetDictionary). ms ++ h.more) l.listed ∙ append_assoc s.listed l.more h.more;
    met =
        ap (λ (xs : List Met). xs ++ b) (map-append (met_of w) l.more h.more ∙ ap (λ (xs : List Met). map (met_of w) l.more ++ xs) h.met)
        ∙ append_assoc (map (met_of w) l.more) a b
        ∙ l.met;
    placed = All-append (IsPlaced w) l.more h.more l.placed h.placed;
    unchanged = λ x. h.unchanged x ∙ l.unchanged x;
  }

  pub left_refused : (a b : List Met) (t : State) (f : Fault) → Left w ds (a ++ b) s t → Refuses w a t f → Refuses w ds s f
  left_refused a b t f l h rest = l.outcome rest ∙ ap (outcome w t) (append_assoc a b rest) ∙ h (b ++ rest)

  pub left_none : (t : State) → Left w ds [] s t → Steps w ds s t
  left_none t l = record {
    outcome = l.outcome;
    more = l.more;
    listed = l.listed;
    met = sym (append-nil (map (met_of w) l.more)) ∙ l.met;
    placed = l.placed;
    unchanged = l.unchanged;
  }

-- ---- a step of the walk

walk_same : (k : Walk) (w u : Window) (above : Option ℕ) → table_of u.node ≡ table_of w.node → run_of u.node ≡ run_of w.node → walk_of k u above ≡ walk_of k w above
walk_same k w u above ns bs = ap₂ (λ (ns : List Node) (bs : List ℕ). record { options = k.options.now; nodes = ns; bytes = bs; ids = k.ids; column = k.column; first = k.first; above = above }) ns bs

module _ (k : Walk) (w : Window) where
  abbrev v : layout.Window
  v = window_in w

  abbrev c : ℕ
  c = k.column

  abbrev at : ℕ
  at = w.node.index - k.first

  pub each_in_walk : (ws : List layout.Window) → k.first ≤ w.node.index → ArePassedEach w ws → All (IsSmaller w) ws → All (IsAfter w) ws → All (IsInWalk k.first w) ws
  each_in_walk ws l passed smaller after n d m =
      let same = same_each w ws passed n d m in
      let past : w.node.index < (get_or ws n d).node = after n d m in
      record { nodes = same.0; bytes = same.1; within = omega arith; smaller = smaller n d m }

  -- the first of those that are left
  module _ (above : Option ℕ) (ds : List Met) (s t : State) (child : Window) (xs rest : List layout.Window) (first : xs ≡ window_in child ∷ rest) (each : All (IsInWalk k.first w) xs)
      (left : Left (walk_of k w above) ds (met_in_windows c k.first xs) s t) where
    child_in : IsInWalk k.first w (window_in child)
    child_in = All-head (IsInWalk k.first w) (window_in child) rest (subst (All (IsInWalk k.first w)) first each)

    same : walk_of k child above ≡ walk_of k w above
    same = walk_same k w child above child_in.nodes child_in.bytes

    left_first : Left (walk_of k w above) ds (met_in_window c k.first (window_in child) ++ met_in_windows c k.first rest) s t
    left_first = subst (λ (xs : List layout.Window). Left (walk_of k w above) ds (met_in_windows c k.first xs) s t) first left

    pub child_within : k.first ≤ child.node.index
    child_within = child_in.within

    pub child_smaller : (numbers_of child.node).span < (numbers_of w.node).span
    child_smaller = child_in.smaller

    pub rest_in : All (IsInWalk k.first w) rest
    rest_in = All-rest (IsInWalk k.first w) (window_in child) rest xs first each

    pub child_left : (u : State) → Steps (walk_of k child above) (met_in_window c k.first (window_in child)) t u → Left (walk_of k w above) ds (met_in_windows c k.first rest) s u
    child_left u h =
        left_more (walk_of k w above) ds s (met_in_window c k.first (window_in child)) (met_in_windows c k.first rest) t u left_first
        (subst (λ (x : Walked). Steps x (met_in_window c k.first (window_in child)) t u) same h)

    pub child_refused : (f : Fault) → Refuses (walk_of k child above) (met_in_window c k.first (window_in child)) t f → Refuses (walk_of k w above) ds s f
    child_refused f h =
        left_refused (walk_of k w above) ds s (met_in_window c k.first (window_in child)) (met_in_windows c k.first rest) t f left_first
        (subst (λ (x : Walked). Refuses x (met_in_window c k.first (window_in child)) t f) same h)

  -- ---- the window itself

  pub not_dictionary : (above : Option ℕ) (s t : State) (r : Result (Unit {0}) Fault) (j : Kind) → Is (numbers_of w.node) j → (j ≡ Dictionary → ⊥) → Told (walk_of k w above) (below_window c k.first v) s t r
      → Told (walk_of k w above) (met_in_window c k.first v) s t r
  not_dictionary above s t r j is ne h = subst (λ (ds : List Met). Told (walk_of k w above) ds s t r) (sym (met_not c at v j (inside_of w) is ne)) h

  module _ (is : Is (numbers_of w.node) Dictionary) where
    abbrev values : layout.Window
    values = passed_to Dictionary v (w.node.index + 1)

    abbrev here : Met
    here = record { column = c; node = at; values = shown_in values }

    met_here : met_in_window c k.first v ≡ here ∷ []
    met_here = met_dictionary c at v (inside_of w) is

    met_there : below_window c k.first v ≡ met_from c (at + 1) (shown_in values)
    met_there = below_dictionary c (at + 1) v (inside_of w) is

    pub above_refuses : (u : ℕ) (s : State) → Refuses (walk_of k w (Some u)) (met_in_window c k.first v) s (fault_of DictionaryAboveDictionary c u)
    above_refuses u s = subst (λ (ds : List Met). Refuses (walk_of k w (Some u)) ds s (fault_of DictionaryAboveDictionary c u)) (sym met_here) (met_above (walk_of k w (Some u)) u refl s here)

    pub below_refuses : (s : State) (f : Fault) → Refuses (walk_of k w (Some at)) (below_window c k.first v) s f → Refuses (walk_of k w None) (met_in_window c k.first v) s f
    below_refuses s f h =
        let t = some_met (walk_of k w (Some at)) at refl (met_from c (at + 1) (shown_in values)) s f (subst (λ (ds : List Met). Refuses (walk_of k w (Some at)) ds s f) met_there h) in
        let column : t.0.column ≡ c = All-head (λ (d : Met). d.column ≡ c) t.0 t.1 (subst (All (λ (d : Met). d.column ≡ c)) t.2 (met_column c (at + 1) (shown_in values))) in
        let fault : f ≡ fault_of DictionaryAboveDictionary c at = t.3 ∙ ap (λ (x : ℕ). fault_of DictionaryAboveDictionary x at) column in
        subst (Refuses (walk_of k w None) (met_in_window c k.first v) s) (sym fault)
        (subst (λ (ds : List Met). Refuses (walk_of k w None) ds s (fault_of DictionaryAboveDictionary c at)) (sym met_here)
        (nested_refused (walk_of k w None) s here refl (alone_some c (at + 1) (shown_in values) t.0 t.1 t.2)))

    pub below_none : (s t : State) → Steps (walk_of k w (Some at)) (below_window c k.first v) s t → (met_in (tree_in values) ≡ []) × (t ≡ s)
    below_none s t h =
        let n = none_met (walk_of k w (Some at)) at refl (below_window c k.first v) s t h in
        (plain_shown values (met_none c (at + 1) (shown_in values) (sym met_there ∙ n.0)), n.1)

    pub here_told : (u : Window) (s t : State) (r : Result (Unit {0}) Fault) → window_in u ≡ values → Told (walk_of k u None) (record { column = c; node = at; values = shown_in (window_in u) } ∷ []) s t r
        → Told (walk_of k w None) (met_in_window c k.first v) s t r
    here_told u s t r e h =
        let walk : walk_of k u None ≡ walk_of k w None = walk_same k w u None (ap (λ (x : layout.Window). x.nodes) e) (ap (λ (x : layout.Window). x.bytes) e) in
        let met : ◌≡◌ {A = List Met} (record { column = c; node = at; values = shown_in (window_in u) } ∷ []) (met_in_window c k.first v) =
        ap (λ (x : layout.Window). record { column = c; node = at; values = shown_in x } ∷ []) e ∙ sym met_here in
        subst (λ (ds : List Met). Told (walk_of k w None) ds s t r) met
        (subst (λ (x : Walked). Told x (record { column = c; node = at; values = shown_in (window_in u) } ∷ []) s t r) walk h)
