-- The dictionaries met in what windows show, and where each stands.
use Rattle.std.proofs.Common.{◌≡◌, ℕ, ◌+◌, ◌-◌, ◌≤◌, true, false, List, [], ◌∷◌, ◌++◌, map, All, Some, sym, refl, ap, ap₂, ◌∙◌, subst, append-nil, arith}
use Rattle.std.proofs.lemmas.List.Elements.{All-nil, All-cons, All-append, All-same, All-map}
use Rattle.layout.specs.declared.fault.Refusal.TheVariants.{KindOrSize, Nesting}
use Rattle.layout.specs.declared.kind.Kind.{Kind}
use Rattle.layout.specs.declared.kind.Kind.TheVariants.{Null, Boolean, Fixed, Bytes32, Bytes64, List32, List64, Struct, Dictionary}
use Rattle.layout.specs.declared.node.Node.{Node}
use Rattle.layout.specs.Nodes.{node_at, end_of}
use Rattle.layout.specs.Rules.{Is, SideBySide}
use Rattle.layout.specs.Shown.{Shown, Showns, nulls, bools, fixed, bytes, lists, struct, dictionary, none, more, below, met, met_all}
use Rattle.layout.specs.Trees.{Tree, Forest, root_of, rows_of, tree_as, trees_in}
use Rattle.layout.specs.Windows.{shown, met_in, Window, Inside, tree_in, shown_in, top_in, rows_at, passed_to, shown_side}
use Rattle.laws.proofs.Lists.{map-append}
use Rattle.laws.proofs.Passing.{passing}
use Rattle.laws.proofs.Says.{meets}
use Rattle.laws.proofs.Table.{tree_as_lem, root_is}
use Rattle.recording.specs.declared.window.Window as code
use Rattle.recording.specs.NodeRefs.{table_of, run_of}
use Rattle.recording.specs.Passing.{ArePassedEach}
use Rattle.recording.specs.Places.{Place, children_of}
use Rattle.recording.specs.Windows.{window_in}
use Rattle.recording.proofs.Below.{sides_are}
use Rattle.recording.proofs.Reading.{rules_at}
use Rattle.dictionaries.specs.Collecting.{Met, label_in, met_from, met_from_all, met_columns, alone}
use Rattle.dictionaries.specs.Walking.{met_in_window, met_in_windows}
use Rattle.dictionaries.specs.Walks.{below_window}

-- ---- by the kind of the node

-- of a tree of any kind but Dictionary, what is met is met below its node
below_by : (c i : ℕ) (k : Kind) (bs : List ℕ) (n : Node) (f : Forest) (a r : ℕ) → (k ≡ Dictionary → ⊥)
    → met_from c i (shown bs (tree_as (Some k) n f) a r) ≡ met_from_all c (i + 1) (below (shown bs (tree_as (Some k) n f) a r))
unfolding met_from shown
below_by c i Null bs n f a r plain = refl
below_by c i Boolean bs n f a r plain = refl
below_by c i Fixed bs n f a r plain = refl
below_by c i Bytes32 bs n f a r plain = refl
below_by c i Bytes64 bs n f a r plain = refl
below_by c i List32 bs n f a r plain = sym (append-nil _)
below_by c i List64 bs n f a r plain = sym (append-nil _)
below_by c i Struct bs n f a r plain = refl
below_by c i Dictionary bs n f a r plain = absurd (plain refl)

pub met_not : (c i : ℕ) (w : Window) (k : Kind) → Inside w → Is (top_in w) k → (k ≡ Dictionary → ⊥) → met_from c i (shown_in w) ≡ met_from_all c (i + 1) (below (shown_in w))
met_not c i w k g is plain =
    let f = trees_in w.nodes (w.node + 1) (end_of w.nodes w.node) in
    subst (λ (t : Tree). met_from c i (shown w.bytes t w.first w.rows) ≡ met_from_all c (i + 1) (below (shown w.bytes t w.first w.rows)))
    (sym (tree_as_lem (top_in w) f k is)) (below_by c i k w.bytes (top_in w) f w.first w.rows plain)

pub met_dictionary : (c i : ℕ) (w : Window) → Inside w → Is (top_in w) Dictionary
    → met_from c i (shown_in w) ≡ record { column = c; node = i; values = shown_in (passed_to Dictionary w (w.node + 1)) } ∷ []
unfolding met_from
met_dictionary c i w g is = ap (met_from c i) (passing.dictionary w g is)

pub below_dictionary : (c i : ℕ) (w : Window) → Inside w → Is (top_in w) Dictionary
    → met_from_all c i (below (shown_in w)) ≡ met_from c i (shown_in (passed_to Dictionary w (w.node + 1)))
unfolding met_from
below_dictionary c i w g is =
    ap (λ (s : Shown). met_from_all c i (below s)) (passing.dictionary w g is) ∙ append-nil (met_from c i (shown_in (passed_to Dictionary w (w.node + 1))))

-- ---- all are in the column

abbrev InColumn : ℕ → Met → Type 0
InColumn c d = d.column ≡ c

mutual
  unfolding met_from

  pub met_column : (c i : ℕ) (s : Shown) → All (λ (d : Met). d.column ≡ c) (met_from c i s)
  met_column c i (nulls l n) = All-nil (InColumn c)
  met_column c i (bools l m b) = All-nil (InColumn c)
  met_column c i (fixed l w m vs) = All-nil (InColumn c)
  met_column c i (bytes l w m vs) = All-nil (InColumn c)
  met_column c i (lists l w m cs s) = met_column c (i + 1) s
  met_column c i (struct l m n ss) = met_column_all c (i + 1) ss
  met_column c i (dictionary l w m ks s) = All-cons (InColumn c) (record { column = c; node = i; values = s }) [] refl (All-nil (InColumn c))

  pub met_column_all : (c i : ℕ) (ss : Showns) → All (λ (d : Met). d.column ≡ c) (met_from_all c i ss)
  met_column_all c i none = All-nil (InColumn c)
  met_column_all c i (more s ss) =
      All-append (InColumn c) (met_from c i s) (met_from_all c (i + (label_in s).span) ss) (met_column c i s) (met_column_all c (i + (label_in s).span) ss)

-- ---- their values are what a message sends of them

abbrev values_of : Met → Shown
values_of d = d.values

mutual
  unfolding met_from met

  pub met_values : (c i : ℕ) (s : Shown) → map (λ (d : Met). d.values) (met_from c i s) ≡ met s
  met_values c i (nulls l n) = refl
  met_values c i (bools l m b) = refl
  met_values c i (fixed l w m vs) = refl
  met_values c i (bytes l w m vs) = refl
  met_values c i (lists l w m cs s) = met_values c (i + 1) s
  met_values c i (struct l m n ss) = met_values_all c (i + 1) ss
  met_values c i (dictionary l w m ks s) = refl

  pub met_values_all : (c i : ℕ) (ss : Showns) → map (λ (d : Met). d.values) (met_from_all c i ss) ≡ met_all ss
  met_values_all c i none = refl
  met_values_all c i (more s ss) =
      map-append values_of (met_from c i s) (met_from_all c (i + (label_in s).span) ss)
      ∙ ap₂ {C = List Shown} (λ x y. x ++ y) (met_values c i s) (met_values_all c (i + (label_in s).span) ss)

-- ---- one is met exactly if one is listed

map_none : {X Y : Type 0} (f : X → Y) (xs : List X) → map f xs ≡ [] → xs ≡ []
map_none f [] e = refl
map_none f (x ∷ xs) e = cc

pub met_none : (c i : ℕ) (s : Shown) → met_from c i s ≡ [] → met s ≡ []
met_none c i s e = sym (met_values c i s) ∙ ap (map values_of) e

pub met_some : (c i : ℕ) (s : Shown) → met s ≡ [] → met_from c i s ≡ []
met_some c i s e = map_none values_of (met_from c i s) (met_values c i s ∙ e)

-- by the nodes alone
pub plain_shown : (w : Window) → met (shown_in w) ≡ [] → met_in (tree_in w) ≡ []
plain_shown w e = map_none (λ (d : Tree). shown w.bytes d 0 (rows_of d)) (met_in (tree_in w)) (sym (meets w.bytes (tree_in w) w.first w.rows) ∙ e)

pub shown_plain : (w : Window) → met_in (tree_in w) ≡ [] → met (shown_in w) ≡ []
shown_plain w e = meets w.bytes (tree_in w) w.first w.rows ∙ ap (map (λ (d : Tree). shown w.bytes d 0 (rows_of d))) e

pub alone_none : (c i : ℕ) (s : Shown) → met_from c i s ≡ [] → alone (met s) ≡ true
alone_none c i s e = ap alone (met_none c i s e)

pub alone_some : (c i : ℕ) (s : Shown) (d : Met) (ds : List Met) → met_from c i s ≡ d ∷ ds → alone (met s) ≡ false
alone_some c i s d ds e = ap alone (sym (met_values c i s) ∙ ap (map values_of) e)

-- ---- where they stand: a next child stands span nodes further

label_span : (bs : List ℕ) (t : Tree) (a n : ℕ) → (label_in (shown bs t a n)).span ≡ (root_of t).span
unfolding shown
label_span bs (Tree.nulls n) a r = refl
label_span bs (Tree.bools n) a r = refl
label_span bs (Tree.fixed n) a r = refl
label_span bs (Tree.bytes w n) a r = refl
label_span bs (Tree.lists w n t) a r = refl
label_span bs (Tree.struct n f) a r = refl
label_span bs (Tree.dictionary n t) a r = refl

span_shown : (u : Window) → (label_in (shown_in u)).span ≡ (top_in u).span
span_shown u =
    label_span u.bytes (tree_in u) u.first u.rows
    ∙ ap (λ (n : Node). n.span) (root_is (top_in u) (trees_in u.nodes (u.node + 1) (end_of u.nodes u.node)))

-- a window passed is of the child, in the same recording
passed_at : (k : Kind) (w : Window) (c : ℕ) → passed_to k w c ≡ rows_at w c (passed_to k w c).first (passed_to k w c).rows
passed_at Null w c = refl
passed_at Boolean w c = refl
passed_at Fixed w c = refl
passed_at Bytes32 w c = refl
passed_at Bytes64 w c = refl
passed_at List32 w c = refl
passed_at List64 w c = refl
passed_at Struct w c = refl
passed_at Dictionary w c = refl

-- windows passed to children side by side
met_sides : (c first : ℕ) (k : Kind) (v : Window) (cs : List ℕ) (p e : ℕ) → first ≤ p → SideBySide v.nodes p cs e
    → met_in_windows c first (map (passed_to k v) cs) ≡ met_from_all c (p - first) (shown_side (map (passed_to k v) cs))
unfolding met_from
met_sides c first k v [] p e l s = refl
met_sides c first k v (d ∷ ds) p e l s =
    let u : Window = passed_to k v d in
    let node : u.node ≡ p = ap (λ (x : Window). x.node) (passed_at k v d) ∙ s.0 in
    let table : u.nodes ≡ v.nodes = ap (λ (x : Window). x.nodes) (passed_at k v d) in
    let span : (top_in u).span ≡ (node_at v.nodes p).span = ap₂ (λ (ns : List Node) (i : ℕ). (node_at ns i).span) table node in
    let here : u.node - first ≡ p - first = omega arith in
    let next : end_of v.nodes p - first ≡ p - first + (label_in (shown_in u)).span = omega (arith, span_shown u) in
    ap₂ {C = List Met} (λ x y. x ++ y) (ap (λ (i : ℕ). met_from c i (shown_in u)) here)
    (met_sides c first k v ds (end_of v.nodes p) e (omega arith) s.2 ∙ ap (λ (i : ℕ). met_from_all c i (shown_side (map (passed_to k v) ds))) next)

map_twice : {X Y Z : Type 0} (f : Y → Z) (g : X → Y) (xs : List X) → map f (map g xs) ≡ map (λ x. f (g x)) xs
map_twice f g [] = refl
map_twice f g (x ∷ xs) = ap (λ ys. f (g x) ∷ ys) (map_twice f g xs)

-- of windows that a window passes to the children of its node
pub met_below : (c first : ℕ) (w : code.Window) (ws : List Window) → first ≤ w.node.index → ArePassedEach w ws → shown_side ws ≡ below (shown_in (window_in w))
    → met_in_windows c first ws ≡ below_window c first (window_in w)
met_below c first w ws l each shows =
    let t = rules_at w.node KindOrSize in
    let nest = rules_at w.node Nesting in
    let v : Window = window_in w in
    let i : ℕ = w.node.index in
    let end : ℕ = end_of (table_of w.node) i in
    let are : ws ≡ map (passed_to t.kind v) nest.children =
    each t.kind t.is
    ∙ ap (map (λ (p : Place). passed_to t.kind v p.1)) (sides_are w.node.recording nest.children (i + 1) end nest.fill)
    ∙ map_twice (λ (p : Place). passed_to t.kind v p.1) (λ (c : ℕ). (w.node.recording, c)) nest.children in
    let start : i + 1 - first ≡ i - first + 1 = omega arith in
    ap (met_in_windows c first) are
    ∙ met_sides c first t.kind v nest.children (i + 1) end (omega arith) nest.fill
    ∙ ap₂ (met_from_all c) start (ap shown_side (sym are) ∙ shows)

-- such windows are in the same recording
pub same_each : (w : code.Window) (ws : List Window) → ArePassedEach w ws → All (λ (u : Window). (u.nodes ≡ table_of w.node) × (u.bytes ≡ run_of w.node)) ws
same_each w ws each =
    let t = rules_at w.node KindOrSize in
    let v : Window = window_in w in
    All-same (λ (u : Window). (u.nodes ≡ v.nodes) × (u.bytes ≡ v.bytes)) ws (map (λ (p : Place). passed_to t.kind v p.1) (children_of w.node)) (each t.kind t.is)
    (All-map (λ (u : Window). (u.nodes ≡ v.nodes) × (u.bytes ≡ v.bytes)) (λ (p : Place). passed_to t.kind v p.1) (children_of w.node)
    (λ k d m. (ap (λ (u : Window). u.nodes) (passed_at t.kind v _), ap (λ (u : Window). u.bytes) (passed_at t.kind v _))))

-- ---- columns side by side, all rows of each

abbrev pub met_in_columns : ℕ → List Window → List Met
met_in_columns c [] = []
met_in_columns c (w ∷ ws) = met_in_window c w.node w ++ met_in_columns (c + 1) ws

pub met_columns_are : (c : ℕ) (ws : List Window) → met_columns c (shown_side ws) ≡ met_in_columns c ws
met_columns_are c [] = refl
met_columns_are c (w ∷ ws) =
    let here : 0 ≡ w.node - w.node = omega arith in
    ap₂ {C = List Met} (λ x y. x ++ y) (ap (λ (i : ℕ). met_from c i (shown_in w)) here) (met_columns_are (c + 1) ws)
