-- The windows that a window passes to the children of its node.
use Rattle.std.proofs.Common.{◌≡◌, ℕ, ◌+◌, ◌≤◌, List, [], ◌∷◌, map, length, All, Some, sym, refl, ap, ap₂, ◌∙◌, arith}
use Rattle.std.proofs.lemmas.List.Elements.{All-head, All-rest, All-map}
use Rattle.layout.specs.declared.fault.Refusal.TheVariants.{KindOrSize, Nesting}
use Rattle.layout.specs.declared.kind.Kind.{Kind}
use Rattle.layout.specs.declared.kind.Kind.TheVariants.{Null, Boolean, Fixed, Bytes32, Bytes64, List32, List64, Struct, Dictionary}
use Rattle.layout.specs.declared.node.Node.{Node}
use Rattle.layout.specs.Nodes.{node_at, end_of}
use Rattle.layout.specs.Rules.{Is, SideBySide, Nested, ChildrenFit}
use Rattle.layout.specs.Shown.{none, more, below}
use Rattle.layout.specs.Trees.{trees_in, tree_as}
use Rattle.layout.specs.Windows as layout
use Rattle.layout.specs.Windows.{shown, shown_in, shown_side, passed_to, top_in}
use Rattle.layout.proofs.Kids.{side_le}
use Rattle.laws.proofs.Passing.{passing, child_facts}
use Rattle.recording.specs.declared.window.Window.{Window}
use Rattle.recording.specs.NodeRefs.{table_of, numbers_of}
use Rattle.recording.specs.Passing.{ArePassed, ArePassedEach, rows_of_places, IsSmaller, IsAfter}
use Rattle.recording.specs.Places.{Place, rows_at, children_of, IsChildPlace}
use Rattle.recording.specs.Windows.{window_at, window_in}
use Rattle.recording.proofs.Below.{sides_are}
use Rattle.recording.proofs.Reading.{rules_at}
use Rattle.recording.proofs.WindowFacts.{tree_of, inside_of, place_inside, is_passed}

map_same : {X Y : Type 0} (f g : X → Y) (xs : List X) → All (λ x. f x ≡ g x) xs → map f xs ≡ map g xs
map_same f g [] h = refl
map_same f g (x ∷ xs) h =
    ap₂ (λ y ys. y ∷ ys) (All-head (λ x. f x ≡ g x) x xs h) (map_same f g xs (All-rest (λ x. f x ≡ g x) x xs (x ∷ xs) refl h))

map_twice : {X Y Z : Type 0} (f : Y → Z) (g : X → Y) (xs : List X) → map f (map g xs) ≡ map (λ x. f (g x)) xs
map_twice f g [] = refl
map_twice f g (x ∷ xs) = ap (λ ys. f (g x) ∷ ys) (map_twice f g xs)

module _ (w : Window) where
  abbrev ns : List Node
  ns = table_of w.node

  abbrev i : ℕ
  i = w.node.index

  abbrev v : layout.Window
  v = window_in w

  pub nested : Nested ns i
  nested = rules_at w.node Nesting

  -- they lie inside their nodes' rows
  pub each_inside : (x y : ℕ) (ps : List Place) → All (IsChildPlace w.node) ps → ArePassed w x y → All (λ p. x + y ≤ rows_at p) ps
  each_inside x y ps each t = λ k d l. place_inside w _ x y (each k d l) t

  pub each_passed : (x y : ℕ) (ps : List Place) → All (IsChildPlace w.node) ps → ps ≡ children_of w.node → ArePassed w x y → ArePassedEach w (rows_of_places x y ps)
  each_passed x y ps each are t k is =
      map_same (λ (p : Place). window_at p.0 p.1 x y) (λ (p : Place). passed_to k v p.1) ps (λ n d l. is_passed w _ x y (each n d l) t k is)
      ∙ ap (map (λ (p : Place). passed_to k v p.1)) are

  -- ---- what they show

  -- the children by their numbers
  pub numbered : (k : Kind) → map (λ (p : Place). passed_to k v p.1) (children_of w.node) ≡ map (passed_to k v) nested.children
  numbered k =
      ap (map (λ (p : Place). passed_to k v p.1)) (sides_are w.node.recording nested.children (i + 1) (end_of ns i) nested.fill)
      ∙ map_twice (λ (p : Place). passed_to k v p.1) (λ (c : ℕ). (w.node.recording, c)) nested.children

  -- one child is the next node
  one_shown : (k : Kind) (cs : List ℕ) → SideBySide ns (i + 1) cs (end_of ns i) → length cs ≡ 1 → shown_side (map (passed_to k v) cs) ≡ more (shown_in (passed_to k v (i + 1))) none
  one_shown k [] s e = absurd (omega arith)
  one_shown k (c ∷ []) s e = ap (λ (c : ℕ). more (shown_in (passed_to k v c)) none) s.0
  one_shown k (c ∷ d ∷ cs) s e = absurd (omega arith)

  none_shown : (k : Kind) (cs : List ℕ) → length cs ≡ 0 → shown_side (map (passed_to k v) cs) ≡ none
  none_shown k [] e = refl
  none_shown k (c ∷ cs) e = absurd (omega arith)

  -- what is shown by the kind
  shown_kind : (k : Kind) → Is (numbers_of w.node) k → shown_in v ≡ shown v.bytes (tree_as (Some k) (top_in v) (trees_in ns (i + 1) (end_of ns i))) v.first v.rows
  shown_kind k is = ap (λ t. shown v.bytes t v.first v.rows) (tree_of w.node k is)

  alone : (k : Kind) → Is (numbers_of w.node) k → ((m : ℕ) → ChildrenFit k m → m ≡ 0) → below (shown v.bytes (tree_as (Some k) (top_in v) (trees_in ns (i + 1) (end_of ns i))) v.first v.rows) ≡ none
      → shown_side (map (passed_to k v) nested.children) ≡ below (shown_in v)
  alone k is zero_of e = none_shown k nested.children (zero_of (length nested.children) (nested.count k is)) ∙ sym e ∙ ap below (sym (shown_kind k is))

  one_below : (k : Kind) → Is (numbers_of w.node) k → ((m : ℕ) → ChildrenFit k m → m ≡ 1) → more (shown_in (passed_to k v (i + 1))) none ≡ below (shown_in v)
      → shown_side (map (passed_to k v) nested.children) ≡ below (shown_in v)
  one_below k is one e = one_shown k nested.children nested.fill (one (length nested.children) (nested.count k is)) ∙ e

  shown_by : (k : Kind) → Is (numbers_of w.node) k → shown_side (map (passed_to k v) nested.children) ≡ below (shown_in v)
  unfolding shown
  shown_by Null is = alone Null is (λ m e. e) refl
  shown_by Boolean is = alone Boolean is (λ m e. e) refl
  shown_by Fixed is = alone Fixed is (λ m e. e) refl
  shown_by Bytes32 is = alone Bytes32 is (λ m e. e) refl
  shown_by Bytes64 is = alone Bytes64 is (λ m e. e) refl
  shown_by List32 is = one_below List32 is (λ m e. e) (ap below (sym (passing.list32 v (inside_of w) is)))
  shown_by List64 is = one_below List64 is (λ m e. e) (ap below (sym (passing.list64 v (inside_of w) is)))
  shown_by Struct is = ap below (sym (passing.struct v nested.children (inside_of w) is nested.fill))
  shown_by Dictionary is = one_below Dictionary is (λ m e. e) (ap below (sym (passing.dictionary v (inside_of w) is)))

  pub each_shown : (ws : List layout.Window) → ArePassedEach w ws → shown_side ws ≡ below (shown_in v)
  each_shown ws h = let t = rules_at w.node KindOrSize in ap shown_side (h t.kind t.is ∙ numbered t.kind) ∙ shown_by t.kind t.is

  -- ---- their trees are smaller

  pub place_smaller : (x y : ℕ) (p : Place) → IsChildPlace w.node p → IsSmaller w (window_at p.0 p.1 x y)
  place_smaller x y p (rec, of) =
      let child = child_facts ns i p.1 nested of in
      let low = side_le ns of.0.0 (i + 1) p.1 of.0.1 in
      let same : (top_in (window_at p.0 p.1 x y)).span ≡ (node_at ns p.1).span = ap (λ r. (top_in (window_at r p.1 x y)).span) rec in
      omega (arith, child.high, nested.some)

  pub each_smaller : (x y : ℕ) (ps : List Place) → All (IsChildPlace w.node) ps → All (IsSmaller w) (rows_of_places x y ps)
  each_smaller x y ps each = All-map (IsSmaller w) (λ (p : Place). window_at p.0 p.1 x y) ps (λ k d l. place_smaller x y _ (each k d l))

  pub each_after : (x y : ℕ) (ps : List Place) → All (IsChildPlace w.node) ps → All (IsAfter w) (rows_of_places x y ps)
  each_after x y ps each =
      All-map (IsAfter w) (λ (p : Place). window_at p.0 p.1 x y) ps (λ k d l. let of = (each k d l).1 in omega (arith, side_le ns of.0.0 (i + 1) _ of.0.1))
