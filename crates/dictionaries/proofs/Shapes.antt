-- Nodes that agree one by one, and trees and windows of one shape.
use Rattle.std.proofs.Common.{◌≡◌, ℕ, zero, suc, ◌+◌, ◌-◌, ◌<◌, ◌≤◌, Bool, true, false, cond, not, ◌&&◌, ◌||◌, ◌↔◌, eqb, List, [], ◌∷◌, ◌++◌, map, length, Some, None, Option, sym, refl, ap, ◌∙◌, ap₂, inl, inr, add-zero, arith}
use Rattle.std.specs.List.{range_with_len, list_all}
use Rattle.std.proofs.lemmas.Bool.{and_parts, and_from, or_cases, or_left, or_right, not-true, eqb-true, eq-eqb, both_ways, cases_eq, cases_lt, cases_Bool}
use Rattle.layout.specs.declared.fault.Refusal.{Refusal}
use Rattle.layout.specs.declared.fault.Refusal.TheVariants.{KindOrSize, Nesting}
use Rattle.layout.specs.declared.kind.Kind.{Kind}
use Rattle.layout.specs.declared.kind.Kind.TheVariants.{Null, Boolean, Fixed, Bytes32, Bytes64, List32, List64, Struct, Dictionary}
use Rattle.layout.specs.declared.node.Node.{Node}
use Rattle.layout.specs.declared.number.Width.{Width}
use Rattle.layout.specs.Numbers.{wide}
use Rattle.layout.specs.Kinds.{kind_number, offset_width, has_data}
use Rattle.layout.specs.Nodes.{node_at, end_of}
use Rattle.layout.specs.Rules.{Is, SideBySide, Filled, Nested, ChildrenFit, Rule}
use Rattle.layout.specs.Opening.{Kept}
use Rattle.layout.specs.Trees.{Tree, Forest, none, more, child_of, tree_as, tree_of, trees_in, tree_at}
use Rattle.layout.specs.Shown.{Shape, Shapes}
use Rattle.layout.specs.Windows.{shape_of, shapes_of, met_in, met_in_all, Window, Inside, tree_in, top_in, shape_in, passed_to}
use Rattle.layout.proofs.Opening.{kept_rule}
use Rattle.layout.proofs.Kids.{side_le, filled_first}
use Rattle.laws.proofs.Table.{at_none, at_more, tree_as_lem}
use Rattle.laws.proofs.Kept.{one_is, child_is}
use Rattle.dictionaries.specs.Rows.{uses_size, same_node, same_nodes, Alike, elements_in, Pairwise}

-- ---- a test of every number from a on

pub all_at : (p : ℕ → Bool) (a n x : ℕ) → list_all p (range_with_len a n) ≡ true → a ≤ x → x < a + n → p x ≡ true
all_at p a zero x h l m = absurd (omega arith)
all_at p a (suc n) x h l m =
    let b = and_parts (p a) (list_all p (range_with_len (a + 1) n)) h in
    elim (cases_eq x a) [ inl e ↦ rw e b.0 | inr ne ↦ all_at p (a + 1) n x b.1 (omega arith) (omega arith) ]

pub all_from : (p : ℕ → Bool) (a n : ℕ) → ((x : ℕ) → a ≤ x → x < a + n → p x ≡ true) → list_all p (range_with_len a n) ≡ true
all_from p a zero h = refl
all_from p a (suc n) h =
    and_from (p a) (list_all p (range_with_len (a + 1) n)) (h a (omega arith) (omega arith)) (all_from p (a + 1) n (λ x l m. h x (omega arith) (omega arith)))

-- ---- nodes that agree

pub record Agree (m n : Node) : Type 0 where
  pub kind : m.kind ≡ n.kind
  pub mark : m.mark ≡ n.mark
  pub span : m.span ≡ n.span
  pub size : uses_size m.kind ≡ true → m.size ≡ n.size

pub agree_tells : (m n : Node) → same_node m n ≡ true → Agree m n
agree_tells m n h =
    let size = not (uses_size m.kind) || eqb m.size n.size in
    let a = and_parts (eqb m.kind n.kind) (eqb m.mark n.mark && (eqb m.span n.span && size)) h in
    let b = and_parts (eqb m.mark n.mark) (eqb m.span n.span && size) a.1 in
    let c = and_parts (eqb m.span n.span) size b.1 in
    record {
      kind = eqb-true _ _ a.0;
      mark = eqb-true _ _ b.0;
      span = eqb-true _ _ c.0;
      size = λ u. elim (or_cases (not (uses_size m.kind)) (eqb m.size n.size) c.1) [ inl f ↦ absurd (both_ways _ (not-true _ f) u) | inr e ↦ eqb-true _ _ e ];
    }

pub agree_from : (m n : Node) → Agree m n → same_node m n ≡ true
agree_from m n a =
    and_from _ _ (eq-eqb _ _ a.kind) (and_from _ _ (eq-eqb _ _ a.mark) (and_from _ _ (eq-eqb _ _ a.span) last))
  where
    last : (not (uses_size m.kind) || eqb m.size n.size) ≡ true
    last = elim (cases_Bool (uses_size m.kind)) [
      | inl u ↦ or_right (not (uses_size m.kind)) (eqb m.size n.size) (eq-eqb _ _ (a.size u))
      | inr f ↦ or_left (not (uses_size m.kind)) (eqb m.size n.size) (ap not f)
    ]

-- n nodes from p on, and as many from q on
abbrev pub AgreeAll : List Node → ℕ → List Node → ℕ → ℕ → Type 0
AgreeAll ns p ms q n = (x : ℕ) → x < n → Agree (node_at ns (p + x)) (node_at ms (q + x))

module _ (ns ms : List Node) where
  all_tell : (p q n : ℕ) → same_nodes ns p ms q n ≡ true → AgreeAll ns p ms q n
  all_tell p q n h x l =
      agree_tells (node_at ns (p + x)) (node_at ms (q + x)) (all_at (λ k. same_node (node_at ns (p + k)) (node_at ms (q + k))) 0 n x h (omega arith) (omega arith))

  all_agree : (p q n : ℕ) → AgreeAll ns p ms q n → same_nodes ns p ms q n ≡ true
  all_agree p q n h =
      all_from (λ k. same_node (node_at ns (p + k)) (node_at ms (q + k))) 0 n
      (λ x l m. agree_from (node_at ns (p + x)) (node_at ms (q + x)) (h x (omega arith)))

  agree_at : (a b c d : ℕ) → a ≡ b → c ≡ d → Agree (node_at ns a) (node_at ms c) → Agree (node_at ns b) (node_at ms d)
  agree_at a b c d e f h = rw (← e, ← f) h

  all_first : (p q n : ℕ) → AgreeAll ns p ms q n → 0 < n → Agree (node_at ns p) (node_at ms q)
  all_first p q n h l = agree_at (p + 0) p (q + 0) q (add-zero p) (add-zero q) (h 0 l)

  -- m of those after the first a
  all_later : (p q r s a m n : ℕ) → AgreeAll ns p ms q n → r ≡ p + a → s ≡ q + a → a + m ≤ n → AgreeAll ns r ms s m
  all_later p q r s a m n h e f l x k = agree_at (p + (a + x)) (r + x) (q + (a + x)) (s + x) (omega arith) (omega arith) (h (a + x) (omega arith))

  -- a nodes, and those after them
  all_join : (p q r s a m n : ℕ) → AgreeAll ns p ms q a → AgreeAll ns r ms s m → r ≡ p + a → s ≡ q + a → n ≤ a + m → AgreeAll ns p ms q n
  all_join p q r s a m n h g e f l x k =
      elim (cases_lt x a) [
        | inl i ↦ h x i
        | inr i ↦ agree_at (r + (x - a)) (p + x) (s + (x - a)) (q + x) (omega arith) (omega arith) (g (x - a) (omega arith))
      ]

  all_one : (p q : ℕ) → Agree (node_at ns p) (node_at ms q) → AgreeAll ns p ms q 1
  all_one p q h x l = agree_at p (p + x) q (q + x) (omega arith) (omega arith) h

-- ---- the shape of a tree, by its kind, its node and the shapes of the trees below

abbrev first_shape : Shape → Shapes → Shape
first_shape s Shapes.none = s
first_shape s (Shapes.more t ts) = t

abbrev rest_shapes : Shapes → Shapes
rest_shapes Shapes.none = Shapes.none
rest_shapes (Shapes.more t ts) = ts

abbrev many : Shapes → ℕ
many Shapes.none = 0
many (Shapes.more t ts) = 1

abbrev shape_by : Kind → Node → Shapes → Shape
shape_by Null n ss = Shape.nulls n.mark
shape_by Boolean n ss = Shape.bools n.mark
shape_by Fixed n ss = Shape.fixed n.mark n.size
shape_by Bytes32 n ss = Shape.bytes n.mark 4
shape_by Bytes64 n ss = Shape.bytes n.mark 8
shape_by List32 n ss = Shape.lists n.mark 4 (first_shape (Shape.nulls n.mark) ss)
shape_by List64 n ss = Shape.lists n.mark 8 (first_shape (Shape.nulls n.mark) ss)
shape_by Struct n ss = Shape.struct n.mark ss
shape_by Dictionary n ss = Shape.dictionary n.mark n.size (first_shape (Shape.nulls n.mark) ss)

child_shape : (n : Node) (f : Forest) → shape_of (child_of n f) ≡ first_shape (Shape.nulls n.mark) (shapes_of f)
unfolding shape_of
child_shape n none = refl
child_shape n (more t f) = refl

shape_as : (k : Kind) (n : Node) (f : Forest) → shape_of (tree_as (Some k) n f) ≡ shape_by k n (shapes_of f)
unfolding shape_of
shape_as Null n f = refl
shape_as Boolean n f = refl
shape_as Fixed n f = refl
shape_as Bytes32 n f = refl
shape_as Bytes64 n f = refl
shape_as List32 n f = ap (Shape.lists n.mark 4) (child_shape n f)
shape_as List64 n f = ap (Shape.lists n.mark 8) (child_shape n f)
shape_as Struct n f = refl
shape_as Dictionary n f = ap (Shape.dictionary n.mark n.size) (child_shape n f)

shape_is : (k : Kind) (n : Node) (f : Forest) → Is n k → shape_of (tree_of n f) ≡ shape_by k n (shapes_of f)
shape_is k n f is = ap shape_of (tree_as_lem n f k is) ∙ shape_as k n f

-- of two nodes that agree
same_by : (k : Kind) (m n : Node) (ss : Shapes) → m.mark ≡ n.mark → (uses_size (kind_number k) ≡ true → m.size ≡ n.size) → shape_by k m ss ≡ shape_by k n ss
same_by Null m n ss e f = ap Shape.nulls e
same_by Boolean m n ss e f = ap Shape.bools e
same_by Fixed m n ss e f = ap₂ Shape.fixed e (f refl)
same_by Bytes32 m n ss e f = ap (λ (x : ℕ). Shape.bytes x 4) e
same_by Bytes64 m n ss e f = ap (λ (x : ℕ). Shape.bytes x 8) e
same_by List32 m n ss e f = ap (λ (x : ℕ). Shape.lists x 4 (first_shape (Shape.nulls x) ss)) e
same_by List64 m n ss e f = ap (λ (x : ℕ). Shape.lists x 8 (first_shape (Shape.nulls x) ss)) e
same_by Struct m n ss e f = ap (λ (x : ℕ). Shape.struct x ss) e
same_by Dictionary m n ss e f = ap₂ (λ (x y : ℕ). Shape.dictionary x y (first_shape (Shape.nulls x) ss)) e (f refl)

agree_shape : (k : Kind) (m n : Node) (f g : Forest) → Is m k → Agree m n → shapes_of f ≡ shapes_of g → shape_of (tree_of m f) ≡ shape_of (tree_of n g)
agree_shape k m n f g is a e =
    shape_is k m f is
    ∙ ap (shape_by k m) e
    ∙ same_by k m n (shapes_of g) a.mark (λ u. a.size (ap uses_size is ∙ u))
    ∙ sym (shape_is k n g (sym a.kind ∙ is))

-- ---- what a shape tells of its node

abbrev kind_in : Shape → ℕ
kind_in (Shape.nulls m) = 0
kind_in (Shape.bools m) = 1
kind_in (Shape.fixed m s) = 2
kind_in (Shape.bytes m w) = cond (eqb w 4) 3 4
kind_in (Shape.lists m w s) = cond (eqb w 4) 5 6
kind_in (Shape.struct m ss) = 7
kind_in (Shape.dictionary m w s) = 8

abbrev mark_of : Shape → ℕ
mark_of (Shape.nulls m) = m
mark_of (Shape.bools m) = m
mark_of (Shape.fixed m s) = m
mark_of (Shape.bytes m w) = m
mark_of (Shape.lists m w s) = m
mark_of (Shape.struct m ss) = m
mark_of (Shape.dictionary m w s) = m

abbrev size_of : Shape → ℕ
size_of (Shape.nulls m) = 0
size_of (Shape.bools m) = 0
size_of (Shape.fixed m s) = s
size_of (Shape.bytes m w) = 0
size_of (Shape.lists m w s) = 0
size_of (Shape.struct m ss) = 0
size_of (Shape.dictionary m w s) = w

-- the shapes of the trees below
abbrev below : Shape → Shapes
below (Shape.nulls m) = Shapes.none
below (Shape.bools m) = Shapes.none
below (Shape.fixed m s) = Shapes.none
below (Shape.bytes m w) = Shapes.none
below (Shape.lists m w s) = Shapes.more s Shapes.none
below (Shape.struct m ss) = ss
below (Shape.dictionary m w s) = Shapes.more s Shapes.none

kind_by : (k : Kind) (n : Node) (ss : Shapes) → kind_in (shape_by k n ss) ≡ kind_number k
kind_by Null n ss = refl
kind_by Boolean n ss = refl
kind_by Fixed n ss = refl
kind_by Bytes32 n ss = refl
kind_by Bytes64 n ss = refl
kind_by List32 n ss = refl
kind_by List64 n ss = refl
kind_by Struct n ss = refl
kind_by Dictionary n ss = refl

mark_by : (k : Kind) (n : Node) (ss : Shapes) → mark_of (shape_by k n ss) ≡ n.mark
mark_by Null n ss = refl
mark_by Boolean n ss = refl
mark_by Fixed n ss = refl
mark_by Bytes32 n ss = refl
mark_by Bytes64 n ss = refl
mark_by List32 n ss = refl
mark_by List64 n ss = refl
mark_by Struct n ss = refl
mark_by Dictionary n ss = refl

size_by : (k : Kind) (n : Node) (ss : Shapes) → uses_size (kind_number k) ≡ true → size_of (shape_by k n ss) ≡ n.size
size_by Null n ss u = absurd (both_ways _ refl u)
size_by Boolean n ss u = absurd (both_ways _ refl u)
size_by Fixed n ss u = refl
size_by Bytes32 n ss u = absurd (both_ways _ refl u)
size_by Bytes64 n ss u = absurd (both_ways _ refl u)
size_by List32 n ss u = absurd (both_ways _ refl u)
size_by List64 n ss u = absurd (both_ways _ refl u)
size_by Struct n ss u = absurd (both_ways _ refl u)
size_by Dictionary n ss u = refl

only_shape : (d s : Shape) (ss : Shapes) → ss ≡ Shapes.more s Shapes.none → Shapes.more (first_shape d ss) Shapes.none ≡ ss
only_shape d s ss e = ap (λ (x : Shapes). Shapes.more (first_shape d x) Shapes.none) e ∙ sym e

-- ---- trees side by side

-- those below a node
abbrev kids : List Node → ℕ → Forest
kids ns i = trees_in ns (i + 1) (end_of ns i)

module _ (ns : List Node) where
  none_at : (p e : ℕ) → e ≤ p → shapes_of (trees_in ns p e) ≡ Shapes.none
  unfolding shape_of
  none_at p e l = ap shapes_of (at_none ns p e l)

  more_at : (p e : ℕ) → p < e → e ≤ length ns → 1 ≤ (node_at ns p).span → end_of ns p ≤ e
      → shapes_of (trees_in ns p e) ≡ Shapes.more (shape_of (tree_at ns p)) (shapes_of (trees_in ns (end_of ns p) e))
  unfolding shape_of
  more_at p e l m some high = ap shapes_of (at_more ns p e l m some high)

-- where there are shapes there are trees
some_told : (ns ms : List Node) (p e q f : ℕ) → e ≤ length ns → Filled ns p e → p < e → shapes_of (trees_in ns p e) ≡ shapes_of (trees_in ms q f) → q < f
some_told ns ms p e q f l g lo c =
    elim (cases_lt q f) [
      | inl hi ↦ hi
      | inr hi ↦ (let s = filled_first ns p e g lo in absurd (omega (arith, ap many (sym (more_at ns p e lo l s.some s.high) ∙ c ∙ none_at ms q f hi))))
    ]

-- ---- in an opened recording

module _ (ns : List Node) (bs : List ℕ) (kept : Kept ns bs) where
  rule : (i : ℕ) → i < length ns → (q : Refusal) → Rule q ns bs i
  rule = kept_rule ns bs kept

  nest : (i : ℕ) → i < length ns → Nested ns i
  nest i l = rule i l Nesting

  no_kids : (i : ℕ) (k : Kind) → i < length ns → Is (node_at ns i) k → ((c : ℕ) → ChildrenFit k c → c ≡ 0) → kids ns i ≡ none
  no_kids i k l is zero_of = by n.children n.fill (zero_of (length n.children) (n.count k is))
    where
      n : Nested ns i
      n = nest i l

      by : (cs : List ℕ) → SideBySide ns (i + 1) cs (end_of ns i) → length cs ≡ 0 → kids ns i ≡ none
      by [] s e = at_none ns (i + 1) (end_of ns i) (omega arith)
      by (c ∷ cs) s e = absurd (omega arith)

  one_kid : (i : ℕ) (k : Kind) → i < length ns → Is (node_at ns i) k → ((c : ℕ) → ChildrenFit k c → c ≡ 1) → shapes_of (kids ns i) ≡ Shapes.more (shape_of (tree_at ns (i + 1))) Shapes.none
  unfolding shape_of
  one_kid i k l is one = ap shapes_of (one_is ns bs kept i k l is one)

  below_by : (i : ℕ) (k : Kind) → i < length ns → Is (node_at ns i) k → below (shape_by k (node_at ns i) (shapes_of (kids ns i))) ≡ shapes_of (kids ns i)
  unfolding shape_of
  below_by i Null l is = ap shapes_of (sym (no_kids i Null l is (λ c e. e)))
  below_by i Boolean l is = ap shapes_of (sym (no_kids i Boolean l is (λ c e. e)))
  below_by i Fixed l is = ap shapes_of (sym (no_kids i Fixed l is (λ c e. e)))
  below_by i Bytes32 l is = ap shapes_of (sym (no_kids i Bytes32 l is (λ c e. e)))
  below_by i Bytes64 l is = ap shapes_of (sym (no_kids i Bytes64 l is (λ c e. e)))
  below_by i List32 l is = only_shape _ _ (shapes_of (kids ns i)) (one_kid i List32 l is (λ c e. e))
  below_by i List64 l is = only_shape _ _ (shapes_of (kids ns i)) (one_kid i List64 l is (λ c e. e))
  below_by i Struct l is = refl
  below_by i Dictionary l is = only_shape _ _ (shapes_of (kids ns i)) (one_kid i Dictionary l is (λ c e. e))

  -- kind, mark, used size and the shapes below, from the shape of the tree at a node
  module _ (i : ℕ) (l : i < length ns) where
    abbrev here : Node
    here = node_at ns i

    abbrev its : Shape
    its = shape_of (tree_at ns i)

    its_kind : Kind
    its_kind = (rule i l KindOrSize).kind

    kind_at : Is here its_kind
    unfolding its_kind
    kind_at = (rule i l KindOrSize).is

    shape_at : its ≡ shape_by its_kind here (shapes_of (kids ns i))
    shape_at = shape_is its_kind here (kids ns i) kind_at

    kind_told : kind_in its ≡ here.kind
    kind_told = ap kind_in shape_at ∙ kind_by its_kind here (shapes_of (kids ns i)) ∙ sym kind_at

    mark_told : mark_of its ≡ here.mark
    mark_told = ap mark_of shape_at ∙ mark_by its_kind here (shapes_of (kids ns i))

    size_told : uses_size here.kind ≡ true → size_of its ≡ here.size
    size_told u = ap size_of shape_at ∙ size_by its_kind here (shapes_of (kids ns i)) (ap uses_size (sym kind_at) ∙ u)

    below_told : below its ≡ shapes_of (kids ns i)
    below_told = ap below shape_at ∙ below_by i its_kind l kind_at

-- ---- two opened recordings

module _ (ns : List Node) (bs : List ℕ) (ms : List Node) (cs : List ℕ) (kept : Kept ns bs) (heard : Kept ms cs) where
  -- nodes that agree, over trees of the same shapes
  tree_same : (i j : ℕ) → i < length ns → Agree (node_at ns i) (node_at ms j) → shapes_of (kids ns i) ≡ shapes_of (kids ms j) → shape_of (tree_at ns i) ≡ shape_of (tree_at ms j)
  tree_same i j l a e = agree_shape (its_kind ns bs kept i l) (node_at ns i) (node_at ms j) (kids ns i) (kids ms j) (kind_at ns bs kept i l) a e

  -- nodes that agree one by one have trees of the same shapes
  shapes_from : (k p e q f : ℕ) → e - p ≤ k → e ≤ length ns → f ≤ length ms → Filled ns p e → Filled ms q f → e - p ≡ f - q → AgreeAll ns p ms q (e - p)
      → shapes_of (trees_in ns p e) ≡ shapes_of (trees_in ms q f)
  shapes_from zero p e q f d l m g h c a = none_at ns p e (omega arith) ∙ sym (none_at ms q f (omega arith))
  shapes_from (suc k) p e q f d l m g h c a =
      elim (cases_lt p e) [
        | inl lo ↦
            (let hi : q < f = omega arith in
            let s = filled_first ns p e g lo in
            let t = filled_first ms q f h hi in
            let some : 1 ≤ (node_at ns p).span = s.some in
            let high : end_of ns p ≤ e = s.high in
            let u = nest ns bs kept p (omega arith) in
            let v = nest ms cs heard q (omega arith) in
            let here : Agree (node_at ns p) (node_at ms q) = all_first ns ms p q (e - p) a (omega arith) in
            let span : (node_at ns p).span ≡ (node_at ms q).span = here.span in
            let inner = shapes_from k (p + 1) (end_of ns p) (q + 1) (end_of ms q) (omega arith) u.within v.within (u.children, u.fill) (v.children, v.fill) (omega arith)
            (all_later ns ms p q (p + 1) (q + 1) 1 (end_of ns p - (p + 1)) (e - p) a refl refl (omega arith)) in
            let outer = shapes_from k (end_of ns p) e (end_of ms q) f (omega arith) l m s.rest t.rest (omega arith)
            (all_later ns ms p q (end_of ns p) (end_of ms q) (node_at ns p).span (e - end_of ns p) (e - p) a refl (omega arith) (omega arith)) in
            more_at ns p e lo l some high ∙ ap₂ Shapes.more (tree_same p q (omega arith) here inner) outer ∙ sym (more_at ms q f hi m t.some t.high))
        | inr lo ↦ (none_at ns p e lo ∙ sym (none_at ms q f (omega arith)))
      ]

  -- trees of one shape have nodes that agree, if their spans do
  agree_told : (i j : ℕ) → i < length ns → j < length ms → shape_of (tree_at ns i) ≡ shape_of (tree_at ms j) → (node_at ns i).span ≡ (node_at ms j).span → Agree (node_at ns i) (node_at ms j)
  agree_told i j l m e span =
      let kinds : (node_at ns i).kind ≡ (node_at ms j).kind = sym (kind_told ns bs kept i l) ∙ ap kind_in e ∙ kind_told ms cs heard j m in
      record {
        kind = kinds;
        mark = sym (mark_told ns bs kept i l) ∙ ap mark_of e ∙ mark_told ms cs heard j m;
        span = span;
        size = λ u. sym (size_told ns bs kept i l u) ∙ ap size_of e ∙ size_told ms cs heard j m (ap uses_size (sym kinds) ∙ u);
      }

  kids_told : (i j : ℕ) → i < length ns → j < length ms → shape_of (tree_at ns i) ≡ shape_of (tree_at ms j) → shapes_of (kids ns i) ≡ shapes_of (kids ms j)
  kids_told i j l m e = sym (below_told ns bs kept i l) ∙ ap below e ∙ below_told ms cs heard j m

  -- the nodes of two trees agree one by one
  record Whole (i j : ℕ) : Type 0 where
    span : (node_at ns i).span ≡ (node_at ms j).span
    all : AgreeAll ns i ms j (node_at ns i).span

  -- if those below the first do
  whole_from : (i j : ℕ) → i < length ns → j < length ms → shape_of (tree_at ns i) ≡ shape_of (tree_at ms j)
      → (end_of ns i - (i + 1) ≡ end_of ms j - (j + 1)) × AgreeAll ns (i + 1) ms (j + 1) (end_of ns i - (i + 1)) → Whole i j
  whole_from i j l m e inner =
      let u = (nest ns bs kept i l).some in
      let v = (nest ms cs heard j m).some in
      let span : (node_at ns i).span ≡ (node_at ms j).span = omega (arith, inner.0) in
      record {
        span = span;
        all = all_join ns ms i j (i + 1) (j + 1) 1 (end_of ns i - (i + 1)) (node_at ns i).span (all_one ns ms i j (agree_told i j l m e span)) inner.1 refl refl (omega arith);
      }

  -- trees of the same shapes have as many nodes, which agree one by one
  nodes_from : (k p e q f : ℕ) → e - p ≤ k → e ≤ length ns → f ≤ length ms → Filled ns p e → Filled ms q f → shapes_of (trees_in ns p e) ≡ shapes_of (trees_in ms q f)
      → (e - p ≡ f - q) × AgreeAll ns p ms q (e - p)
  nodes_from zero p e q f d l m g h c =
      elim (cases_lt q f) [
        | inl hi ↦ (let lo : p < e = some_told ms ns q f p e m h hi (sym c) in absurd (omega arith))
        | inr hi ↦ (omega arith, λ x k. absurd (omega arith))
      ]
  nodes_from (suc k) p e q f d l m g h c =
      elim (cases_lt p e) [
        | inl lo ↦
            (let hi : q < f = some_told ns ms p e q f l g lo c in
            let s = filled_first ns p e g lo in
            let t = filled_first ms q f h hi in
            let some : 1 ≤ (node_at ns p).span = s.some in
            let high : end_of ns p ≤ e = s.high in
            let top : end_of ms q ≤ f = t.high in
            let x : p < length ns = omega arith in
            let y : q < length ms = omega arith in
            let u = nest ns bs kept p x in
            let v = nest ms cs heard q y in
            let both = sym (more_at ns p e lo l some high) ∙ c ∙ more_at ms q f hi m t.some top in
            let tree : shape_of (tree_at ns p) ≡ shape_of (tree_at ms q) = ap (first_shape (Shape.nulls 0)) both in
            let whole = whole_from p q x y tree
            (nodes_from k (p + 1) (end_of ns p) (q + 1) (end_of ms q) (omega arith) u.within v.within (u.children, u.fill) (v.children, v.fill) (kids_told p q x y tree)) in
            let outer = nodes_from k (end_of ns p) e (end_of ms q) f (omega arith) l m s.rest t.rest (ap rest_shapes both) in
            let span : (node_at ns p).span ≡ (node_at ms q).span = whole.span in
            let after : e - end_of ns p ≡ f - end_of ms q = outer.0 in (
              omega arith,
              all_join ns ms p q (end_of ns p) (end_of ms q) (node_at ns p).span (e - end_of ns p) (e - p) whole.all outer.1 refl (omega arith) (omega arith),
            ))
        | inr lo ↦
            elim (cases_lt q f) [
              | inl hi ↦ (let up : p < e = some_told ms ns q f p e m h hi (sym c) in absurd (omega arith))
              | inr hi ↦ (omega arith, λ x k. absurd (omega arith))
            ]
      ]

  -- trees of one shape have as many nodes, which agree one by one
  whole_told : (i j : ℕ) → i < length ns → j < length ms → shape_of (tree_at ns i) ≡ shape_of (tree_at ms j) → Whole i j
  whole_told i j l m e =
      let u = nest ns bs kept i l in
      let v = nest ms cs heard j m in
      whole_from i j l m e
      (nodes_from (end_of ns i - (i + 1)) (i + 1) (end_of ns i) (j + 1) (end_of ms j) (omega arith) u.within v.within (u.children, u.fill) (v.children, v.fill) (kids_told i j l m e))

-- trees of two opened recordings have one shape exactly if their nodes agree one by one
pub same_shapes : (ns : List Node) (bs : List ℕ) (ms : List Node) (cs : List ℕ) → Kept ns bs → Kept ms cs → (i j : ℕ) → i < length ns → j < length ms
    → (same_nodes ns i ms j (node_at ns i).span ≡ true) ↔ (shape_of (tree_at ns i) ≡ shape_of (tree_at ms j))
same_shapes ns bs ms cs kept heard i j l m = (to, from)
  where
    u : Nested ns i
    u = nest ns bs kept i l

    v : Nested ms j
    v = nest ms cs heard j m

    to : same_nodes ns i ms j (node_at ns i).span ≡ true → shape_of (tree_at ns i) ≡ shape_of (tree_at ms j)
    to h =
        let a = all_tell ns ms i j (node_at ns i).span h in
        let some : 1 ≤ (node_at ns i).span = u.some in
        let here = all_first ns ms i j (node_at ns i).span a some in
        let span : (node_at ns i).span ≡ (node_at ms j).span = here.span in
        tree_same ns bs ms cs kept heard i j l here
        (shapes_from ns bs ms cs kept heard (end_of ns i - (i + 1)) (i + 1) (end_of ns i) (j + 1) (end_of ms j) (omega arith) u.within v.within (u.children, u.fill) (v.children, v.fill) (omega arith)
        (all_later ns ms i j (i + 1) (j + 1) 1 (end_of ns i - (i + 1)) (node_at ns i).span a refl refl (omega arith)))

    from : shape_of (tree_at ns i) ≡ shape_of (tree_at ms j) → same_nodes ns i ms j (node_at ns i).span ≡ true
    from e = all_agree ns ms i j (node_at ns i).span (whole_told ns bs ms cs kept heard i j l m e).all

-- and then they have as many nodes
pub same_spans : (ns : List Node) (bs : List ℕ) (ms : List Node) (cs : List ℕ) → Kept ns bs → Kept ms cs → (i j : ℕ) → i < length ns → j < length ms
    → shape_of (tree_at ns i) ≡ shape_of (tree_at ms j) → (node_at ns i).span ≡ (node_at ms j).span
same_spans ns bs ms cs kept heard i j l m e = (whole_told ns bs ms cs kept heard i j l m e).span

-- ---- what one shape tells of two windows

module _ (w : Window) (g : Inside w) where
  kind_shown : kind_in (shape_in w) ≡ (top_in w).kind
  kind_shown = kind_told w.nodes w.bytes g.opened w.node g.stands

  size_shown : uses_size (top_in w).kind ≡ true → size_of (shape_in w) ≡ (top_in w).size
  size_shown = size_told w.nodes w.bytes g.opened w.node g.stands

  kids_shown : below (shape_in w) ≡ shapes_of (kids w.nodes w.node)
  kids_shown = below_told w.nodes w.bytes g.opened w.node g.stands

  tree_is : (k : Kind) → Is (top_in w) k → tree_in w ≡ tree_as (Some k) (top_in w) (kids w.nodes w.node)
  tree_is k is = tree_as_lem (top_in w) (kids w.nodes w.node) k is

pub one_shape_kind : (v w : Window) (k : Kind) → Inside v → Inside w → shape_in v ≡ shape_in w → Is (top_in v) k → Is (top_in w) k
one_shape_kind v w k g h e is = sym (kind_shown w h) ∙ ap kind_in (sym e) ∙ kind_shown v g ∙ is

one_size : (v w : Window) (k : Kind) → Inside v → Inside w → shape_in v ≡ shape_in w → Is (top_in v) k → uses_size (kind_number k) ≡ true → (top_in v).size ≡ (top_in w).size
one_size v w k g h e is u =
    sym (size_shown v g (ap uses_size is ∙ u)) ∙ ap size_of e ∙ size_shown w h (ap uses_size (one_shape_kind v w k g h e is) ∙ u)

pub one_shape_size : (v w : Window) → Inside v → Inside w → shape_in v ≡ shape_in w → Is (top_in v) Fixed → (top_in v).size ≡ (top_in w).size
one_shape_size v w g h e is = one_size v w Fixed g h e is refl

-- a window in which no dictionary is met is none
pub plain_kind : (w : Window) → Inside w → met_in (tree_in w) ≡ [] → Is (top_in w) Dictionary → ⊥
unfolding met_in
plain_kind w g p is =
    let e : child_of (top_in w) (kids w.nodes w.node) ∷ [] ≡ [] = sym (ap met_in (tree_is w g Dictionary is)) ∙ p in
    omega (arith, ap length e)

-- ---- windows that are alike pass windows that are alike

-- to the one child
module _ (v w : Window) (g : Inside v) (h : Inside w) (a : Alike v w) where
  one_below : (k : Kind) → Is (top_in v) k → ((c : ℕ) → ChildrenFit k c → c ≡ 1) → shape_of (tree_at v.nodes (v.node + 1)) ≡ shape_of (tree_at w.nodes (w.node + 1))
  one_below k is one =
      ap (first_shape (Shape.nulls 0))
      (sym (one_kid v.nodes v.bytes g.opened v.node k g.stands is one)
      ∙ sym (kids_shown v g) ∙ ap below a.shapes ∙ kids_shown w h
      ∙ one_kid w.nodes w.bytes h.opened w.node k h.stands (one_shape_kind v w k g h a.shapes is) one)

  plain_below : (k : Kind) → Is (top_in v) k → ((c : ℕ) → ChildrenFit k c → c ≡ 1) → met_in (child_of (top_in v) (kids v.nodes v.node)) ≡ [] → met_in (tree_at v.nodes (v.node + 1)) ≡ []
  plain_below k is one p = ap met_in (sym (child_is v.nodes v.bytes g.opened v.node k g.stands is one)) ∙ p

  list_below : (k : Kind) (y : ℕ) → Is (top_in v) k → ((c : ℕ) → ChildrenFit k c → c ≡ 1) → met_in (child_of (top_in v) (kids v.nodes v.node)) ≡ []
      → (elements_in y v).rows ≡ (elements_in y w).rows → Alike (elements_in y v) (elements_in y w)
  list_below k y is one p e = record { shapes = one_below k is one; rows = e; plain = plain_below k is one p }

absent : (x : Width) → ◌≡◌ {A = Option Width} None (Some x) → ⊥
absent x e = let z : ◌≡◌ {A = ℕ} 0 1 = cc in omega arith

pub alike_elements : (v w : Window) (k : Kind) (x : Width) → Inside v → Inside w → Alike v w → Is (top_in v) k → offset_width k ≡ Some x → has_data k ≡ false
    → (elements_in (wide x) v).rows ≡ (elements_in (wide x) w).rows → Alike (elements_in (wide x) v) (elements_in (wide x) w)
unfolding met_in
alike_elements v w Null x g h a is o d e = absurd (absent x o)
alike_elements v w Boolean x g h a is o d e = absurd (absent x o)
alike_elements v w Fixed x g h a is o d e = absurd (absent x o)
alike_elements v w Bytes32 x g h a is o d e = absurd (both_ways _ d refl)
alike_elements v w Bytes64 x g h a is o d e = absurd (both_ways _ d refl)
alike_elements v w List32 x g h a is o d e = list_below v w g h a List32 (wide x) is (λ c e. e) (sym (ap met_in (tree_is v g List32 is)) ∙ a.plain) e
alike_elements v w List64 x g h a is o d e = list_below v w g h a List64 (wide x) is (λ c e. e) (sym (ap met_in (tree_is v g List64 is)) ∙ a.plain) e
alike_elements v w Struct x g h a is o d e = absurd (absent x o)
alike_elements v w Dictionary x g h a is o d e = absurd (absent x o)

-- to the children side by side

nil_parts : {X : Type 0} (xs ys : List X) → xs ++ ys ≡ [] → (xs ≡ []) × (ys ≡ [])
nil_parts [] ys e = (refl, e)
nil_parts (x ∷ xs) ys e = absurd (omega (arith, ap length e))

-- the first tree of some, and the rest, meet no dictionary
met_more : (t : Tree) (f g : Forest) → g ≡ more t f → met_in_all g ≡ [] → (met_in t ≡ []) × (met_in_all f ≡ [])
unfolding met_in
met_more t f g e p = nil_parts (met_in t) (met_in_all f) (sym (ap met_in_all e) ∙ p)

-- trees that stand side by side
side_more : (ns : List Node) (c : ℕ) (cs : List ℕ) (p e : ℕ) → SideBySide ns p (c ∷ cs) e → e ≤ length ns → trees_in ns p e ≡ more (tree_at ns p) (trees_in ns (end_of ns p) e)
side_more ns c cs p e s l = let up = side_le ns cs (end_of ns p) e s.2 in at_more ns p e (omega (arith, s.1)) l s.1 up

side_shapes : (ns : List Node) (c : ℕ) (cs : List ℕ) (p e : ℕ) → SideBySide ns p (c ∷ cs) e → e ≤ length ns
    → shapes_of (trees_in ns p e) ≡ Shapes.more (shape_of (tree_at ns p)) (shapes_of (trees_in ns (end_of ns p) e))
unfolding shape_of
side_shapes ns c cs p e s l = ap shapes_of (side_more ns c cs p e s l)

module _ (v w : Window) (n : v.rows ≡ w.rows) where
  pairs : (cs ds : List ℕ) (p e q f : ℕ) → SideBySide v.nodes p cs e → SideBySide w.nodes q ds f → e ≤ length v.nodes → f ≤ length w.nodes
      → shapes_of (trees_in v.nodes p e) ≡ shapes_of (trees_in w.nodes q f) → met_in_all (trees_in v.nodes p e) ≡ []
      → (length cs ≡ length ds) × Pairwise Alike (map (passed_to Struct v) cs) (map (passed_to Struct w) ds)
  pairs [] [] p e q f s t l m u plain = (refl, tt)
  pairs [] (d ∷ ds) p e q f s t l m u plain = absurd (omega (arith, ap many (sym (none_at v.nodes p e (omega arith)) ∙ u ∙ side_shapes w.nodes d ds q f t m)))
  pairs (c ∷ cs) [] p e q f s t l m u plain = absurd (omega (arith, ap many (sym (side_shapes v.nodes c cs p e s l) ∙ u ∙ none_at w.nodes q f (omega arith))))
  pairs (c ∷ cs) (d ∷ ds) p e q f s t l m u plain =
      let both = sym (side_shapes v.nodes c cs p e s l) ∙ u ∙ side_shapes w.nodes d ds q f t m in
      let free = met_more (tree_at v.nodes p) (trees_in v.nodes (end_of v.nodes p) e) (trees_in v.nodes p e) (side_more v.nodes c cs p e s l) plain in
      let rest = pairs cs ds (end_of v.nodes p) e (end_of w.nodes q) f s.2 t.2 l m (ap rest_shapes both) free.1 in (
        ap suc rest.0,
        (
          record {
            shapes =
                ap (λ (x : ℕ). shape_of (tree_at v.nodes x)) s.0
                ∙ ap (first_shape (Shape.nulls 0)) both
                ∙ ap (λ (x : ℕ). shape_of (tree_at w.nodes x)) (sym t.0);
            rows = n;
            plain = ap (λ (x : ℕ). met_in (tree_at v.nodes x)) s.0 ∙ free.0;
          },
          rest.1,
        ),
      )

pub alike_parts : (v w : Window) (cs ds : List ℕ) → Inside v → Inside w → Alike v w → Is (top_in v) Struct
    → SideBySide v.nodes (v.node + 1) cs (end_of v.nodes v.node) → SideBySide w.nodes (w.node + 1) ds (end_of w.nodes w.node)
    → (length cs ≡ length ds) × Pairwise Alike (map (passed_to Struct v) cs) (map (passed_to Struct w) ds)
unfolding met_in
alike_parts v w cs ds g h a is s t =
    pairs v w a.rows cs ds (v.node + 1) (end_of v.nodes v.node) (w.node + 1) (end_of w.nodes w.node) s t
    (nest v.nodes v.bytes g.opened v.node g.stands).within (nest w.nodes w.bytes h.opened w.node h.stands).within
    (sym (kids_shown v g) ∙ ap below a.shapes ∙ kids_shown w h)
    (sym (ap met_in (tree_is v g Struct is)) ∙ a.plain)
