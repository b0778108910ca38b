-- The value of a row, by its kind and whether it is valid.
use Rattle.std.proofs.Common.{◌≡◌, ℕ, ◌+◌, ◌≤◌, ◌⊎◌, inl, inr, Bool, true, false, List, [], ◌∷◌, map, length, Some, sym, refl, ap, ap₂, ◌∙◌, subst, arith}
use Rattle.layout.specs.declared.fault.Refusal.TheVariants.{Nesting}
use Rattle.layout.specs.declared.kind.Kind.{Kind}
use Rattle.layout.specs.declared.kind.Kind.TheVariants.{Null, Boolean, Fixed, Bytes32, Bytes64, List32, List64, Struct, Dictionary}
use Rattle.layout.specs.declared.node.Node.{Node}
use Rattle.layout.specs.declared.number.Width.TheVariants.{Four, Eight}
use Rattle.layout.specs.Lists.{rows}
use Rattle.layout.specs.Nodes.{end_of}
use Rattle.layout.specs.Numbers.{unle}
use Rattle.layout.specs.Rows.{offset_at, count_at}
use Rattle.layout.specs.Rules.{Is, ChildrenFit, SideBySide}
use Rattle.layout.specs.Shown.{Value, null, held}
use Rattle.layout.specs.Trees.{Tree, Forest, child_of, tree_as, trees_in, tree_at}
use Rattle.layout.specs.Windows.{value_at, values_at, values_in}
use Rattle.layout.proofs.Facts.{one_kind}
use Rattle.layout.proofs.Kids.{side_le}
use Rattle.laws.proofs.Kept.{child_is}
use Rattle.laws.proofs.Table.{at_none, at_more}
use Rattle.recording.specs.declared.recording.Recording.{Recording}
use Rattle.recording.specs.declared.node.NodeRef.{NodeRef}
use Rattle.recording.specs.declared.row.Row.{Row}
use Rattle.recording.specs.declared.rows.Parts.{Parts}
use Rattle.recording.specs.declared.value.RowValue.{RowValue}
use Rattle.recording.specs.declared.window.Window.{Window}
use Rattle.recording.specs.NodeRefs.{table_of, run_of, numbers_of}
use Rattle.recording.specs.Places.{Place}
use Rattle.recording.specs.RowPlaces.{parts_left}
use Rattle.recording.specs.Rows.{mark_of, flag_of, slot_of, IsString, IsElements}
use Rattle.recording.specs.Values.{value_of, value_of_place, Tells, IsEntry, AreParts}
use Rattle.recording.specs.View.{nodes_in, bytes_in}
use Rattle.recording.specs.Windows.{window_in, window_at}
use Rattle.recording.proofs.Below.{sides_are}
use Rattle.recording.proofs.Reading.{rules_at}
use Rattle.recording.proofs.WindowFacts.{tree_of}

-- the values of one row of trees side by side
beside : (rec : Recording) (cs : List ℕ) (p e r : ℕ) → SideBySide (nodes_in rec) p cs e → e ≤ length (nodes_in rec)
    → map value_of_place (map (λ (q : Place). (q, r)) (map (λ (i : ℕ). (rec, i)) cs)) ≡ values_at (bytes_in rec) (trees_in (nodes_in rec) p e) r
unfolding value_at
beside rec [] p e r s l = ap (λ (f : Forest). values_at (bytes_in rec) f r) (sym (at_none (nodes_in rec) p e (omega arith)))
beside rec (c ∷ cs) p e r s l =
    let ns = nodes_in rec in
    let up = side_le ns cs (end_of ns p) e s.2 in
    ap₂ (λ (v : Value) (vs : List Value). v ∷ vs) (ap (λ (i : ℕ). value_at (bytes_in rec) (tree_at ns i) r) s.0) (beside rec cs (end_of ns p) e r s.2 l)
    ∙ ap (λ (f : Forest). values_at (bytes_in rec) f r) (sym (at_more ns p e (omega (arith, s.1)) l s.1 up))

module _ (r : Row) where
  abbrev n : NodeRef
  n = r.node

  abbrev m : Node
  m = numbers_of n

  abbrev bs : List ℕ
  bs = run_of n

  abbrev f : Forest
  f = trees_in (table_of n) (n.index + 1) (end_of (table_of n) n.index)

  value_as : (k : Kind) → Is m k → value_of r ≡ value_at bs (tree_as (Some k) m f) r.index
  value_as k is = ap (λ (t : Tree). value_at bs t r.index) (tree_of n k is)

  -- ---- a row that is null

  pub of_null : Is m Null → null ≡ value_of r
  unfolding value_at
  of_null is = sym (value_as Null is)

  pub not_valid : (k : Kind) → Is m k → (Is m Null → ⊥) → false ≡ mark_of r → null ≡ value_of r
  unfolding value_at
  not_valid k is ne mark = by k is ∙ sym (value_as k is)
    where
      by : (k : Kind) → Is m k → null ≡ value_at bs (tree_as (Some k) m f) r.index
      by Null is = absurd (ne is)
      by Boolean is = rw (← mark) refl
      by Fixed is = rw (← mark) refl
      by Bytes32 is = rw (← mark) refl
      by Bytes64 is = rw (← mark) refl
      by List32 is = rw (← mark) refl
      by List64 is = rw (← mark) refl
      by Struct is = rw (← mark) refl
      by Dictionary is = rw (← mark) refl

  -- ---- a valid row

  module _ (valid : true ≡ mark_of r) where
    pub of_boolean : Is m Boolean → (b : Bool) → b ≡ flag_of r → Value.bit b ≡ value_of r
    unfolding value_at
    of_boolean is b e = rw e (rw (← valid) refl ∙ sym (value_as Boolean is))

    pub of_fixed : Is m Fixed → (s : List ℕ) → s ≡ slot_of r → Value.bytes s ≡ value_of r
    unfolding value_at
    of_fixed is s e = rw e (rw (← valid) refl ∙ sym (value_as Fixed is))

    pub of_strings : (k : Kind) → Is m k → (k ≡ Bytes32) ⊎ (k ≡ Bytes64) → (s : List ℕ) → IsString r s → Value.bytes s ≡ value_of r
    unfolding value_at
    of_strings k is (inl e) s t =
        let at : Is m Bytes32 = subst (Is m) e is in
        rw (t Four (Bytes32, at, refl, refl)) (rw (← valid) refl ∙ sym (value_as Bytes32 at))
    of_strings k is (inr e) s t =
        let at : Is m Bytes64 = subst (Is m) e is in
        rw (t Eight (Bytes64, at, refl, refl)) (rw (← valid) refl ∙ sym (value_as Bytes64 at))

    -- the tree of the one child
    one : (k : Kind) → Is m k → ((c : ℕ) → ChildrenFit k c → c ≡ 1) → child_of m f ≡ tree_at (table_of n) (n.index + 1)
    one k is fit = child_is (table_of n) bs n.recording.opened n.index k n.stands is fit

    listed : (w : ℕ) (v : Window) → window_in v ≡ window_at n.recording (n.index + 1) (offset_at bs w m r.index) (count_at bs w m r.index) → (t : Tree) → t ≡ tree_at (table_of n) (n.index + 1)
        → values_in (window_in v) ≡ rows (count_at bs w m r.index) (λ i. value_at bs t (offset_at bs w m r.index + i))
    listed w v e t same = ap values_in e ∙ ap (λ (t : Tree). rows (count_at bs w m r.index) (λ i. value_at bs t (offset_at bs w m r.index + i))) (sym same)

    pub of_elements : (k : Kind) → Is m k → (k ≡ List32) ⊎ (k ≡ List64) → (v : Window) → IsElements r v → Value.list (held (values_in (window_in v))) ≡ value_of r
    unfolding value_at
    of_elements k is (inl e) v t =
        let at : Is m List32 = subst (Is m) e is in
        rw (listed 4 v (t.1 Four (List32, at, refl, refl)) (child_of m f) (one List32 at (λ c h. h))) (rw (← valid) refl ∙ sym (value_as List32 at))
    of_elements k is (inr e) v t =
        let at : Is m List64 = subst (Is m) e is in
        rw (listed 8 v (t.1 Eight (List64, at, refl, refl)) (child_of m f) (one List64 at (λ c h. h))) (rw (← valid) refl ∙ sym (value_as List64 at))

    pub of_parts : Is m Struct → (p : Parts) → AreParts r p → Value.struct (held (map value_of_place (parts_left p))) ≡ value_of r
    unfolding value_at
    of_parts is p (nodes, index) =
        let t = rules_at n Nesting in
        let left : parts_left p ≡ map (λ (q : Place). (q, r.index)) (map (λ (i : ℕ). (n.recording, i)) t.children) =
        ap₂ (λ (i : ℕ) (qs : List Place). map (λ (q : Place). (q, i)) qs) index (nodes ∙ sides_are n.recording t.children (n.index + 1) (end_of (table_of n) n.index) t.fill) in
        rw (ap (map value_of_place) left ∙ beside n.recording t.children (n.index + 1) (end_of (table_of n) n.index) r.index t.fill t.within)
        (rw (← valid) refl ∙ sym (value_as Struct is))

    pub of_entry : Is m Dictionary → (e : Row) → IsEntry r e → value_of e ≡ value_of r
    unfolding value_at
    of_entry is e ((rec, i), key) =
        ap₂ (λ (q : Place) (k : ℕ). value_of_place (q, k)) (ap₂ (λ (rec : Recording) (i : ℕ). (rec, i)) rec i) key
        ∙ ap (λ (t : Tree). value_at bs t (unle (slot_of r))) (sym (one Dictionary is (λ c h. h)))
        ∙ (rw (← valid) refl ∙ sym (value_as Dictionary is))

-- a node has one kind
pub told : (r : Row) (j : Kind) (a : RowValue) → Is (numbers_of r.node) j → Tells r j a → (k : Kind) → Is (numbers_of r.node) k → Tells r k a
told r j a is t k at = subst (λ (k : Kind). Tells r k a) (one_kind (numbers_of r.node) j k is at) t
