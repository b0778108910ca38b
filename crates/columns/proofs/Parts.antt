-- What is sent of a window: its own records and buffers, and those of the windows below it.
use Rattle.std.proofs.Common.{◌≡◌, ℕ, ◌+◌, ◌≤◌, Some, List, [], ◌∷◌, ◌++◌, map, length, sym, refl, ap, ap₂, ◌∙◌, arith}
use Rattle.std.proofs.lemmas.List.{append-nil, map-append}
use Rattle.layout.specs.declared.kind.Kind.{Kind}
use Rattle.layout.specs.declared.kind.Kind.TheVariants.{Null, Boolean, Fixed, Bytes32, Bytes64, List32, List64, Struct, Dictionary}
use Rattle.layout.specs.declared.node.Node.{Node}
use Rattle.layout.specs.Messages as sent
use Rattle.layout.specs.Messages.{own_field, fields, fields_all}
use Rattle.layout.specs.Nodes.{end_of}
use Rattle.layout.specs.Rules.{Is, SideBySide, ChildrenFit}
use Rattle.layout.specs.Shown.{Shown}
use Rattle.layout.specs.Trees.{Tree, Forest, child_of, tree_as, trees_in, tree_at}
use Rattle.layout.specs.Windows as layout
use Rattle.layout.specs.Windows.{shown, shown_in, shown_side, passed_to, top_in, passed_first, passed_count}
use Rattle.layout.proofs.Kids.{side_le}
use Rattle.laws.proofs.Kept.{child_is}
use Rattle.laws.proofs.Passing.{passing}
use Rattle.laws.proofs.Table.{at_none, at_more}
use Rattle.recording.specs.declared.window.Window.{Window}
use Rattle.recording.specs.NodeRefs.{table_of, run_of, numbers_of}
use Rattle.recording.specs.Windows.{window_in}
use Rattle.recording.proofs.Children.{nested, numbered}
use Rattle.recording.proofs.WindowFacts.{tree_of, inside_of}
use Rattle.columns.specs.declared.record.FieldRecord.{FieldRecord}
use Rattle.columns.specs.Buffers.{marks_in, offsets_of, validity_of, own_buffers, windows_below}
use Rattle.columns.specs.Pieces.{Piece, pieces, pieces_all, pieces_in, pieces_side, field_record, fields_in, fields_side}

-- ---- fields

sides : (ws : List layout.Window) → map field_record (fields_all (shown_side ws)) ≡ fields_side ws
unfolding fields_all
sides [] = refl
sides (w ∷ ws) = map-append field_record (fields (shown_in w)) (fields_all (shown_side ws)) ∙ ap (λ (fs : List FieldRecord). fields_in w ++ fs) (sides ws)

one_more : {X : Type 0} (x : X) (xs : List X) → x ∷ xs ≡ x ∷ (xs ++ [])
one_more {X} x xs = ap (λ (ys : List X). x ∷ ys) (sym (append-nil xs))

module _ (w : Window) where
  abbrev v : layout.Window
  v = window_in w

  abbrev ns : List Node
  ns = table_of w.node

  abbrev i : ℕ
  i = w.node.index

  abbrev own : Shown → FieldRecord
  own s = field_record (own_field s)

  -- by the tree of a kind
  shown_as : (k : Kind) → Is (numbers_of w.node) k → shown_in v ≡ shown v.bytes (tree_as (Some k) (numbers_of w.node) (trees_in ns (i + 1) (end_of ns i))) v.first v.rows
  shown_as k is = ap (λ (t : Tree). shown v.bytes t v.first v.rows) (tree_of w.node k is)

  fields_by : (s : Shown) (fs : List FieldRecord) → shown_in v ≡ s → map field_record (fields s) ≡ own s ∷ fs → fields_in v ≡ own (shown_in v) ∷ fs
  fields_by s fs e h = ap (λ (s : Shown). map field_record (fields s)) e ∙ h ∙ ap (λ (s : Shown). own s ∷ fs) (sym e)

  pub fields_parts : (k : Kind) → Is (numbers_of w.node) k → fields_in v ≡ own (shown_in v) ∷ fields_side (windows_below k w)
  unfolding fields shown
  fields_parts Null is = fields_by _ [] (shown_as Null is) refl
  fields_parts Boolean is = fields_by _ [] (shown_as Boolean is) refl
  fields_parts Fixed is = fields_by _ [] (shown_as Fixed is) refl
  fields_parts Bytes32 is = fields_by _ [] (shown_as Bytes32 is) refl
  fields_parts Bytes64 is = fields_by _ [] (shown_as Bytes64 is) refl
  fields_parts List32 is = fields_by _ (fields_side (windows_below List32 w)) (passing.list32 v (inside_of w) is) (one_more _ (fields_in (passed_to List32 v (i + 1))))
  fields_parts List64 is = fields_by _ (fields_side (windows_below List64 w)) (passing.list64 v (inside_of w) is) (one_more _ (fields_in (passed_to List64 v (i + 1))))
  fields_parts Struct is = fields_by _ (fields_side (windows_below Struct w)) (passing.struct v (nested w).children (inside_of w) is (nested w).fill) (ap (λ (fs : List FieldRecord). field_record (sent.field_of w.rows (layout.marks_at v.bytes (top_in v) w.first w.rows)) ∷ fs) (sides (map (passed_to Struct v) (nested w).children) ∙ ap fields_side (sym (numbered w Struct))))
  fields_parts Dictionary is = fields_by _ [] (shown_as Dictionary is) refl

  -- ---- buffers

  -- those of trees side by side
  sides_below : (cs : List ℕ) (p e a c : ℕ) → SideBySide ns p cs e → e ≤ length ns → ((r : ℕ) → passed_to Struct v r ≡ record { nodes = ns; bytes = run_of w.node; node = r; first = a; rows = c })
      → pieces_all (run_of w.node) (trees_in ns p e) a c ≡ pieces_side (map (passed_to Struct v) cs)
  unfolding pieces
  sides_below [] p e a c s l at = ap (λ (f : Forest). pieces_all (run_of w.node) f a c) (at_none ns p e (omega arith))
  sides_below (d ∷ ds) p e a c s l at =
      let up = side_le ns ds (end_of ns p) e s.2 in
      ap (λ (f : Forest). pieces_all (run_of w.node) f a c) (at_more ns p e (omega (arith, s.1)) l s.1 up)
      ∙ ap₂ (λ (x y : List Piece). x ++ y) (ap (λ (k : ℕ). pieces (run_of w.node) (tree_at ns k) a c) (sym s.0) ∙ sym (ap pieces_in (at d)))
      (sides_below ds (end_of ns p) e a c s.2 l at)

  abbrev n : Node
  n = numbers_of w.node

  abbrev f : Forest
  f = trees_in ns (i + 1) (end_of ns i)

  by_tree : (k : Kind) → Is n k → pieces_in v ≡ pieces v.bytes (tree_as (Some k) n f) v.first v.rows
  by_tree k is = ap (λ (t : Tree). pieces v.bytes t v.first v.rows) (tree_of w.node k is)

  -- the child of a list
  child : (k : Kind) → Is n k → ((c : ℕ) → ChildrenFit k c → c ≡ 1) → child_of n f ≡ tree_at ns (i + 1)
  child k is one = child_is ns (run_of w.node) w.node.recording.opened i k w.node.stands is one

  pub pieces_parts : (k : Kind) → Is n k → pieces_in v ≡ validity_of k w ++ (own_buffers k w ++ pieces_side (windows_below k w))
  unfolding pieces
  pieces_parts Null is = by_tree Null is
  pieces_parts Boolean is = by_tree Boolean is
  pieces_parts Fixed is = by_tree Fixed is
  pieces_parts Bytes32 is = by_tree Bytes32 is
  pieces_parts Bytes64 is = by_tree Bytes64 is
  pieces_parts List32 is =
      by_tree List32 is
      ∙ ap (λ (ps : List Piece). marks_in w ∷ offsets_of 4 w ∷ ps)
      (ap (λ (t : Tree). pieces (run_of w.node) t (passed_first (run_of w.node) 4 n w.first w.rows) (passed_count (run_of w.node) 4 n w.first w.rows)) (child List32 is (λ c h. h))
      ∙ sym (append-nil (pieces_in (passed_to List32 v (i + 1)))))
  pieces_parts List64 is =
      by_tree List64 is
      ∙ ap (λ (ps : List Piece). marks_in w ∷ offsets_of 8 w ∷ ps)
      (ap (λ (t : Tree). pieces (run_of w.node) t (passed_first (run_of w.node) 8 n w.first w.rows) (passed_count (run_of w.node) 8 n w.first w.rows)) (child List64 is (λ c h. h))
      ∙ sym (append-nil (pieces_in (passed_to List64 v (i + 1)))))
  pieces_parts Struct is =
      by_tree Struct is
      ∙ ap (λ (ps : List Piece). marks_in w ∷ ps)
      (sides_below (nested w).children (i + 1) (end_of ns i) w.first w.rows (nested w).fill (nested w).within (λ r. refl) ∙ ap pieces_side (sym (numbered w Struct)))
  pieces_parts Dictionary is = by_tree Dictionary is
