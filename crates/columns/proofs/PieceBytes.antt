-- The bytes that pieces name are the buffers that are sent.
use Rattle.std.proofs.Common.{◌≡◌, ℕ, zero, suc, ◌+◌, ◌*◌, ◌≤◌, List, [], ◌∷◌, ◌++◌, map, length, sym, refl, ap, ap₂, ◌∙◌, subst, mul-le-mul_right, add-mul, arith}
use Rattle.std.proofs.lemmas.List.{map-append, length-append, length-replicate}
use Rattle.layout.specs.declared.node.Node.{Node}
use Rattle.layout.specs.Lists.{rows, cut, join_all}
use Rattle.layout.specs.Messages.{body_of, mark_bytes, offset_bytes, buffers, buffers_all, body, padded}
use Rattle.layout.specs.Rows.{slot_at, count_at, string_at}
use Rattle.layout.specs.Rules.{Lies, Rising}
use Rattle.layout.specs.Trees.{Tree, Forest, nulls, bools, fixed, bytes, lists, struct, dictionary, none, more, rows_of}
use Rattle.layout.specs.Windows as layout
use Rattle.layout.specs.Windows.{Inside, tree_in, shown_in, shown_side, marks_at, shown, shown_all, passed_first, passed_count}
use Rattle.layout.proofs.Lists.{length_cut}
use Rattle.laws.proofs.Kept.{opened_at, tree_rows}
use Rattle.laws.proofs.Opened.{RowsAll, Opened, OpenedAll}
use Rattle.laws.proofs.Places.{slots_joined, strings_joined}
use Rattle.laws.proofs.Says.{passed, strings_fit}
use Rattle.columns.specs.Pieces as piece
use Rattle.columns.specs.Pieces.{Piece, lies, slots_piece, strings_piece, pieces, pieces_all, pieces_in, pieces_side, size_of, bytes_of, made_of, work_of, body_size}

-- where the rows of a window lie
slots_are : (bs : List ℕ) (n : Node) (a c : ℕ) → bytes_of bs (slots_piece n a c) ≡ join_all (rows c (λ r. slot_at bs n.size n (a + r)))
slots_are bs n a c = sym (slots_joined bs n.size n a c)

strings_are : (bs : List ℕ) (w : ℕ) (n : Node) (a c : ℕ) → Rising bs w n n.extent → a + c ≤ n.rows → bytes_of bs (strings_piece bs w n a c) ≡ join_all (rows c (λ r. string_at bs w n (a + r)))
strings_are bs w n a zero h l = refl
strings_are bs w n a (suc c) h l = sym (strings_joined bs w n a (suc c) n.extent h l)

mutual
  unfolding pieces buffers shown

  pub bytes_are : (bs : List ℕ) (t : Tree) (a c : ℕ) → Opened bs t → a + c ≤ rows_of t → map (bytes_of bs) (pieces bs t a c) ≡ buffers (shown bs t a c)
  bytes_are bs (nulls n) a c g l = refl
  bytes_are bs (bools n) a c g l = refl
  bytes_are bs (fixed n) a c g l = ap (λ (x : List ℕ). mark_bytes (marks_at bs n a c) ∷ x ∷ []) (slots_are bs n a c)
  bytes_are bs (bytes w n) a c g l =
      ap₂ (λ (cs : List ℕ) (x : List ℕ). mark_bytes (marks_at bs n a c) ∷ offset_bytes w cs ∷ x ∷ []) (sym (strings_fit bs w n g.3 g.2 a c l)) (strings_are bs w n a c g.3 l)
  bytes_are bs (lists w n t) a c g l =
      ap (λ (xs : List (List ℕ)). mark_bytes (marks_at bs n a c) ∷ offset_bytes w (rows c (λ r. count_at bs w n (a + r))) ∷ xs) (bytes_are bs t (passed_first bs w n a c) (passed_count bs w n a c) g.1 (passed bs w n (rows_of t) g.0.2 a c l))
  bytes_are bs (struct n f) a c g l = ap (λ (xs : List (List ℕ)). mark_bytes (marks_at bs n a c) ∷ xs) (bytes_are_all bs f n.rows a c g.1 g.0.1 l)
  bytes_are bs (dictionary n t) a c g l = ap (λ (x : List ℕ). mark_bytes (marks_at bs n a c) ∷ x ∷ []) (slots_are bs n a c)

  pub bytes_are_all : (bs : List ℕ) (f : Forest) (n a c : ℕ) → OpenedAll bs f → RowsAll f n → a + c ≤ n → map (bytes_of bs) (pieces_all bs f a c) ≡ buffers_all (shown_all bs f a c)
  bytes_are_all bs none n a c g h l = refl
  bytes_are_all bs (more t f) n a c g h l =
      map-append (bytes_of bs) (pieces bs t a c) (pieces_all bs f a c)
      ∙ ap₂ (λ (x y : List (List ℕ)). x ++ y) (bytes_are bs t a c g.0 (omega (arith, h.0))) (bytes_are_all bs f n a c g.1 h.1 l)

-- ---- they lie within the bytes

abbrev pub Within : List ℕ → List Piece → Type 0
Within bs [] = Unit {0}
Within bs (piece.made xs ∷ ps) = Within bs ps
Within bs (lies p n ∷ ps) = (p + n ≤ length bs) × Within bs ps

within_add : (bs : List ℕ) (ps qs : List Piece) → Within bs ps → Within bs qs → Within bs (ps ++ qs)
within_add bs [] qs g h = h
within_add bs (piece.made xs ∷ ps) qs g h = within_add bs ps qs g h
within_add bs (lies p n ∷ ps) qs g h = (g.0, within_add bs ps qs g.1 h)

slots_within : (bs : List ℕ) (n : Node) (a c : ℕ) → Lies bs n.slots ((n.from + n.rows) * n.size) → a + c ≤ n.rows → n.slots + (n.from + a) * n.size + c * n.size ≤ length bs
slots_within bs n a c h l =
    let less : (n.from + (a + c)) * n.size ≤ (n.from + n.rows) * n.size = mul-le-mul_right n.size (omega arith) in
    let sum : (n.from + (a + c)) * n.size ≡ (n.from + a) * n.size + c * n.size = ap (λ (x : ℕ). x * n.size) (omega arith) ∙ add-mul (n.from + a) c n.size in
    omega arith

mutual
  unfolding pieces

  pub all_within : (bs : List ℕ) (t : Tree) (a c : ℕ) → Opened bs t → a + c ≤ rows_of t → Within bs (pieces bs t a c)
  all_within bs (nulls n) a c g l = tt
  all_within bs (bools n) a c g l = tt
  all_within bs (fixed n) a c g l = (slots_within bs n a c g.1 l, tt)
  all_within bs (bytes w n) a c g l = (omega (arith, passed bs w n n.extent g.3 a c l, g.2), tt)
  all_within bs (lists w n t) a c g l = all_within bs t (passed_first bs w n a c) (passed_count bs w n a c) g.1 (passed bs w n (rows_of t) g.0.2 a c l)
  all_within bs (struct n f) a c g l = all_within_all bs f n.rows a c g.1 g.0.1 l
  all_within bs (dictionary n t) a c g l = (slots_within bs n a c g.0.1 l, tt)

  pub all_within_all : (bs : List ℕ) (f : Forest) (n a c : ℕ) → OpenedAll bs f → RowsAll f n → a + c ≤ n → Within bs (pieces_all bs f a c)
  all_within_all bs none n a c g h l = tt
  all_within_all bs (more t f) n a c g h l = within_add bs (pieces bs t a c) (pieces_all bs f a c) (all_within bs t a c g.0 (omega (arith, h.0))) (all_within_all bs f n a c g.1 h.1 l)

long : (al : ℕ) (x : List ℕ) (xs : List (List ℕ)) → length (body al (x ∷ xs)) ≡ padded al (length x) + length (body al xs)
long al x xs = simp (length-append, length-replicate) refl

-- so they are as long as is told, and so is the body that they make
pub body_long : (al : ℕ) (bs : List ℕ) (ps : List Piece) → Within bs ps → length (body al (map (bytes_of bs) ps)) ≡ body_size al ps
body_long al bs [] h = refl
body_long al bs (piece.made xs ∷ ps) h = long al xs (map (bytes_of bs) ps) ∙ ap (λ (n : ℕ). padded al (length xs) + n) (body_long al bs ps h)
body_long al bs (lies p n ∷ ps) h =
    long al (cut p n bs) (map (bytes_of bs) ps) ∙ ap₂ (λ (k n : ℕ). padded al k + n) (length_cut p n bs h.0) (body_long al bs ps h.1)

-- ---- windows

pub window_within : (w : layout.Window) → Inside w → Within w.bytes (pieces_in w)
window_within w g = all_within w.bytes (tree_in w) w.first w.rows (opened_at w.nodes w.bytes g.opened w.node g.stands) (omega (arith, g.within, tree_rows w.nodes w.node))

pub window_bytes : (w : layout.Window) → Inside w → map (bytes_of w.bytes) (pieces_in w) ≡ buffers (shown_in w)
window_bytes w g = bytes_are w.bytes (tree_in w) w.first w.rows (opened_at w.nodes w.bytes g.opened w.node g.stands) (omega (arith, g.within, tree_rows w.nodes w.node))

-- windows of one recording
abbrev pub AllOf : List ℕ → List layout.Window → Type 0
AllOf bs [] = Unit {0}
AllOf bs (w ∷ ws) = Inside w × (w.bytes ≡ bs) × AllOf bs ws

pub side_within : (bs : List ℕ) (ws : List layout.Window) → AllOf bs ws → Within bs (pieces_side ws)
side_within bs [] h = tt
side_within bs (w ∷ ws) (g, e, h) = within_add bs (pieces_in w) (pieces_side ws) (subst (λ (bs : List ℕ). Within bs (pieces_in w)) e (window_within w g)) (side_within bs ws h)

pub side_bytes : (bs : List ℕ) (ws : List layout.Window) → AllOf bs ws → map (bytes_of bs) (pieces_side ws) ≡ buffers_all (shown_side ws)
unfolding buffers_all
side_bytes bs [] h = refl
side_bytes bs (w ∷ ws) (g, e, h) =
    map-append (bytes_of bs) (pieces_in w) (pieces_side ws)
    ∙ ap₂ (λ (x y : List (List ℕ)). x ++ y) (subst (λ (bs : List ℕ). map (bytes_of bs) (pieces_in w) ≡ buffers (shown_in w)) e (window_bytes w g)) (side_bytes bs ws h)

-- so the body is as long as is told
pub body_told : (al : ℕ) (bs : List ℕ) (ws : List layout.Window) → AllOf bs ws → body_size al (pieces_side ws) ≡ length (body_of al (shown_side ws))
body_told al bs ws h = sym (body_long al bs (pieces_side ws) (side_within bs ws h)) ∙ ap (λ (xs : List (List ℕ)). length (body al xs)) (side_bytes bs ws h)
