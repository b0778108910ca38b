-- What windows compare by whose rows are all valid, and that a null row has no value.
use Rattle.std.proofs.Common.{◌≡◌, ℕ, zero, suc, ◌+◌, ◌-◌, ◌*◌, ◌<◌, ◌≤◌, ◌↔◌, Bool, true, false, List, [], ◌∷◌, ◌++◌, map, length, get_or, Some, None, Option, sym, refl, ap, ◌∙◌, subst, ap₂, not-suc-le-zero, suc-mul, mul-le-mul_right, arith}
use native.Mathlib.Nat.{sub_self}
use Rattle.layout.specs.declared.fault.Refusal.TheVariants.{Nesting, Place, Offset}
use Rattle.layout.specs.declared.kind.Kind.{Kind}
use Rattle.layout.specs.declared.kind.Kind.TheVariants.{Null, Boolean, Fixed, Bytes32, Bytes64, List32, List64, Struct, Dictionary}
use Rattle.layout.specs.declared.node.Node.{Node}
use Rattle.layout.specs.declared.number.Width.{Width}
use Rattle.layout.specs.declared.number.Width.TheVariants.{Four, Eight}
use Rattle.layout.specs.Lists.{rows, cut, join_all, total}
use Rattle.layout.specs.Numbers.{wide}
use Rattle.layout.specs.Kinds.{kind_of, offset_width, has_data}
use Rattle.layout.specs.Nodes.{node_at, end_of}
use Rattle.layout.specs.Rows.{mark_at, flag_at, slot_at, offset_at, count_at, string_at}
use Rattle.layout.specs.Rules.{Is, SideBySide, ChildrenFit, Rising, reach}
use Rattle.layout.specs.Shown.{Value, null, held}
use Rattle.layout.specs.Trees.{Tree, Forest, child_of, tree_as, trees_in, tree_at}
use Rattle.layout.specs.Windows.{value_at, values_at, passed_first, passed_count, Window, Inside, top_in, value_in, passed_to}
use Rattle.layout.proofs.Lists.{rows_same, get_or_rows, length-rows, length_cut}
use Rattle.layout.proofs.Facts.{fixed_lie}
use Rattle.layout.proofs.Opening.{kept_rule}
use Rattle.layout.proofs.Kids.{side_le}
use Rattle.laws.proofs.Kept.{child_is}
use Rattle.laws.proofs.Lists.{rise, rows_add}
use Rattle.laws.proofs.Table.{at_none, at_more, tree_as_lem}
use Rattle.laws.proofs.Says.{slot_rises, in_all, up_to, at_most}
use Rattle.laws.proofs.Places.{slots_joined, strings_joined}
use Rattle.dictionaries.specs.Rows.{SameRows, Valid, SameBits, slots_in, SameCounts, strings_in, elements_in, Pairwise}

-- ---- rows and lists

-- rows are equal if they are so one by one, and only then
one_by_one : {X : Type 0} (n : ℕ) (f g : ℕ → X) (d : X) → rows n f ≡ rows n g → (r : ℕ) → r < n → f r ≡ g r
one_by_one {X} n f g d e r l = sym (get_or_rows n f r d l) ∙ ap (λ (xs : List X). get_or xs r d) e ∙ get_or_rows n g r d l

-- equal lists whose fronts are as long have equal fronts, and equal rests
append_parts : {X : Type 0} (xs ys us vs : List X) → length xs ≡ length ys → xs ++ us ≡ ys ++ vs → (xs ≡ ys) × (us ≡ vs)
append_parts [] [] us vs l e = (refl, e)
append_parts [] (y ∷ ys) us vs l e = absurd (omega arith)
append_parts (x ∷ xs) [] us vs l e = absurd (omega arith)
append_parts (x ∷ xs) (y ∷ ys) us vs l e =
    let h : x ≡ y = cc in
    let t : xs ++ us ≡ ys ++ vs = cc in
    let p = append_parts xs ys us vs (omega arith) t in
    (cc (p.0), p.1)

-- lists as long row by row, and equal when joined, are equal row by row
joined_from : {X : Type 0} (c : ℕ) (f g : ℕ → List X) → ((r : ℕ) → r < c → length (f r) ≡ length (g r)) → join_all (rows c f) ≡ join_all (rows c g)
    → (r : ℕ) → r < c → f r ≡ g r
joined_from zero f g l e r m = absurd (not-suc-le-zero m)
joined_from (suc c) f g l e zero m =
    (append_parts (f 0) (g 0) (join_all (rows c (λ i. f (suc i)))) (join_all (rows c (λ i. g (suc i)))) (l 0 (omega arith)) e).0
joined_from (suc c) f g l e (suc r) m =
    joined_from c (λ i. f (suc i)) (λ i. g (suc i)) (λ i k. l (suc i) (omega arith))
    (append_parts (f 0) (g 0) (join_all (rows c (λ i. f (suc i)))) (join_all (rows c (λ i. g (suc i)))) (l 0 (omega arith)) e).1 r (omega arith)

-- rows of lists, of lengths p and q, that are xs and ys when joined: they are equal if lengths and joined lists are, and only then
joined_same : {X : Type 0} (c d : ℕ) (f g : ℕ → List X) (p q : ℕ → ℕ) (xs ys : List X) → c ≡ d
    → ((r : ℕ) → r < c → length (f r) ≡ p r) → ((r : ℕ) → r < d → length (g r) ≡ q r) → join_all (rows c f) ≡ xs → join_all (rows d g) ≡ ys
    → ((r : ℕ) → r < c → f r ≡ g r) ↔ (((r : ℕ) → r < c → p r ≡ q r) × (xs ≡ ys))
joined_same {X} c d f g p q xs ys e a b u v =
    let long : (r : ℕ) → r < c → length (g r) ≡ q r = λ r l. b r (omega arith) in
    let join : join_all (rows c g) ≡ ys = ap (λ (n : ℕ). join_all (rows n g)) e ∙ v in (
      λ h. (λ r l. sym (a r l) ∙ ap length (h r l) ∙ long r l, sym u ∙ ap join_all (rows_same c f g h) ∙ join),
      λ h. joined_from c f g (λ r l. a r l ∙ h.0 r l ∙ sym (long r l)) (u ∙ h.1 ∙ sym join),
    )

-- one equivalence after another
along : {A B C : Type 0} → A ↔ B → B ↔ C → A ↔ C
along p q = (λ a. q.0 (p.0 a), λ c. p.1 (q.1 c))

-- heads and tails of equal lists
cons_parts : {X : Type 0} (x y : X) (xs ys : List X) → x ∷ xs ≡ y ∷ ys → (x ≡ y) × (xs ≡ ys)
cons_parts x y xs ys e = (cc, cc)

-- rows that follow one another, joined, are rows
join_rows : {X : Type 0} (c : ℕ) (s : ℕ → ℕ) (f : ℕ → X) → ((i : ℕ) → i < c → s i ≤ s (suc i))
    → join_all (rows c (λ i. rows (s (suc i) - s i) (λ j. f (s i + j)))) ≡ rows (s c - s 0) (λ j. f (s 0 + j))
join_rows zero s f h = rw (sub_self (s 0))
join_rows {X} (suc c) s f h =
    let up : s 0 ≤ s 1 = h 0 (omega arith) in
    let far : s 1 ≤ s (suc c) = rise (suc c) 1 s h (omega arith) in
    let whole : s 1 - s 0 + (s (suc c) - s 1) ≡ s (suc c) - s 0 = omega arith in
    ap (λ (l : List X). rows (s 1 - s 0) (λ j. f (s 0 + j)) ++ l)
    (join_rows c (λ i. s (suc i)) f (λ i l. h (suc i) (omega arith))
    ∙ rows_same (s (suc c) - s 1) (λ j. f (s 1 + j)) (λ j. f (s 0 + (s 1 - s 0 + j)))
    (λ j l. let e : s 1 + j ≡ s 0 + (s 1 - s 0 + j) = omega arith in ap f e))
    ∙ rows_add (s 1 - s 0) (s (suc c) - s 1) (λ j. f (s 0 + j))
    ∙ ap (λ (n : ℕ). rows n (λ j. f (s 0 + j))) whole

-- values held alike are alike
held_same : (vs ws : List Value) → held vs ≡ held ws → vs ≡ ws
held_same [] [] e = refl
held_same [] (w ∷ ws) e = cc
held_same (v ∷ vs) [] e = cc
held_same (v ∷ vs) (w ∷ ws) e =
    let h : v ≡ w = cc in
    let t : held vs ≡ held ws = cc in
    cc (held_same vs ws t)

list_same : (vs ws : List Value) → Value.list (held vs) ≡ Value.list (held ws) → vs ≡ ws
list_same vs ws e = let h : held vs ≡ held ws = cc in held_same vs ws h

struct_same : (vs ws : List Value) → Value.struct (held vs) ≡ Value.struct (held ws) → vs ≡ ws
struct_same vs ws e = let h : held vs ≡ held ws = cc in held_same vs ws h

-- ---- the value of a row, by its kind

-- of a null row, whatever its node
no_value : (bs : List ℕ) (n : Node) (f : Forest) (o : Option Kind) (r : ℕ) → mark_at bs n r ≡ false → value_at bs (tree_as o n f) r ≡ null
unfolding value_at
no_value bs n f None r e = refl
no_value bs n f (Some Null) r e = refl
no_value bs n f (Some Boolean) r e = rw e
no_value bs n f (Some Fixed) r e = rw e
no_value bs n f (Some Bytes32) r e = rw e
no_value bs n f (Some Bytes64) r e = rw e
no_value bs n f (Some List32) r e = rw e
no_value bs n f (Some List64) r e = rw e
no_value bs n f (Some Struct) r e = rw e
no_value bs n f (Some Dictionary) r e = rw e

-- of a valid row of any kind but Null and Dictionary
some_value : (bs : List ℕ) (n : Node) (f : Forest) (k : Kind) (r : ℕ) → (k ≡ Null → ⊥) → (k ≡ Dictionary → ⊥) → mark_at bs n r ≡ true
    → value_at bs (tree_as (Some k) n f) r ≡ null → ⊥
unfolding value_at
some_value bs n f Null r a b e q = a refl
some_value bs n f Boolean r a b e q = let g = rw e at q in cc
some_value bs n f Fixed r a b e q = let g = rw e at q in cc
some_value bs n f Bytes32 r a b e q = let g = rw e at q in cc
some_value bs n f Bytes64 r a b e q = let g = rw e at q in cc
some_value bs n f List32 r a b e q = let g = rw e at q in cc
some_value bs n f List64 r a b e q = let g = rw e at q in cc
some_value bs n f Struct r a b e q = let g = rw e at q in cc
some_value bs n f Dictionary r a b e q = b refl

-- the trees below a window's node
abbrev below : Window → Forest
below w = trees_in w.nodes (w.node + 1) (end_of w.nodes w.node)

value_as : (w : Window) (k : Kind) → Is (top_in w) k → (r : ℕ) → value_in w r ≡ value_at w.bytes (tree_as (Some k) (top_in w) (below w)) (w.first + r)
value_as w k is r = ap (λ (t : Tree). value_at w.bytes t (w.first + r)) (tree_as_lem (top_in w) (below w) k is)

-- a null row has no value
pub null_row : (w : Window) → Inside w → (r : ℕ) → mark_at w.bytes (top_in w) (w.first + r) ≡ false → value_in w r ≡ null
null_row w g r e = no_value w.bytes (top_in w) (below w) (kind_of (top_in w).kind) (w.first + r) e

-- nor has a row of a Null
pub null_kind : (w : Window) → Is (top_in w) Null → (r : ℕ) → value_in w r ≡ null
unfolding value_at
null_kind w is r = value_as w Null is r

-- a valid row of any other kind has one, but for a Dictionary, whose row has that of an entry
pub valid_row : (w : Window) (k : Kind) → Inside w → Is (top_in w) k → (k ≡ Null → ⊥) → (k ≡ Dictionary → ⊥) → (r : ℕ)
    → mark_at w.bytes (top_in w) (w.first + r) ≡ true → value_in w r ≡ null → ⊥
valid_row w k g is a b r e q = some_value w.bytes (top_in w) (below w) k (w.first + r) a b e (sym (value_as w k is r) ∙ q)

-- ---- rows of two windows by a piece of each

-- values made of pieces are equal if the pieces are, and only then
pieces : {X : Type 0} (C : X → Value) → ((x y : X) → C x ≡ C y → x ≡ y) → (v w : Window) (f g : ℕ → X)
    → ((r : ℕ) → r < v.rows → value_in v r ≡ C (f r)) → ((r : ℕ) → r < v.rows → value_in w r ≡ C (g r))
    → SameRows v w ↔ ((r : ℕ) → r < v.rows → f r ≡ g r)
pieces C inj v w f g a b = (
  λ h r l. inj (f r) (g r) (sym (a r l) ∙ h r l ∙ b r l),
  λ h r l. a r l ∙ ap C (h r l) ∙ sym (b r l),
)

-- row r of a window is valid
abbrev Marked : Window → ℕ → Type 0
Marked w r = mark_at w.bytes (top_in w) (w.first + r) ≡ true

-- the rows of a valid window are as many as those of another
marked_by : (v w : Window) → v.rows ≡ w.rows → Valid w → (r : ℕ) → r < v.rows → Marked w r
marked_by v w e ok r l = ok r (omega arith)

-- what row r of a window has: a bit, a slot, an offset, a count, a string
abbrev flag_of : Window → ℕ → Bool
flag_of w r = flag_at w.bytes (top_in w) (w.first + r)

abbrev slot_of : Window → ℕ → List ℕ
slot_of w r = slot_at w.bytes (top_in w).size (top_in w) (w.first + r)

abbrev offset_of : ℕ → Window → ℕ → ℕ
offset_of x w r = offset_at w.bytes x (top_in w) (w.first + r)

abbrev count_of : ℕ → Window → ℕ → ℕ
count_of x w r = count_at w.bytes x (top_in w) (w.first + r)

abbrev string_of : ℕ → Window → ℕ → List ℕ
string_of x w r = string_at w.bytes x (top_in w) (w.first + r)

-- where the first c rows of a window start in the data or in the child, and how much they have there
abbrev first_of_rows : ℕ → Window → ℕ → ℕ
first_of_rows x w c = passed_first w.bytes x (top_in w) w.first c

abbrev count_of_rows : ℕ → Window → ℕ → ℕ
count_of_rows x w c = passed_count w.bytes x (top_in w) w.first c

-- ---- bits

-- what a valid row of bits holds
bit_of_row : (w : Window) → Is (top_in w) Boolean → (r : ℕ) → Marked w r → value_in w r ≡ Value.bit (flag_of w r)
unfolding value_at
bit_of_row w is r m = value_as w Boolean is r ∙ rw m

-- valid Booleans have the same rows if they have the same bits, and only then
pub bits_same : (v w : Window) → Inside v → Inside w → v.rows ≡ w.rows → Valid v → Valid w → Is (top_in v) Boolean → Is (top_in w) Boolean
    → SameRows v w ↔ SameBits v w
bits_same v w g h e a b is at =
    pieces Value.bit (λ x y p. cc) v w (flag_of v) (flag_of w) (λ r l. bit_of_row v is r (a r l)) (λ r l. bit_of_row w at r (marked_by v w e b r l))

-- ---- slots

-- what a valid row of slots holds; every slot is as long, and joined they are one part of the bytes
slot_of_row : (w : Window) → Is (top_in w) Fixed → (r : ℕ) → Marked w r → value_in w r ≡ Value.bytes (slot_of w r)
unfolding value_at
slot_of_row w is r m = value_as w Fixed is r ∙ rw m

slot_long : (w : Window) → Inside w → Is (top_in w) Fixed → (r : ℕ) → r < w.rows → length (slot_of w r) ≡ (top_in w).size
slot_long w g is r l =
    let n : Node = top_in w in
    let k : ℕ = n.from + (w.first + r) in
    let lies = fixed_lie w.bytes n (kept_rule w.nodes w.bytes g.opened w.node g.stands Place) is in
    let p : suc k * n.size ≤ (n.from + n.rows) * n.size = mul-le-mul_right n.size (omega (arith, g.within)) in
    length_cut (n.slots + k * n.size) n.size w.bytes (omega (arith, suc-mul k n.size))

slots_all : (w : Window) → join_all (rows w.rows (slot_of w)) ≡ slots_in w
slots_all w = slots_joined w.bytes (top_in w).size (top_in w) w.first w.rows

-- valid Fixed values of one size have the same rows if all their slots are the same bytes, and only then
pub slots_same : (v w : Window) → Inside v → Inside w → v.rows ≡ w.rows → Valid v → Valid w → Is (top_in v) Fixed → Is (top_in w) Fixed
    → (top_in v).size ≡ (top_in w).size → SameRows v w ↔ (slots_in v ≡ slots_in w)
slots_same v w g h e a b is at size =
    let by =
    pieces Value.bytes (λ x y p. cc) v w (slot_of v) (slot_of w) (λ r l. slot_of_row v is r (a r l)) (λ r l. slot_of_row w at r (marked_by v w e b r l)) in
    let all =
    joined_same v.rows w.rows (slot_of v) (slot_of w) (λ r. (top_in v).size) (λ r. (top_in w).size) (slots_in v) (slots_in w) e
    (slot_long v g is) (slot_long w h at) (slots_all v) (slots_all w) in
    (λ s. (all.0 (by.0 s)).1, λ s. by.1 (all.1 (λ r l. size, s)))

-- ---- offsets

module _ (w : Window) (k : Kind) (x : Width) (g : Inside w) (is : Is (top_in w) k) (e : offset_width k ≡ Some x) where
  -- what they do not pass
  abbrev most : ℕ
  most = reach k w.nodes w.node

  rising : Rising w.bytes (wide x) (top_in w) most
  rising = kept_rule w.nodes w.bytes g.opened w.node g.stands Offset k x is e

  count_all : count_of_rows (wide x) w w.rows ≡ total (rows w.rows (count_of (wide x) w))
  count_all = by w.rows g.within
    where
      by : (c : ℕ) → w.first + c ≤ (top_in w).rows → count_of_rows (wide x) w c ≡ total (rows c (count_of (wide x) w))
      by zero l = refl
      by (suc c) l = omega (arith, in_all w.bytes (wide x) (top_in w) most rising w.first (suc c) l)

-- equal counts make as many elements
pub counts_total : (v w : Window) (k : Kind) (x : Width) → Inside v → Inside w → v.rows ≡ w.rows → Is (top_in v) k → Is (top_in w) k → offset_width k ≡ Some x
    → SameCounts (wide x) v w → passed_count v.bytes (wide x) (top_in v) v.first v.rows ≡ passed_count w.bytes (wide x) (top_in w) w.first w.rows
counts_total v w k x g h e is at o same =
    count_all v k x g is o
    ∙ ap total (rows_same v.rows (count_of (wide x) v) (count_of (wide x) w) same)
    ∙ ap (λ (n : ℕ). total (rows n (count_of (wide x) w))) e
    ∙ sym (count_all w k x h at o)

-- ---- byte strings

-- no offset passes the data
pub reach_is : (k : Kind) (ns : List Node) (i : ℕ) → has_data k ≡ true → reach k ns i ≡ (node_at ns i).extent
reach_is Null ns i d = cc
reach_is Boolean ns i d = cc
reach_is Fixed ns i d = cc
reach_is Bytes32 ns i d = refl
reach_is Bytes64 ns i d = refl
reach_is List32 ns i d = cc
reach_is List64 ns i d = cc
reach_is Struct ns i d = cc
reach_is Dictionary ns i d = cc

-- the trees of byte strings
bytes_as : (n : Node) (f : Forest) (k : Kind) (x : Width) → offset_width k ≡ Some x → has_data k ≡ true → tree_as (Some k) n f ≡ Tree.bytes (wide x) n
bytes_as n f Null x e d = cc
bytes_as n f Boolean x e d = cc
bytes_as n f Fixed x e d = cc
bytes_as n f Bytes32 x e d = let s : Four ≡ x = cc in ap (λ (y : Width). Tree.bytes (wide y) n) s
bytes_as n f Bytes64 x e d = let s : Eight ≡ x = cc in ap (λ (y : Width). Tree.bytes (wide y) n) s
bytes_as n f List32 x e d = cc
bytes_as n f List64 x e d = cc
bytes_as n f Struct x e d = cc
bytes_as n f Dictionary x e d = cc

module _ (w : Window) (k : Kind) (x : Width) (g : Inside w) (is : Is (top_in w) k) (e : offset_width k ≡ Some x) (d : has_data k ≡ true) where
  -- what a valid row of byte strings holds; it is as long as is counted, and joined they are one part of the bytes
  string_of_row : (r : ℕ) → Marked w r → value_in w r ≡ Value.bytes (string_of (wide x) w r)
  unfolding value_at
  string_of_row r m = value_as w k is r ∙ ap (λ (t : Tree). value_at w.bytes t (w.first + r)) (bytes_as (top_in w) (below w) k x e d) ∙ rw m

  string_long : (r : ℕ) → r < w.rows → length (string_of (wide x) w r) ≡ count_of (wide x) w r
  string_long r l =
      let n : Node = top_in w in
      let top : ℕ = most w k x g is e in
      let h = rising w k x g is e in
      let at : ℕ → ℕ = offset_at w.bytes (wide x) n in
      let next : w.first + (r + 1) ≡ w.first + r + 1 = omega arith in
      let up : at (w.first + r + 1) ≤ at (w.first + w.rows) =
      subst (λ (i : ℕ). at i ≤ at (w.first + w.rows)) next (up_to w.bytes (wide x) n top h w.first w.rows g.within (r + 1) (omega arith)) in
      let last : at (w.first + w.rows) ≤ top = at_most w.bytes (wide x) n top h w.first w.rows g.within (omega arith) in
      let step : at (w.first + r) ≤ at (w.first + r + 1) = h.rises (w.first + r) (omega (arith, g.within)) in
      let lies : n.«data» + n.extent ≤ length w.bytes = (kept_rule w.nodes w.bytes g.opened w.node g.stands Place).strings k is d in
      length_cut (n.«data» + at (w.first + r)) (count_of (wide x) w r) w.bytes (omega (arith, reach_is k w.nodes w.node d))

  strings_all : join_all (rows w.rows (string_of (wide x) w)) ≡ strings_in (wide x) w
  strings_all = by w.rows g.within
    where
      by : (c : ℕ) → w.first + c ≤ (top_in w).rows
          → join_all (rows c (string_of (wide x) w)) ≡ cut ((top_in w).«data» + first_of_rows (wide x) w c) (count_of_rows (wide x) w c) w.bytes
      by zero l = refl
      by (suc c) l = strings_joined w.bytes (wide x) (top_in w) w.first (suc c) (most w k x g is e) (rising w k x g is e) l

-- valid byte strings have the same rows if they are as long row by row and their data is the same, and only then
pub strings_same : (v w : Window) (k : Kind) (x : Width) → Inside v → Inside w → v.rows ≡ w.rows → Valid v → Valid w → Is (top_in v) k → Is (top_in w) k
    → offset_width k ≡ Some x → has_data k ≡ true → SameRows v w ↔ (SameCounts (wide x) v w × (strings_in (wide x) v ≡ strings_in (wide x) w))
strings_same v w k x g h e a b is at o d =
    let f : ℕ → List ℕ = string_of (wide x) v in
    let s : ℕ → List ℕ = string_of (wide x) w in
    along
    (pieces Value.bytes (λ x y p. cc) v w f s
    (λ r l. string_of_row v k x g is o d r (a r l)) (λ r l. string_of_row w k x h at o d r (marked_by v w e b r l)))
    (joined_same v.rows w.rows f s (count_of (wide x) v) (count_of (wide x) w) (strings_in (wide x) v) (strings_in (wide x) w) e
    (string_long v k x g is o d) (string_long w k x h at o d) (strings_all v k x g is o d) (strings_all w k x h at o d))

-- ---- elements

-- the value of row i of the child
abbrev item : Window → ℕ → Value
item w i = value_at w.bytes (tree_at w.nodes (w.node + 1)) i

-- those of row r
abbrev items : ℕ → Window → ℕ → List Value
items x w r = rows (count_of x w r) (λ i. item w (offset_of x w r + i))

-- the trees of lists
lists_as : (n : Node) (f : Forest) (k : Kind) (x : Width) (t : Tree) → (((c : ℕ) → ChildrenFit k c → c ≡ 1) → child_of n f ≡ t)
    → offset_width k ≡ Some x → has_data k ≡ false → tree_as (Some k) n f ≡ Tree.lists (wide x) n t
lists_as n f Null x t one e d = cc
lists_as n f Boolean x t one e d = cc
lists_as n f Fixed x t one e d = cc
lists_as n f Bytes32 x t one e d = cc
lists_as n f Bytes64 x t one e d = cc
lists_as n f List32 x t one e d = let s : Four ≡ x = cc in ap₂ (λ (y : Width) (u : Tree). Tree.lists (wide y) n u) s (one (λ c h. h))
lists_as n f List64 x t one e d = let s : Eight ≡ x = cc in ap₂ (λ (y : Width) (u : Tree). Tree.lists (wide y) n u) s (one (λ c h. h))
lists_as n f Struct x t one e d = cc
lists_as n f Dictionary x t one e d = cc

module _ (w : Window) (k : Kind) (x : Width) (g : Inside w) (is : Is (top_in w) k) (e : offset_width k ≡ Some x) (d : has_data k ≡ false) where
  -- what a valid row of a list holds; joined, these are the rows of one window of the child
  items_of_row : (r : ℕ) → Marked w r → value_in w r ≡ Value.list (held (items (wide x) w r))
  unfolding value_at
  items_of_row r m =
      let child : ((c : ℕ) → ChildrenFit k c → c ≡ 1) → child_of (top_in w) (below w) ≡ tree_at w.nodes (w.node + 1) =
      child_is w.nodes w.bytes g.opened w.node k g.stands is in
      value_as w k is r
      ∙ ap (λ (t : Tree). value_at w.bytes t (w.first + r)) (lists_as (top_in w) (below w) k x (tree_at w.nodes (w.node + 1)) child e d)
      ∙ rw m

  items_all : join_all (rows w.rows (items (wide x) w)) ≡ rows (count_of_rows (wide x) w w.rows) (value_in (elements_in (wide x) w))
  items_all = by w.rows g.within
    where
      next : (i : ℕ) → count_of (wide x) w i ≡ offset_of (wide x) w (suc i) - offset_of (wide x) w i
      next i =
          let q : w.first + i + 1 ≡ w.first + suc i = omega arith in
          ap (λ (j : ℕ). offset_at w.bytes (wide x) (top_in w) j - offset_of (wide x) w i) q

      by : (c : ℕ) → w.first + c ≤ (top_in w).rows
          → join_all (rows c (items (wide x) w)) ≡ rows (count_of_rows (wide x) w c) (λ i. item w (first_of_rows (wide x) w c + i))
      by zero l = refl
      by (suc c) l =
          let at : ℕ → ℕ = offset_of (wide x) w in
          let z : w.first + 0 ≡ w.first = omega arith in
          ap join_all
          (rows_same (suc c) (items (wide x) w) (λ i. rows (at (suc i) - at i) (λ j. item w (at i + j)))
          (λ i m. ap (λ (n : ℕ). rows n (λ j. item w (at i + j))) (next i)))
          ∙ join_rows (suc c) at (item w) (slot_rises w.bytes (wide x) (top_in w) (most w k x g is e) (rising w k x g is e) w.first (suc c) l)
          ∙ ap (λ (i : ℕ). let b : ℕ = offset_at w.bytes (wide x) (top_in w) i in rows (at (suc c) - b) (λ j. item w (b + j))) z

-- valid lists have the same rows if they are as long row by row and their elements are the same, and only then
pub elements_same : (v w : Window) (k : Kind) (x : Width) → Inside v → Inside w → v.rows ≡ w.rows → Valid v → Valid w → Is (top_in v) k → Is (top_in w) k
    → offset_width k ≡ Some x → has_data k ≡ false → SameRows v w ↔ (SameCounts (wide x) v w × SameRows (elements_in (wide x) v) (elements_in (wide x) w))
elements_same v w k x g h e a b is at o d =
    let m : ℕ = count_of_rows (wide x) v v.rows in
    let n : ℕ = count_of_rows (wide x) w w.rows in
    let y : ℕ → Value = value_in (elements_in (wide x) v) in
    let z : ℕ → Value = value_in (elements_in (wide x) w) in
    let f : ℕ → List Value = items (wide x) v in
    let s : ℕ → List Value = items (wide x) w in
    let as_many : SameCounts (wide x) v w → m ≡ n = counts_total v w k x g h e is at o in
    along
    (pieces (λ vs. Value.list (held vs)) list_same v w f s
    (λ r l. items_of_row v k x g is o d r (a r l)) (λ r l. items_of_row w k x h at o d r (marked_by v w e b r l)))
    (along
    (joined_same v.rows w.rows f s (count_of (wide x) v) (count_of (wide x) w) (rows m y) (rows n z) e
    (λ r l. length-rows (count_of (wide x) v r) _) (λ r l. length-rows (count_of (wide x) w r) _) (items_all v k x g is o d) (items_all w k x h at o d)) (
      λ p. (p.0, one_by_one m y z null (p.1 ∙ ap (λ (i : ℕ). rows i z) (sym (as_many p.0)))),
      λ p. (p.0, rows_same m y z p.1 ∙ ap (λ (i : ℕ). rows i z) (as_many p.0)),
    ))

-- ---- parts

-- the values of one row of trees side by side
parts_at : (bs : List ℕ) (ns : List Node) (cs : List ℕ) (p e r : ℕ) → SideBySide ns p cs e → e ≤ length ns
    → values_at bs (trees_in ns p e) r ≡ map (λ c. value_at bs (tree_at ns c) r) cs
unfolding value_at
parts_at bs ns [] p e r s l = ap (λ (f : Forest). values_at bs f r) (at_none ns p e (omega arith))
parts_at bs ns (c ∷ cs) p e r s l =
    let up = side_le ns cs (end_of ns p) e s.2 in
    ap (λ (f : Forest). values_at bs f r) (at_more ns p e (omega (arith, s.1)) l s.1 up)
    ∙ ap₂ (λ (v : Value) (vs : List Value). v ∷ vs) (ap (λ (i : ℕ). value_at bs (tree_at ns i) r) (sym s.0))
    (parts_at bs ns cs (end_of ns p) e r s.2 l)

-- those of a row of a window's children
abbrev parts : Window → List ℕ → ℕ → List Value
parts w cs r = map (λ c. value_at w.bytes (tree_at w.nodes c) (w.first + r)) cs

parts_of_row : (w : Window) (cs : List ℕ) → Inside w → Is (top_in w) Struct → SideBySide w.nodes (w.node + 1) cs (end_of w.nodes w.node)
    → (r : ℕ) → Marked w r → value_in w r ≡ Value.struct (held (parts w cs r))
unfolding value_at
parts_of_row w cs g is s r m =
    let nest = kept_rule w.nodes w.bytes g.opened w.node g.stands Nesting in
    let whole : value_in w r ≡ Value.struct (held (values_at w.bytes (below w) (w.first + r))) = value_as w Struct is r ∙ rw m in
    whole
    ∙ ap (λ (vs : List Value). Value.struct (held vs)) (parts_at w.bytes w.nodes cs (w.node + 1) (end_of w.nodes w.node) (w.first + r) s nest.within)

-- equal parts row by row, and windows equal part by part
pairs_to : (v w : Window) (cs ds : List ℕ) → length cs ≡ length ds → ((r : ℕ) → r < v.rows → parts v cs r ≡ parts w ds r)
    → Pairwise SameRows (map (passed_to Struct v) cs) (map (passed_to Struct w) ds)
pairs_to v w [] [] l h = tt
pairs_to v w [] (d ∷ ds) l h = absurd (omega arith)
pairs_to v w (c ∷ cs) [] l h = absurd (omega arith)
pairs_to v w (c ∷ cs) (d ∷ ds) l h = (
  λ r m. (cons_parts _ _ (parts v cs r) (parts w ds r) (h r m)).0,
  pairs_to v w cs ds (omega arith) (λ r m. (cons_parts _ _ (parts v cs r) (parts w ds r) (h r m)).1),
)

pairs_from : (v w : Window) (cs ds : List ℕ) → Pairwise SameRows (map (passed_to Struct v) cs) (map (passed_to Struct w) ds)
    → (r : ℕ) → r < v.rows → parts v cs r ≡ parts w ds r
pairs_from v w [] [] h r m = refl
pairs_from v w [] (d ∷ ds) h r m = absurd h
pairs_from v w (c ∷ cs) [] h r m = absurd h
pairs_from v w (c ∷ cs) (d ∷ ds) h r m = ap₂ (λ (y : Value) (ys : List Value). y ∷ ys) (h.0 r m) (pairs_from v w cs ds h.1 r m)

-- valid Structs have the same rows if their parts do one by one, and only then
pub parts_same : (v w : Window) (cs ds : List ℕ) → Inside v → Inside w → v.rows ≡ w.rows → Valid v → Valid w → Is (top_in v) Struct → Is (top_in w) Struct
    → SideBySide v.nodes (v.node + 1) cs (end_of v.nodes v.node) → SideBySide w.nodes (w.node + 1) ds (end_of w.nodes w.node) → length cs ≡ length ds
    → SameRows v w ↔ Pairwise SameRows (map (passed_to Struct v) cs) (map (passed_to Struct w) ds)
parts_same v w cs ds g h e a b is at s t l =
    along
    (pieces (λ vs. Value.struct (held vs)) struct_same v w (parts v cs) (parts w ds)
    (λ r m. parts_of_row v cs g is s r (a r m)) (λ r m. parts_of_row w ds h at t r (marked_by v w e b r m)))
    (pairs_to v w cs ds l, pairs_from v w cs ds)
