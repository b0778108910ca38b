-- What a window of an opened recording shows is what the recording has there.
use Rattle.std.proofs.Common.{◌≡◌, ℕ, zero, suc, ◌+◌, ◌-◌, ◌*◌, ◌^◌, ◌<◌, ◌≤◌, Bool, true, false, cond, List, [], ◌∷◌, ◌++◌, map, length, get_or, take, drop, replicate, Some, None, Option, sym, refl, ap, ◌∙◌, subst, ap₂, not-suc-le-zero, add-zero, add_assoc, mul-le-mul_right, suc-mul, arith, length-take, take_all}
use Rattle.layout.specs.declared.node.Node.{Node}
use Rattle.layout.specs.Lists.{rows, cut, total, lengths}
use Rattle.layout.specs.Numbers.{unle, natural}
use Rattle.layout.specs.Bits.{bit_at}
use Rattle.layout.specs.Trees.{Tree, Forest, nulls, bools, fixed, bytes, lists, struct, dictionary, none, more, rows_of}
use Rattle.layout.specs.Rows.{mark_in, mark_at, flag_at, slot_at, offset_at, count_at, string_at, key_at}
use Rattle.layout.specs.Windows.{value_at, values_at, marks_in, marks_at, passed_first, passed_count, shown, shown_all, shape_of, shapes_of, met_in, met_in_all}
use Rattle.layout.specs.Nodes.{bitmap_of}
use Rattle.layout.specs.Rules.{Rising}
use Rattle.laws.proofs.Opened.{RowsAll, Opened, OpenedAll}
use Rattle.laws.proofs.Good.{Marked, Good, GoodAll}
use Rattle.layout.specs.Shown.{Shown, Value, null, held, marked, column, across, named, count, values, values_all, met, met_all, Shape, Shapes, shape, shapes}
use Rattle.layout.proofs.Lists.{rows_same, get_or_rows, length-rows, length_cut}
use Rattle.laws.proofs.Lists.{map-append, map_rows, cut-rows, each_rows, steps, rise}
use Rattle.laws.proofs.Bits.{number_small}

-- ---- what goes by the nodes alone

-- a window of c rows shows c rows
pub counts : (bs : List ℕ) (t : Tree) (a c : ℕ) → count (shown bs t a c) ≡ c
unfolding shown
counts bs (nulls n) a c = refl
counts bs (bools n) a c = length-rows c (λ r. bit_at (drop n.slots bs) (n.from + a + r))
counts bs (fixed n) a c = length-rows c (λ r. slot_at bs n.size n (a + r))
counts bs (bytes w n) a c = length-rows c (λ r. string_at bs w n (a + r))
counts bs (lists w n t) a c = length-rows c (λ r. count_at bs w n (a + r))
counts bs (struct n f) a c = refl
counts bs (dictionary n t) a c = length-rows c (λ r. key_at bs n (a + r))

mutual
  unfolding shape shown shape_of

  pub shape_is : (bs : List ℕ) (t : Tree) (a c : ℕ) → shape (shown bs t a c) ≡ shape_of t
  shape_is bs (nulls n) a c = refl
  shape_is bs (bools n) a c = refl
  shape_is bs (fixed n) a c = refl
  shape_is bs (bytes w n) a c = refl
  shape_is bs (lists w n t) a c = ap (Shape.lists n.mark w) (shape_is bs t (passed_first bs w n a c) (passed_count bs w n a c))
  shape_is bs (struct n f) a c = ap (Shape.struct n.mark) (shapes_are bs f a c)
  shape_is bs (dictionary n t) a c = ap (Shape.dictionary n.mark n.size) (shape_is bs t 0 (rows_of t))

  pub shapes_are : (bs : List ℕ) (f : Forest) (a c : ℕ) → shapes (shown_all bs f a c) ≡ shapes_of f
  shapes_are bs none a c = refl
  shapes_are bs (more t f) a c = ap₂ Shapes.more (shape_is bs t a c) (shapes_are bs f a c)

abbrev whole : List ℕ → Tree → Shown
whole bs d = shown bs d 0 (rows_of d)

mutual
  unfolding met shown met_in

  pub meets : (bs : List ℕ) (t : Tree) (a c : ℕ) → met (shown bs t a c) ≡ map (λ (d : Tree). shown bs d 0 (rows_of d)) (met_in t)
  meets bs (nulls n) a c = refl
  meets bs (bools n) a c = refl
  meets bs (fixed n) a c = refl
  meets bs (bytes w n) a c = refl
  meets bs (lists w n t) a c = meets bs t (passed_first bs w n a c) (passed_count bs w n a c)
  meets bs (struct n f) a c = meets_all bs f a c
  meets bs (dictionary n t) a c = refl

  pub meets_all : (bs : List ℕ) (f : Forest) (a c : ℕ) → met_all (shown_all bs f a c) ≡ map (λ (d : Tree). shown bs d 0 (rows_of d)) (met_in_all f)
  meets_all bs none a c = refl
  meets_all bs (more t f) a c = ap₂ {C = List Shown} (λ x y. x ++ y) (meets bs t a c) (meets_all bs f a c) ∙ sym (map-append (whole bs) (met_in t) (met_in_all f))

-- ---- offsets of a window

module _ (bs : List ℕ) (w : ℕ) (n : Node) (most : ℕ) (h : Rising bs w n most) (a c : ℕ) (l : a + c ≤ n.rows) where
  pub slot_rises : (i : ℕ) → i < c → offset_at bs w n (a + i) ≤ offset_at bs w n (a + suc i)
  slot_rises i m =
      let e : a + i + 1 ≡ a + suc i = omega arith in
      subst (λ (k : ℕ). offset_at bs w n (a + i) ≤ offset_at bs w n k) e (h.rises (a + i) (omega arith))

  pub counts_are : rows c (λ r. count_at bs w n (a + r)) ≡ rows c (λ i. offset_at bs w n (a + suc i) - offset_at bs w n (a + i))
  counts_are = rows_same c (λ r. count_at bs w n (a + r)) (λ i. offset_at bs w n (a + suc i) - offset_at bs w n (a + i)) (λ i m.
      let e : a + i + 1 ≡ a + suc i = omega arith in
      ap (λ (k : ℕ). offset_at bs w n k - offset_at bs w n (a + i)) e)

  -- the counts before row r
  pub before : (r : ℕ) → r ≤ c → offset_at bs w n a + total (take r (rows c (λ i. count_at bs w n (a + i)))) ≡ offset_at bs w n (a + r)
  before r m =
      ap₂ (λ (x : ℕ) (cs : List ℕ). offset_at bs w n x + total (take r cs)) (sym (add-zero a)) counts_are
      ∙ steps c r (λ i. offset_at bs w n (a + i)) slot_rises m

  pub up_to : (r : ℕ) → r ≤ c → offset_at bs w n (a + r) ≤ offset_at bs w n (a + c)
  up_to r m = rise c r (λ i. offset_at bs w n (a + i)) slot_rises m

  pub in_all : offset_at bs w n a + total (rows c (λ i. count_at bs w n (a + i))) ≡ offset_at bs w n (a + c)
  in_all =
      ap (λ (x : List ℕ). offset_at bs w n a + total x)
      (sym (take_all c (rows c (λ i. count_at bs w n (a + i))) (omega (arith, length-rows c (λ i. count_at bs w n (a + i))))))
      ∙ before c (omega arith)

  pub at_most : 0 < c → offset_at bs w n (a + c) ≤ most
  at_most p =
      let k : offset_at bs w n (a + c) ≤ offset_at bs w n n.rows = rise n.rows (a + c) (λ i. offset_at bs w n i)
      (λ i m. subst (λ (x : ℕ). offset_at bs w n i ≤ offset_at bs w n x) (suc_is i) (h.rises i m)) l in
      let j : offset_at bs w n n.rows ≤ most = h.within (omega arith) n.rows (omega arith) in
      omega arith
    where
      suc_is : (i : ℕ) → i + 1 ≡ suc i
      suc_is i = omega arith

small : (bs : List ℕ) (w : ℕ) (n : Node) (r : ℕ) → 2 * offset_at bs w n r < 256 ^ w
small bs w n r = number_small w (slot_at bs w n r) (simp length-take (omega arith))

-- ---- the windows passed are sound

pub passed : (bs : List ℕ) (w : ℕ) (n : Node) (most : ℕ) (h : Rising bs w n most) (a c : ℕ) (l : a + c ≤ n.rows)
    → passed_first bs w n a c + passed_count bs w n a c ≤ most
passed bs w n most h a zero l = omega arith
passed bs w n most h a (suc c) l =
    let p : offset_at bs w n (a + 0) ≤ offset_at bs w n (a + suc c) = up_to bs w n most h a (suc c) l 0 (omega arith) in
    let e : offset_at bs w n (a + 0) ≡ offset_at bs w n a = ap (offset_at bs w n) (add-zero a) in
    omega (arith, at_most bs w n most h a (suc c) l (omega arith))

-- ---- marks

marked_in : (bs : List ℕ) (o : Option ℕ) (a c : ℕ) → Marked (marks_in bs o a c) c
marked_in bs None a c = tt
marked_in bs (Some p) a c = length-rows c (λ r. bit_at (drop p bs) (a + r))

mark_in_lem : (bs : List ℕ) (o : Option ℕ) (a c r : ℕ) → r < c → marked (marks_in bs o a c) r ≡ mark_in bs o (a + r)
mark_in_lem bs None a c r l = refl
mark_in_lem bs (Some p) a c r l = get_or_rows c (λ i. bit_at (drop p bs) (a + i)) r false l

module _ (bs : List ℕ) (n : Node) (a c : ℕ) where
  marks_fit : Marked (marks_at bs n a c) c
  marks_fit = marked_in bs (bitmap_of n) (n.from + a) c

  -- marks that fit c rows fit a list of c
  fit : {X : Type 0} (f : ℕ → X) → Marked (marks_at bs n a c) (length (rows c f))
  fit f = subst (λ (k : ℕ). Marked (marks_at bs n a c) k) (sym (length-rows c f)) marks_fit

  mark_is : (r : ℕ) → r < c → marked (marks_at bs n a c) r ≡ mark_at bs n (a + r)
  mark_is r l = mark_in_lem bs (bitmap_of n) (n.from + a) c r l ∙ ap (mark_in bs (bitmap_of n)) (add_assoc n.from a r)

  -- a column of c rows by the marks at row a: the rest only matters in valid rows
  column_at : (k : ℕ) (f g : ℕ → Value) → k ≡ c → ((r : ℕ) → r < c → mark_at bs n (a + r) ≡ true → f r ≡ g r)
      → column k (marked (marks_at bs n a c)) f ≡ rows c (λ r. cond (mark_at bs n (a + r)) (g r) null)
  column_at k f g e h =
      ap (λ (x : ℕ). column x (marked (marks_at bs n a c)) f) e
      ∙ rows_same c (λ r. cond (marked (marks_at bs n a c) r) (f r) null) (λ r. cond (mark_at bs n (a + r)) (g r) null)
      (λ r l. ap (λ (b : Bool). cond b (f r) null) (mark_is r l) ∙ when (mark_at bs n (a + r)) r refl l)
    where
      when : (b : Bool) (r : ℕ) → mark_at bs n (a + r) ≡ b → r < c → cond b (f r) null ≡ cond b (g r) null
      when true r e l = h r l e
      when false r e l = refl

-- ---- what is shown of a sound window can be encoded

items_fit : (bs : List ℕ) (w : ℕ) (n : Node) (a c : ℕ) → a + c ≤ n.rows → n.slots + (n.from + n.rows) * w ≤ length bs → (r : ℕ) → r < c → length (slot_at bs w n (a + r)) ≡ w
items_fit bs w n a c l h r m =
    let k : ℕ = n.from + (a + r) in
    let p : suc k * w ≤ (n.from + n.rows) * w = mul-le-mul_right w (omega arith) in
    length_cut (n.slots + k * w) w bs (omega (arith, suc-mul k w))

pub strings_fit : (bs : List ℕ) (w : ℕ) (n : Node) (h : Rising bs w n n.extent) → n.«data» + n.extent ≤ length bs → (a c : ℕ) → a + c ≤ n.rows
    → lengths (rows c (λ r. string_at bs w n (a + r))) ≡ rows c (λ r. count_at bs w n (a + r))
strings_fit bs w n h d a c l =
    map_rows length c (λ r. string_at bs w n (a + r))
    ∙ rows_same c (λ r. length (string_at bs w n (a + r))) (λ r. count_at bs w n (a + r))
    (λ r m.
    let e : a + (r + 1) ≡ a + r + 1 = omega arith in
    let u : offset_at bs w n (a + r + 1) ≤ offset_at bs w n (a + c) = subst (λ (x : ℕ). offset_at bs w n x ≤ offset_at bs w n (a + c)) e (up_to bs w n n.extent h a c l (r + 1) (omega arith)) in
    let v : offset_at bs w n (a + c) ≤ n.extent = at_most bs w n n.extent h a c l (omega arith) in
    let s : offset_at bs w n (a + r) ≤ offset_at bs w n (a + r + 1) = h.rises (a + r) (omega arith) in
    length_cut (n.«data» + offset_at bs w n (a + r)) (count_at bs w n (a + r)) bs (omega arith))

mutual
  unfolding shown

  pub good : (bs : List ℕ) (t : Tree) (a c : ℕ) → Opened bs t → a + c ≤ rows_of t → Good (shown bs t a c)
  good bs (nulls n) a c g l = tt
  good bs (bools n) a c g l = fit bs n a c (λ r. bit_at (drop n.slots bs) (n.from + a + r))
  good bs (fixed n) a c g l =
      (fit bs n a c (λ r. slot_at bs n.size n (a + r)), each_rows n.size c (λ r. slot_at bs n.size n (a + r)) (items_fit bs n.size n a c l g.1))
  good bs (bytes w n) a c g l = (
    fit bs n a c (λ r. string_at bs w n (a + r)),
    rw (strings_fit bs w n g.3 g.2 a c l) (omega (arith, in_all bs w n n.extent g.3 a c l, small bs w n (a + c))),
  )
  good bs (lists w n t) a c g l = (
    fit bs n a c (λ r. count_at bs w n (a + r)),
    omega (arith, in_all bs w n (rows_of t) g.0.2 a c l, small bs w n (a + c)),
    good bs t (passed_first bs w n a c) (passed_count bs w n a c) g.1 (passed bs w n (rows_of t) g.0.2 a c l),
  )
  good bs (struct n f) a c g l = (marks_fit bs n a c, goods bs f n.rows a c g.1 g.0.1 l)
  good bs (dictionary n t) a c g l = (
    fit bs n a c (λ r. key_at bs n (a + r)),
    each_rows n.size c (λ r. key_at bs n (a + r)) (items_fit bs n.size n a c l g.0.1),
    good bs t 0 (rows_of t) g.1 (omega arith),
  )

  pub goods : (bs : List ℕ) (f : Forest) (n a c : ℕ) → OpenedAll bs f → RowsAll f n → a + c ≤ n → GoodAll (shown_all bs f a c)
  goods bs none n a c g h l = tt
  goods bs (more t f) n a c g h l = (good bs t a c g.0 (omega (arith, h.0)), goods bs f n a c g.1 h.1 l)

-- ---- its values are the recording's, row by row

null_rows : (c : ℕ) → replicate c null ≡ rows c (λ r. null)
null_rows zero = refl
null_rows (suc c) = ap {B = List Value} (λ vs. null ∷ vs) (null_rows c)

-- the items of row a + r, in the values of the window passed
inner : (bs : List ℕ) (w : ℕ) (n : Node) (t : Tree) (h : Rising bs w n (rows_of t)) (a c : ℕ) (l : a + c ≤ n.rows) (vs : List Value)
    → vs ≡ rows (passed_count bs w n a c) (λ i. value_at bs t (passed_first bs w n a c + i))
    → (r : ℕ) → r < c
    → cut (total (take r (rows c (λ i. count_at bs w n (a + i))))) (get_or (rows c (λ i. count_at bs w n (a + i))) r 0) vs
    ≡ rows (count_at bs w n (a + r)) (λ i. value_at bs t (offset_at bs w n (a + r) + i))
inner bs w n t h a zero l vs e r m = absurd (not-suc-le-zero m)
inner bs w n t h a (suc d) l vs e r m =
    let c : ℕ = suc d in
    let k : ℕ = total (take r (rows (suc d) (λ i. count_at bs w n (a + i)))) in
    let p : offset_at bs w n a + k ≡ offset_at bs w n (a + r) = before bs w n (rows_of t) h a (suc d) l r (omega arith) in
    let q : a + (r + 1) ≡ a + r + 1 = omega arith in
    let u : offset_at bs w n (a + r + 1) ≤ offset_at bs w n (a + suc d) =
    subst (λ (x : ℕ). offset_at bs w n x ≤ offset_at bs w n (a + suc d)) q (up_to bs w n (rows_of t) h a (suc d) l (r + 1) (omega arith)) in
    let v : offset_at bs w n (a + r) ≤ offset_at bs w n (a + r + 1) = h.rises (a + r) (omega arith) in
    ap₂ (λ (x : ℕ) (ys : List Value). cut k x ys) (get_or_rows (suc d) (λ i. count_at bs w n (a + i)) r 0 m) e
    ∙ cut-rows k (count_at bs w n (a + r)) (offset_at bs w n (a + suc d) - offset_at bs w n a) (λ i. value_at bs t (offset_at bs w n a + i)) (omega arith)
    ∙ rows_same (count_at bs w n (a + r)) (λ i. value_at bs t (offset_at bs w n a + (k + i))) (λ i. value_at bs t (offset_at bs w n (a + r) + i))
    (λ i j. let z : offset_at bs w n a + (k + i) ≡ offset_at bs w n (a + r) + i = omega arith in ap (value_at bs t) z)

-- the value that the key of a valid row names
named_is : (bs : List ℕ) (t : Tree) (k : List ℕ) (vs : List Value) → vs ≡ rows (rows_of t) (λ r. value_at bs t (0 + r)) → natural k ≡ true → unle k < rows_of t → named vs k ≡ value_at bs t (unle k)
named_is bs t k vs e p l =
    let z : 0 + unle k ≡ unle k = omega arith in
    ap₂ (λ (b : Bool) (xs : List Value). cond b (get_or xs (unle k) null) null) p e
    ∙ get_or_rows (rows_of t) (λ r. value_at bs t (0 + r)) (unle k) null l ∙ ap (value_at bs t) z

mutual
  unfolding values shown value_at

  pub says_of : (bs : List ℕ) (t : Tree) (a c : ℕ) → Opened bs t → a + c ≤ rows_of t → values (shown bs t a c) ≡ rows c (λ r. value_at bs t (a + r))
  says_of bs (nulls n) a c g l = null_rows c
  says_of bs (bools n) a c g l =
      column_at bs n a c (length (rows c (λ r. bit_at (drop n.slots bs) (n.from + a + r)))) (λ r. Value.bit (get_or (rows c (λ i. bit_at (drop n.slots bs) (n.from + a + i))) r false)) (λ r. Value.bit (flag_at bs n (a + r)))
      (length-rows c (λ r. bit_at (drop n.slots bs) (n.from + a + r)))
      (λ r m v. ap Value.bit (get_or_rows c (λ i. bit_at (drop n.slots bs) (n.from + a + i)) r false m ∙ ap (bit_at (drop n.slots bs)) (add_assoc n.from a r)))
  says_of bs (fixed n) a c g l =
      column_at bs n a c (length (rows c (λ r. slot_at bs n.size n (a + r)))) (λ r. Value.bytes (get_or (rows c (λ i. slot_at bs n.size n (a + i))) r [])) (λ r. Value.bytes (slot_at bs n.size n (a + r)))
      (length-rows c (λ r. slot_at bs n.size n (a + r))) (λ r m v. ap Value.bytes (get_or_rows c (λ i. slot_at bs n.size n (a + i)) r [] m))
  says_of bs (bytes w n) a c g l =
      column_at bs n a c (length (rows c (λ r. string_at bs w n (a + r)))) (λ r. Value.bytes (get_or (rows c (λ i. string_at bs w n (a + i))) r [])) (λ r. Value.bytes (string_at bs w n (a + r)))
      (length-rows c (λ r. string_at bs w n (a + r))) (λ r m v. ap Value.bytes (get_or_rows c (λ i. string_at bs w n (a + i)) r [] m))
  says_of bs (lists w n t) a c g l =
      let cs : List ℕ = rows c (λ r. count_at bs w n (a + r)) in
      let s : Shown = shown bs t (passed_first bs w n a c) (passed_count bs w n a c) in
      column_at bs n a c (length cs) (λ r. Value.list (held (cut (total (take r cs)) (get_or cs r 0) (values s))))
      (λ r. Value.list (held (rows (count_at bs w n (a + r)) (λ i. value_at bs t (offset_at bs w n (a + r) + i)))))
      (length-rows c (λ r. count_at bs w n (a + r)))
      (λ r m v. ap (λ (vs : List Value). Value.list (held vs))
      (inner bs w n t g.0.2 a c l (values s)
      (says_of bs t (passed_first bs w n a c) (passed_count bs w n a c) g.1 (passed bs w n (rows_of t) g.0.2 a c l)) r m))
  says_of bs (struct n f) a c g l =
      column_at bs n a c c (λ r. Value.struct (held (across r (values_all (shown_all bs f a c))))) (λ r. Value.struct (held (values_at bs f (a + r)))) refl
      (λ r m v. ap (λ (vs : List Value). Value.struct (held vs)) (say bs f n.rows a c r g.1 g.0.1 l m))
  says_of bs (dictionary n t) a c g l =
      let s : Shown = shown bs t 0 (rows_of t) in
      column_at bs n a c (length (rows c (λ r. key_at bs n (a + r)))) (λ r. named (values s) (get_or (rows c (λ i. key_at bs n (a + i))) r [])) (λ r. value_at bs t (unle (key_at bs n (a + r))))
      (length-rows c (λ r. key_at bs n (a + r)))
      (λ r m v. ap (named (values s)) (get_or_rows c (λ i. key_at bs n (a + i)) r [] m)
      ∙ named_is bs t (key_at bs n (a + r)) (values s) (says_of bs t 0 (rows_of t) g.1 (omega arith))
      (g.0.2.naturals (a + r) (omega arith) v) (g.0.2.within (a + r) (omega arith) v))

  say : (bs : List ℕ) (f : Forest) (n a c r : ℕ) → OpenedAll bs f → RowsAll f n → a + c ≤ n → r < c → across r (values_all (shown_all bs f a c)) ≡ values_at bs f (a + r)
  say bs none n a c r g h l m = refl
  say bs (more t f) n a c r g h l m =
      ap₂ {C = List Value} (λ v vs. v ∷ vs)
      (ap (λ (vs : List Value). get_or vs r null) (says_of bs t a c g.0 (omega (arith, h.0))) ∙ get_or_rows c (λ i. value_at bs t (a + i)) r null m)
      (say bs f n a c r g.1 h.1 l m)

-- ---- the dictionaries met have their children's values

mutual
  unfolding met_in

  pub ids_are : (bs : List ℕ) (t : Tree) → Opened bs t → map values (map (λ (d : Tree). shown bs d 0 (rows_of d)) (met_in t)) ≡ map (λ (d : Tree). rows (rows_of d) (value_at bs d)) (met_in t)
  ids_are bs (nulls n) g = refl
  ids_are bs (bools n) g = refl
  ids_are bs (fixed n) g = refl
  ids_are bs (bytes w n) g = refl
  ids_are bs (lists w n t) g = ids_are bs t g.1
  ids_are bs (struct n f) g = ids_all bs f g.1
  ids_are bs (dictionary n t) g =
      ap {B = List (List Value)} (λ vs. vs ∷ [])
      (says_of bs t 0 (rows_of t) g.1 (omega arith)
      ∙ rows_same (rows_of t) (λ r. value_at bs t (0 + r)) (value_at bs t) (λ r l. let e : 0 + r ≡ r = omega arith in ap (value_at bs t) e))

  ids_all : (bs : List ℕ) (f : Forest) → OpenedAll bs f → map values (map (λ (d : Tree). shown bs d 0 (rows_of d)) (met_in_all f)) ≡ map (λ (d : Tree). rows (rows_of d) (value_at bs d)) (met_in_all f)
  ids_all bs none g = refl
  ids_all bs (more t f) g =
      ap (map values) (map-append (whole bs) (met_in t) (met_in_all f)) ∙ map-append values (map (whole bs) (met_in t)) (map (whole bs) (met_in_all f))
      ∙ ap₂ {C = List (List Value)} (λ x y. x ++ y) (ids_are bs t g.0) (ids_all bs f g.1)
      ∙ sym (map-append (λ (d : Tree). rows (rows_of d) (value_at bs d)) (met_in t) (met_in_all f))
