-- The laws of windows.
use Rattle.std.proofs.Common.{◌≡◌, ℕ, ◌+◌, ◌-◌, ◌<◌, ◌≤◌, List, [], ◌∷◌, ◌++◌, map, get_or, take, set, sym, refl, ap, ◌∙◌, subst, ap₂, add_assoc, arith}
use Rattle.layout.specs.Lists.{rows}
use Rattle.layout.specs.Trees.{Tree, rows_of}
use Rattle.layout.specs.Shown.{Shown, Showns, Value, null, Shapes, count, values, values_all, met, met_all, shape, shapes, Same, Front}
use Rattle.layout.specs.Messages.{MessageKind, fields_all, buffers_all, records_of, body_of, message_of, field_entries, buffer_entries, work_bytes}
use Rattle.layout.specs.Reading.{GotAll, read, decode_all, parts}
use Rattle.layout.specs.Windows.{value_at, Window, Inside, tree_in, value_in, values_in, shown_in, shape_in, first_rows, later_rows, Equal, EachInside, shown_side, shapes_side, whole_values, dictionary_values}
use Rattle.layout.proofs.Lists.{rows_same, get_or_rows}
use Rattle.laws.specs.RoundTrip.{RoundTrip, ShowsValues, Plain, Heard}
use Rattle.laws.specs.NothingElse.{NothingElseCounts}
use Rattle.laws.specs.Equality.{Equality, ToldByShown}
use Rattle.laws.proofs.Opened.{Opened}
use Rattle.laws.proofs.Good.{GoodAll}
use Rattle.laws.proofs.Kept.{tree_rows, opened_at}
use Rattle.laws.proofs.Lists.{rows_add, take-rows, map-append}
use Rattle.laws.proofs.Round.{read_back}
use Rattle.laws.proofs.Says.{counts, shape_is, meets, good, says_of, ids_are}

-- ---- a window inside

pub opened_in : (w : Window) → Inside w → Opened w.bytes (tree_in w)
opened_in w g = opened_at w.nodes w.bytes g.opened w.node g.stands

pub within_tree : (w : Window) → Inside w → w.first + w.rows ≤ rows_of (tree_in w)
within_tree w g = let e = tree_rows w.nodes w.node in omega (arith, g.within)

pub shows_values : ShowsValues
shows_values w g = says_of w.bytes (tree_in w) w.first w.rows (opened_in w g) (within_tree w g)

pub first_inside : (k : ℕ) (w : Window) → k ≤ w.rows → Inside w → Inside (first_rows k w)
first_inside k w l g = record { opened = g.opened; stands = g.stands; within = omega (arith, g.within) }

pub later_inside : (k : ℕ) (w : Window) → k ≤ w.rows → Inside w → Inside (later_rows k w)
later_inside k w l g = record { opened = g.opened; stands = g.stands; within = omega (arith, g.within) }

-- ---- columns side by side

good_side : (ws : List Window) → EachInside ws → GoodAll (shown_side ws)
good_side [] g = tt
good_side (w ∷ ws) g = (good w.bytes (tree_in w) w.first w.rows (opened_in w g.0) (within_tree w g.0), good_side ws g.1)

shapes_side_lem : (ws : List Window) → shapes (shown_side ws) ≡ shapes_side ws
unfolding shape
shapes_side_lem [] = refl
shapes_side_lem (w ∷ ws) = ap₂ Shapes.more (shape_is w.bytes (tree_in w) w.first w.rows) (shapes_side_lem ws)

values_side : (ws : List Window) → EachInside ws → values_all (shown_side ws) ≡ map values_in ws
unfolding values
values_side [] g = refl
values_side (w ∷ ws) g = ap₂ {C = List (List Value)} (λ x y. x ∷ y) (shows_values w g.0) (values_side ws g.1)

met_side : (ws : List Window) → EachInside ws → map values (met_all (shown_side ws)) ≡ dictionary_values ws
unfolding met
met_side [] g = refl
met_side (w ∷ ws) g =
    map-append values (met (shown_in w)) (met_all (shown_side ws))
    ∙ ap₂ {C = List (List Value)} (λ x y. x ++ y)
    (ap (map values) (meets w.bytes (tree_in w) w.first w.rows) ∙ ids_are w.bytes (tree_in w) (opened_in w g.0))
    (met_side ws g.1)

pub round_trip : RoundTrip
round_trip al kind id n ws rest g =
    let ss = shown_side ws in
    ap₂ (λ (k : Shapes) (ids : List (List Value)). decode_all k (ids ++ rest) (fields_all ss) (parts (body_of al ss) (records_of al ss)))
    (sym (shapes_side_lem ws)) (sym (met_side ws g))
    ∙ read_back al ss rest (good_side ws g)
    ∙ ap (λ (x : List (List Value)). record { columns = x; ids = rest; fields = []; buffers = [] }) (values_side ws g)

-- ---- dictionaries heard

-- a message of one window that meets no dictionary
one_read : (al : ℕ) (kind : MessageKind) (id n : ℕ) (w : Window) → Inside w → Plain w
    → get_or (read (Shapes.more (shape_in w) Shapes.none) [] (message_of kind id n al (shown_side (w ∷ []))) (body_of al (shown_side (w ∷ [])))).columns 0 [] ≡ values_in w
one_read al kind id n w g plain =
    let none : dictionary_values (w ∷ []) ++ [] ≡ [] = ap (λ (ts : List Tree). (map (whole_values w.bytes) ts ++ []) ++ []) plain in
    ap (λ (ids : List (List Value)). get_or (read (shapes_side (w ∷ [])) ids (message_of kind id n al (shown_side (w ∷ []))) (body_of al (shown_side (w ∷ [])))).columns 0 []) (sym none)
    ∙ ap (λ (x : GotAll). get_or x.columns 0 []) (round_trip al kind id n (w ∷ []) [] (g, tt))

later_values : (k : ℕ) (w : Window) → k ≤ w.rows → values_in (first_rows k w) ++ values_in (later_rows k w) ≡ values_in w
later_values k w l =
    let e : k + (w.rows - k) ≡ w.rows = omega arith in
    ap (λ (vs : List Value). values_in (first_rows k w) ++ vs)
    (rows_same (w.rows - k) (value_in (later_rows k w)) (λ r. value_in w (k + r)) (λ r m. ap (value_at w.bytes (tree_in w)) (add_assoc w.first k r)))
    ∙ rows_add k (w.rows - k) (value_in w)
    ∙ ap (λ (n : ℕ). rows n (value_in w)) e

pub heard_so : Heard
heard_so = record {
  whole = λ al id w ids g plain. ap (set ids id) (one_read al MessageKind.a_dictionary id w.rows w g plain);
  delta = λ al id k w ids g plain l e.
      ap (λ (vs : List Value). set ids id (get_or ids id [] ++ vs)) (one_read al MessageKind.a_delta id (w.rows - k) (later_rows k w) (later_inside k w l g) plain)
      ∙ ap (λ (vs : List Value). set ids id (vs ++ values_in (later_rows k w))) e
      ∙ ap (set ids id) (later_values k w l);
}

-- ---- equality

rows_at : {X : Type 0} (n : ℕ) (f g : ℕ → X) (d : X) → rows n f ≡ rows n g → (r : ℕ) → r < n → f r ≡ g r
rows_at {X} n f g d e r l = sym (get_or_rows n f r d l) ∙ ap (λ (xs : List X). get_or xs r d) e ∙ get_or_rows n g r d l

equal_values : (w v : Window) → Equal w v → values_in w ≡ values_in v
equal_values w v p = rows_same w.rows (value_in w) (value_in v) p.values ∙ ap (λ (n : ℕ). rows n (value_in v)) p.rows

pub equality : Equality
equality = record {
  same = λ w. record { shapes = refl; rows = refl; values = λ r l. refl };
  back = λ w v p. record { shapes = sym p.shapes; rows = sym p.rows; values = λ r l. sym (p.values r (omega (arith, p.rows))) };
  along = λ w v u p q.
      record { shapes = p.shapes ∙ q.shapes; rows = p.rows ∙ q.rows; values = λ r l. p.values r l ∙ q.values r (omega (arith, p.rows)) };
  first = λ k w v l p. equal_values w (first_rows k v) p ∙ sym (take-rows k v.rows (value_in v) l);
}

module _ (w v : Window) (g : Inside w) (h : Inside v) where
  shape_w : shape (shown_in w) ≡ shape_in w
  shape_w = shape_is w.bytes (tree_in w) w.first w.rows

  shape_v : shape (shown_in v) ≡ shape_in v
  shape_v = shape_is v.bytes (tree_in v) v.first v.rows

  count_w : count (shown_in w) ≡ w.rows
  count_w = counts w.bytes (tree_in w) w.first w.rows

  count_v : count (shown_in v) ≡ v.rows
  count_v = counts v.bytes (tree_in v) v.first v.rows

  same_from : Equal w v → Same (shown_in w) (shown_in v)
  same_from p = record {
    shapes = shape_w ∙ p.shapes ∙ sym shape_v;
    counts = count_w ∙ p.rows ∙ sym count_v;
    values = shows_values w g ∙ equal_values w v p ∙ sym (shows_values v h);
  }

  same_to : Same (shown_in w) (shown_in v) → Equal w v
  same_to p =
      let e : w.rows ≡ v.rows = sym count_w ∙ p.counts ∙ count_v in
      let s : rows w.rows (value_in w) ≡ rows w.rows (value_in v) =
      sym (shows_values w g) ∙ p.values ∙ shows_values v h ∙ ap (λ (n : ℕ). rows n (value_in v)) (sym e) in
      record { shapes = sym shape_w ∙ p.shapes ∙ shape_v; rows = e; values = rows_at w.rows (value_in w) (value_in v) null s }

  front_values : w.rows ≤ v.rows → take (count (shown_in w)) (values (shown_in v)) ≡ rows w.rows (value_in v)
  front_values l = ap₂ (λ (n : ℕ) (vs : List Value). take n vs) count_w (shows_values v h) ∙ take-rows w.rows v.rows (value_in v) l

  front_from : (w.rows < v.rows) × Equal w (first_rows w.rows v) → Front (shown_in w) (shown_in v)
  front_from p = record {
    shapes = shape_w ∙ p.1.shapes ∙ sym shape_v;
    longer = omega (arith, p.0, count_w, count_v);
    values = shows_values w g ∙ equal_values w (first_rows w.rows v) p.1 ∙ sym (front_values (omega (arith, p.0)));
  }

  front_to : Front (shown_in w) (shown_in v) → (w.rows < v.rows) × Equal w (first_rows w.rows v)
  front_to p =
      let l : w.rows < v.rows = omega (arith, p.longer, count_w, count_v) in
      let s : rows w.rows (value_in w) ≡ rows w.rows (value_in v) = sym (shows_values w g) ∙ p.values ∙ front_values (omega arith) in
      (l, record { shapes = sym shape_w ∙ p.shapes ∙ shape_v; rows = refl; values = rows_at w.rows (value_in w) (value_in v) null s })

pub told : ToldByShown
told = record {
  equal = λ w v g h. (same_from w v g h, same_to w v g h);
  longer = λ w v g h. (front_from w v g h, front_to w v g h);
}

-- ---- nothing else counts

pub nothing_else : NothingElseCounts
nothing_else = record {
  sent = λ ws vs g h e. record {
    fields = ap fields_all e;
    buffers = ap buffers_all e;
    records = λ al. ap (records_of al) e;
    body = λ al. ap (body_of al) e;
    message = λ kind id n al. ap (message_of kind id n al) e;
    field_need = ap field_entries e;
    buffer_need = ap buffer_entries e;
    work_need = ap work_bytes e;
    shapes = sym (shapes_side_lem ws) ∙ ap shapes e ∙ shapes_side_lem vs;
    values = sym (values_side ws g) ∙ ap values_all e ∙ values_side vs h;
    dictionaries = sym (met_side ws g) ∙ ap (λ (ss : Showns). map values (met_all ss)) e ∙ met_side vs h;
  };
  equal = λ w v u g h k e p. same_to v u h k (subst (λ (s : Shown). Same s (shown_in u)) e (same_from w u g k p));
}
