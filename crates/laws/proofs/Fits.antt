-- How large the numbers of a message are.
use Rattle.std.proofs.Common.{◌≡◌, ℕ, zero, suc, ◌+◌, ◌-◌, ◌*◌, ◌^◌, ◌<◌, ◌≤◌, Bool, true, false, List, [], ◌∷◌, ◌++◌, length, drop, Some, None, Option, sym, refl, ap, ◌∙◌, subst, ap₂, inl, inr, suc-mul, arith, length-append}
use lib.ListN.{length-replicate}
use Rattle.std.proofs.lemmas.Nat.{mul-le}
use Rattle.std.proofs.lemmas.Bool.{cases_lt}
use Rattle.layout.specs.declared.kind.Kind.{Kind}
use Rattle.layout.specs.declared.kind.Kind.TheVariants.{Null, Boolean, Fixed, Bytes32, Bytes64, List32, List64, Struct, Dictionary}
use Rattle.layout.specs.declared.node.Node.{Node}
use Rattle.layout.specs.Lists.{rows, total, lengths}
use Rattle.layout.specs.Bits.{bit_at, zeros}
use Rattle.layout.specs.Nodes.{node_at, end_of, bitmap_of}
use Rattle.layout.specs.Rows.{slot_at, count_at, string_at, key_at}
use Rattle.layout.specs.declared.fault.Refusal.TheVariants.{KindOrSize, Nesting}
use Rattle.layout.specs.Opening.{Kept}
use Rattle.layout.specs.Rules.{Is, SideBySide, Filled, ChildrenFit}
use Rattle.layout.specs.Trees.{Tree, Forest, rows_of, child_of, tree_as, trees_in, tree_at}
use Rattle.layout.specs.Shown.{Shown, Showns, nulls, bools, fixed, bytes, lists, struct, dictionary, none, more}
use Rattle.layout.specs.Messages.{FieldRecord, null_count, fields, fields_all, buffers, buffers_all, made, made_all, padded, records, body, body_of}
use Rattle.layout.specs.Windows.{marks_in, marks_at, passed_first, passed_count, shown, shown_all, Window, EachInside, columns_of, tree_in, shown_in, shown_side}
use Rattle.layout.proofs.Lists.{length-rows}
use Rattle.layout.proofs.Opening.{kept_rule}
use Rattle.layout.proofs.Kids.{filled_first}
use Rattle.laws.specs.Sizes.{FieldsFit, BuffersFit, NumbersFit, Sizes}
use Rattle.laws.proofs.Opened.{RowsAll, Opened, OpenedAll}
use Rattle.laws.proofs.Good.{AtMost}
use Rattle.laws.proofs.Ends.{end_to_end_lem, paddings}
use Rattle.laws.proofs.Kept.{one_is}
use Rattle.laws.proofs.Table.{at_none, at_more, tree_as_lem}
use Rattle.laws.proofs.Says.{passed}
use Rattle.laws.proofs.Sizes.{entries_all, bounded_is, at_most_add}
use Rattle.laws.proofs.Windows.{opened_in, within_tree}

-- ---- a field for each node at most

mutual
  tree_size : Tree → ℕ
  tree_size (Tree.nulls n) = 1
  tree_size (Tree.bools n) = 1
  tree_size (Tree.fixed n) = 1
  tree_size (Tree.bytes w n) = 1
  tree_size (Tree.lists w n t) = suc (tree_size t)
  tree_size (Tree.struct n f) = suc (forest_size f)
  tree_size (Tree.dictionary n t) = 1

  forest_size : Forest → ℕ
  forest_size Forest.none = 0
  forest_size (Forest.more t f) = tree_size t + forest_size f

mutual
  unfolding tree_size fields shown

  field_count : (bs : List ℕ) (t : Tree) (a c : ℕ) → length (fields (shown bs t a c)) ≡ tree_size t
  field_count bs (Tree.nulls n) a c = refl
  field_count bs (Tree.bools n) a c = refl
  field_count bs (Tree.fixed n) a c = refl
  field_count bs (Tree.bytes w n) a c = refl
  field_count bs (Tree.lists w n t) a c = ap suc (field_count bs t (passed_first bs w n a c) (passed_count bs w n a c))
  field_count bs (Tree.struct n f) a c = ap suc (fields_count bs f a c)
  field_count bs (Tree.dictionary n t) a c = refl

  fields_count : (bs : List ℕ) (f : Forest) (a c : ℕ) → length (fields_all (shown_all bs f a c)) ≡ forest_size f
  fields_count bs Forest.none a c = refl
  fields_count bs (Forest.more t f) a c =
      length-append (fields (shown bs t a c)) (fields_all (shown_all bs f a c)) ∙ ap₂ (λ (x y : ℕ). x + y) (field_count bs t a c) (fields_count bs f a c)

module _ (ns : List Node) (bs : List ℕ) (kept : Kept ns bs) where
  one_size : (i : ℕ) (k : Kind) → i < length ns → Is (node_at ns i) k → ((c : ℕ) → ChildrenFit k c → c ≡ 1)
      → tree_size (child_of (node_at ns i) (trees_in ns (i + 1) (end_of ns i))) ≤ forest_size (trees_in ns (i + 1) (end_of ns i))
  unfolding tree_size
  one_size i k l is one = subst (λ (f : Forest). tree_size (child_of (node_at ns i) f) ≤ forest_size f) (sym (one_is ns bs kept i k l is one)) (omega arith)

  size_as : (i : ℕ) (k : Kind) → i < length ns → Is (node_at ns i) k → tree_size (tree_as (Some k) (node_at ns i) (trees_in ns (i + 1) (end_of ns i))) ≤ suc (forest_size (trees_in ns (i + 1) (end_of ns i)))
  unfolding tree_size
  size_as i Null l is = omega arith
  size_as i Boolean l is = omega arith
  size_as i Fixed l is = omega arith
  size_as i Bytes32 l is = omega arith
  size_as i Bytes64 l is = omega arith
  size_as i List32 l is = omega (arith, one_size i List32 l is (λ c h. h))
  size_as i List64 l is = omega (arith, one_size i List64 l is (λ c h. h))
  size_as i Struct l is = omega arith
  size_as i Dictionary l is = omega arith

  size_by : (i : ℕ) → i < length ns → tree_size (tree_at ns i) ≤ suc (forest_size (trees_in ns (i + 1) (end_of ns i)))
  size_by i l =
      let t = kept_rule ns bs kept i l KindOrSize in
      let n = node_at ns i in
      let f = trees_in ns (i + 1) (end_of ns i) in
      subst (λ (x : Tree). tree_size x ≤ suc (forest_size f)) (sym (tree_as_lem n f t.kind t.is)) (size_as i t.kind l t.is)

  sizes_in : (k p e : ℕ) → e - p ≤ k → e ≤ length ns → Filled ns p e → forest_size (trees_in ns p e) ≤ e - p
  unfolding tree_size
  sizes_in zero p e d l g = subst (λ (f : Forest). forest_size f ≤ e - p) (sym (at_none ns p e (omega arith))) (omega arith)
  sizes_in (suc k) p e d l g =
      elim (cases_lt p e) [
        | inl m ↦
            (let s = filled_first ns p e g m in
            let some : 1 ≤ (node_at ns p).span = s.some in
            let high : end_of ns p ≤ e = s.high in
            let here : p < length ns = omega arith in
            let nest = kept_rule ns bs kept p here Nesting in
            let below = sizes_in k (p + 1) (end_of ns p) (omega arith) nest.within (nest.children, nest.fill) in
            let rest = sizes_in k (end_of ns p) e (omega arith) l s.rest in
            subst (λ (f : Forest). forest_size f ≤ e - p) (sym (at_more ns p e m l some high)) (omega (arith, size_by p here)))
        | inr m ↦ subst (λ (f : Forest). forest_size f ≤ e - p) (sym (at_none ns p e m)) (omega arith)
      ]

  tree_size_lem : (i : ℕ) → i < length ns → tree_size (tree_at ns i) ≤ (node_at ns i).span
  tree_size_lem i l =
      let nest = kept_rule ns bs kept i l Nesting in
      let below = sizes_in (end_of ns i - (i + 1)) (i + 1) (end_of ns i) (omega arith) nest.within (nest.children, nest.fill) in
      omega (arith, size_by i l, nest.some)

-- columns side by side have no more fields than there are nodes
columns_count : (ns : List Node) (bs : List ℕ) (cs : List ℕ) (p e a n : ℕ) → SideBySide ns p cs e → EachInside (columns_of ns bs cs a n) → p + length (fields_all (shown_side (columns_of ns bs cs a n))) ≤ e
unfolding fields
columns_count ns bs [] p e a n s g = omega arith
columns_count ns bs (c ∷ cs) p e a n s g =
    let few = tree_size_lem ns bs g.0.opened c g.0.stands in
    let here = field_count bs (tree_at ns c) a n in
    let rest = columns_count ns bs cs (end_of ns p) e a n s.2 g.1 in
    let same : (node_at ns c).span ≡ (node_at ns p).span = ap (λ (k : ℕ). (node_at ns k).span) s.0 in
    simp length-append (omega arith)

-- ---- fields

zeros_few : (xs : List Bool) → zeros xs ≤ length xs
zeros_few [] = omega arith
zeros_few (true ∷ xs) = omega (arith, zeros_few xs)
zeros_few (false ∷ xs) = omega (arith, zeros_few xs)

nulls_few : (bs : List ℕ) (o : Option ℕ) (a c : ℕ) → null_count (marks_in bs o a c) ≤ c
nulls_few bs None a c = omega arith
nulls_few bs (Some p) a c = let f = λ (r : ℕ). bit_at (drop p bs) (a + r) in omega (arith, zeros_few (rows c f), length-rows c f)

fields_add : (xs ys : List FieldRecord) → FieldsFit xs → FieldsFit ys → FieldsFit (xs ++ ys)
fields_add [] ys g h = h
fields_add (x ∷ xs) ys g h = (g.0, g.1, fields_add xs ys g.2 h)

-- a node's own field
own_fits : (bs : List ℕ) (n : Node) (a c k : ℕ) → k ≡ c → n.from + n.rows ≤ 2147483647 → a + c ≤ n.rows → (k ≤ 2147483647) × (null_count (marks_at bs n a c) ≤ k)
own_fits bs n a c k e l m = (omega arith, omega (arith, nulls_few bs (bitmap_of n) (n.from + a) c))

mutual
  unfolding fields shown

  pub fields_fit : (bs : List ℕ) (t : Tree) (a c : ℕ) → Opened bs t → a + c ≤ rows_of t → FieldsFit (fields (shown bs t a c))
  fields_fit bs (Tree.nulls n) a c g l = (omega arith, omega arith, tt)
  fields_fit bs (Tree.bools n) a c g l = (let o = own_fits bs n a c _ (length-rows c (λ r. bit_at (drop n.slots bs) (n.from + a + r))) g.0.limit l in (o.0, o.1, tt))
  fields_fit bs (Tree.fixed n) a c g l = (let o = own_fits bs n a c _ (length-rows c (λ r. slot_at bs n.size n (a + r))) g.0.limit l in (o.0, o.1, tt))
  fields_fit bs (Tree.bytes w n) a c g l = (let o = own_fits bs n a c _ (length-rows c (λ r. string_at bs w n (a + r))) g.0.limit l in (o.0, o.1, tt))
  fields_fit bs (Tree.lists w n t) a c g l =
      (let o = own_fits bs n a c _ (length-rows c (λ r. count_at bs w n (a + r))) g.0.0.limit l in
      (o.0, o.1, fields_fit bs t (passed_first bs w n a c) (passed_count bs w n a c) g.1 (passed bs w n (rows_of t) g.0.2 a c l)))
  fields_fit bs (Tree.struct n f) a c g l = (let o = own_fits bs n a c c refl g.0.0.limit l in (o.0, o.1, fields_fit_all bs f n.rows a c g.1 g.0.1 l))
  fields_fit bs (Tree.dictionary n t) a c g l = (let o = own_fits bs n a c _ (length-rows c (λ r. key_at bs n (a + r))) g.0.0.limit l in (o.0, o.1, tt))

  fields_fit_all : (bs : List ℕ) (f : Forest) (n a c : ℕ) → OpenedAll bs f → RowsAll f n → a + c ≤ n → FieldsFit (fields_all (shown_all bs f a c))
  fields_fit_all bs Forest.none n a c g h l = tt
  fields_fit_all bs (Forest.more t f) n a c g h l =
      fields_add (fields (shown bs t a c)) (fields_all (shown_all bs f a c)) (fields_fit bs t a c g.0 (omega (arith, h.0))) (fields_fit_all bs f n a c g.1 h.1 l)

pub side_fields : (ws : List Window) → EachInside ws → FieldsFit (fields_all (shown_side ws))
unfolding fields
side_fields [] g = tt
side_fields (w ∷ ws) g =
    fields_add (fields (shown_in w)) (fields_all (shown_side ws)) (fields_fit w.bytes (tree_in w) w.first w.rows (opened_in w g.0) (within_tree w g.0)) (side_fields ws g.1)

-- ---- buffers

side_bounded : (ns : List Node) (bs : List ℕ) (cs : List ℕ) (a n : ℕ) → EachInside (columns_of ns bs cs a n) → AtMost (length bs) (buffers_all (shown_side (columns_of ns bs cs a n)))
unfolding buffers
side_bounded ns bs [] a n g = tt
side_bounded ns bs (c ∷ cs) a n g =
    let w : Window = record { nodes = ns; bytes = bs; node = c; first = a; rows = n } in
    at_most_add (length bs) (buffers (shown_in w)) (buffers_all (shown_side (columns_of ns bs cs a n)))
    (bounded_is bs (tree_at ns c) a n (opened_in w g.0) (within_tree w g.0)) (side_bounded ns bs cs a n g.1)

-- so many buffers of at most m bytes each, with their padding
body_short : (al m : ℕ) (xs : List (List ℕ)) → 0 < al → al ≤ 64 → AtMost m xs → length (body al xs) ≤ length xs * (m + 64)
body_short al m [] p q g = omega arith
body_short al m (x ∷ xs) p q g =
    let d = paddings al (length x) p in
    simp (length-append, length-replicate) (omega (arith, suc-mul (length xs) (m + 64), d.least, g.0, body_short al m xs p q g.1))

-- no record reaches past the body
records_fit : (al at : ℕ) (xs : List (List ℕ)) → at + length (body al xs) < 2 ^ 63 → BuffersFit (records al at xs)
records_fit al at [] l = tt
records_fit al at (x ∷ xs) l =
    let e : length (body al (x ∷ xs)) ≡ padded al (length x) + length (body al xs) = simp (length-append, length-replicate) refl in
    (omega arith, records_fit al (at + padded al (length x)) xs (omega arith))

-- what is made is among what is sent
total_add : (xs ys : List (List ℕ)) → total (lengths (xs ++ ys)) ≡ total (lengths xs) + total (lengths ys)
total_add [] ys = omega arith
total_add (x ∷ xs) ys = omega (arith, total_add xs ys)

mutual
  unfolding made buffers

  made_less : (s : Shown) → total (lengths (made s)) ≤ total (lengths (buffers s))
  made_less (nulls l n) = omega arith
  made_less (bools l m b) = omega arith
  made_less (fixed l w m vs) = omega arith
  made_less (bytes l w m vs) = omega arith
  made_less (lists l w m cs s) = omega (arith, made_less s)
  made_less (struct l m n ss) = omega (arith, made_less_all ss)
  made_less (dictionary l w m ks s) = omega arith

  made_less_all : (ss : Showns) → total (lengths (made_all ss)) ≤ total (lengths (buffers_all ss))
  made_less_all none = omega arith
  made_less_all (more s ss) = omega (arith, made_less s, made_less_all ss, total_add (made s) (made_all ss), total_add (buffers s) (buffers_all ss))

total_body : (al : ℕ) (xs : List (List ℕ)) → total (lengths xs) ≤ length (body al xs)
total_body al [] = omega arith
total_body al (x ∷ xs) = simp (length-append, length-replicate) (omega (arith, total_body al xs))

-- ---- all of them

-- a body of few buffers, each within the bytes
body_fits : (k m x : ℕ) → k ≤ 3 * 65535 → m ≤ 4294967295 → x ≤ k * (m + 64) → x < 2 ^ 63
body_fits k m x a b l = omega (arith, mul-le k (m + 64) (3 * 65535) (4294967295 + 64) a (omega arith))

pub sizes : Sizes
sizes = record { end_to_end = end_to_end_lem; padded = paddings; numbers = numbers }
  where
    fits : (al : ℕ) (ns : List Node) (bs : List ℕ) (p e : ℕ) (cs : List ℕ) (a n : ℕ) → 0 < al → al ≤ 64 → SideBySide ns p cs e → e ≤ length ns
        → EachInside (columns_of ns bs cs a n) → length bs ≤ 4294967295 → length ns ≤ 65535 → NumbersFit al (shown_side (columns_of ns bs cs a n))
    fits al ns bs p e cs a n lo hi s l g small few =
        let ss = shown_side (columns_of ns bs cs a n) in
        let count = columns_count ns bs cs p e a n s g in
        let entries = entries_all ss in
        let long = body_short al (length bs) (buffers_all ss) lo hi (side_bounded ns bs cs a n g) in
        let fit : length (body_of al ss) < 2 ^ 63 = body_fits (length (buffers_all ss)) (length bs) (length (body_of al ss)) (omega arith) small long in
        record {
          fields = side_fields (columns_of ns bs cs a n) g;
          buffers = records_fit al 0 (buffers_all ss) (omega arith);
          body = fit;
          work = omega (arith, made_less_all ss, total_body al (buffers_all ss));
          field_need = omega arith;
          buffer_need = omega arith;
        }

    numbers : (al : ℕ) (ns : List Node) (bs : List ℕ) (p e : ℕ) (cs : List ℕ) (a n : ℕ) → 0 < al → al ≤ 64 → SideBySide ns p cs e → e ≤ length ns
        → EachInside (columns_of ns bs cs a n) → NumbersFit al (shown_side (columns_of ns bs cs a n))
    numbers al ns bs p e [] a n lo hi s l g = fits al [] [] 0 0 [] a n lo hi refl (omega arith) tt (omega arith) (omega arith)
    numbers al ns bs p e (c ∷ cs) a n lo hi s l g = fits al ns bs p e (c ∷ cs) a n lo hi s l g g.0.opened.1 g.0.opened.0
