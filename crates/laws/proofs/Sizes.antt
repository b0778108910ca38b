-- How long the buffers are.
use Rattle.std.proofs.Common.{◌≡◌, ℕ, ◌+◌, ◌-◌, ◌*◌, ◌≤◌, Bool, true, false, cond, eqb, List, [], ◌∷◌, ◌++◌, length, drop, Some, None, Option, refl, ap, ◌∙◌, mul-le-mul_right, suc-mul, arith, length-append, length-drop, length-take}
use lib.ListN.{length-map}
use Rattle.layout.specs.Nodes.{bitmap_of}
use Rattle.layout.specs.declared.node.Node.{Node}
use Rattle.layout.specs.Trees.{Tree, Forest, rows_of}
use Rattle.layout.specs.Lists.{rows, cut, lengths}
use Rattle.layout.specs.Numbers.{le_all}
use Rattle.layout.specs.Bits.{bytes_for, zeros}
use Rattle.layout.specs.Rows.{offset_at, count_at, string_at}
use Rattle.layout.specs.Windows.{bits_at, marks_in, marks_at, passed_first, passed_count, shown, shown_all}
use Rattle.laws.proofs.Opened.{RowsAll, Opened, OpenedAll, Based}
use Rattle.laws.proofs.Good.{AtMost}
use Rattle.layout.specs.Shown.{Bits, Marks, Shown, Showns, nulls, bools, fixed, bytes, lists, struct, dictionary, none, more}
use Rattle.layout.specs.Messages.{bit_bytes, mark_bytes, offsets, offset_bytes, fields, fields_all, buffers, buffers_all}
use Rattle.layout.proofs.Lists.{length-rows}
use Rattle.layout.specs.Spelling.{length-le}
use Rattle.laws.proofs.Says.{passed}
use Rattle.laws.proofs.Places.{bits_made, slots_joined, strings_joined}
use Rattle.laws.proofs.Round.{length-offsets}

pub length-le_all : (w : ℕ) (ns : List ℕ) → length (le_all w ns) ≡ length ns * w
length-le_all w [] = omega arith
length-le_all w (n ∷ ns) = simp length-append (omega (arith, length-le w n, length-le_all w ns, suc-mul (length ns) w))

pub length-offset_bytes : (w : ℕ) (cs : List ℕ) → length (offset_bytes w cs) ≡ (length cs + 1) * w
length-offset_bytes w cs =
    let e : length (offsets 0 cs) ≡ length cs + 1 = length-offsets 0 cs ∙ omega arith in
    length-le_all w (offsets 0 cs) ∙ ap (λ (x : ℕ). x * w) e

marks_by : (t : Bool) (b : List ℕ) → length (cond t [] b) ≤ length b
marks_by true b = omega arith
marks_by false b = omega arith

mutual
  unfolding fields buffers

  entries_are : (s : Shown) → length (buffers s) ≤ 3 * length (fields s)
  entries_are (nulls l n) = omega arith
  entries_are (bools l m b) = omega arith
  entries_are (fixed l w m vs) = omega arith
  entries_are (bytes l w m vs) = omega arith
  entries_are (lists l w m cs s) = omega (arith, entries_are s)
  entries_are (struct l m n ss) = omega (arith, entries_all ss)
  entries_are (dictionary l w m ks s) = omega arith

  pub entries_all : (ss : Showns) → length (buffers_all ss) ≤ 3 * length (fields_all ss)
  entries_all none = omega arith
  entries_all (more s ss) = simp length-append (omega (arith, entries_are s, entries_all ss))

-- ---- no buffer is longer than the bytes

cut_short : {X : Type 0} (k n : ℕ) (xs : List X) → length (cut k n xs) ≤ length xs
cut_short k n xs = simp (length-take, length-drop) (omega arith)

pub at_most_add : (k : ℕ) (xs ys : List (List ℕ)) → AtMost k xs → AtMost k ys → AtMost k (xs ++ ys)
at_most_add k [] ys g h = h
at_most_add k (x ∷ xs) ys g h = (g.0, at_most_add k xs ys g.1 h)

mark_by : (bs : List ℕ) (n : Node) (a c : ℕ) (o : Option ℕ) → Based bs n → a + c ≤ n.rows → bitmap_of n ≡ o → length (mark_bytes (marks_in bs o (n.from + a) c)) ≤ length bs
mark_by bs n a c None p l e = omega arith
mark_by bs n a c (Some q) p l e =
    let b : Bits = bits_at (drop q bs) (n.from + a) c in
    let m : length (mark_bytes (Marks.some b)) ≤ length (bit_bytes b) = marks_by (eqb (zeros b.bits) 0) (bit_bytes b) in
    let z : length (bit_bytes b) ≡ bytes_for c = (bits_made (drop q bs) (n.from + a) c).size in
    let f : q + bytes_for (n.from + n.rows) ≤ length bs = p.bitmap q e in
    omega arith

mark_short : (bs : List ℕ) (n : Node) (a c : ℕ) → Based bs n → a + c ≤ n.rows → length (mark_bytes (marks_at bs n a c)) ≤ length bs
mark_short bs n a c p l = mark_by bs n a c (bitmap_of n) p l refl

offsets_short : (bs : List ℕ) (w : ℕ) (n : Node) (a c : ℕ) (cs : List ℕ) → length cs ≡ c → a + c ≤ n.rows → n.slots + (n.from + n.rows + 1) * w ≤ length bs → length (offset_bytes w cs) ≤ length bs
offsets_short bs w n a c cs e l f =
    let k : length (offset_bytes w cs) ≡ (length cs + 1) * w = length-offset_bytes w cs in
    let m : (length cs + 1) * w ≤ (n.from + n.rows + 1) * w = mul-le-mul_right w (omega arith) in
    omega arith

mutual
  unfolding buffers shown

  pub bounded_is : (bs : List ℕ) (t : Tree) (a c : ℕ) → Opened bs t → a + c ≤ rows_of t → AtMost (length bs) (buffers (shown bs t a c))
  bounded_is bs (Tree.nulls n) a c g l = tt
  bounded_is bs (Tree.bools n) a c g l =
      (mark_short bs n a c g.0 l, (omega (arith, (bits_made (drop n.slots bs) (n.from + a) c).size, g.1), tt))
  bounded_is bs (Tree.fixed n) a c g l =
      (mark_short bs n a c g.0 l, (rw (slots_joined bs n.size n a c) (cut_short (n.slots + (n.from + a) * n.size) (c * n.size) bs), tt))
  bounded_is bs (Tree.bytes w n) a c g l = (
    mark_short bs n a c g.0 l,
    (
      offsets_short bs w n a c (lengths (rows c (λ r. string_at bs w n (a + r)))) (length-map (rows c (λ r. string_at bs w n (a + r))) length ∙ length-rows c (λ r. string_at bs w n (a + r))) l g.1,
      (rw (strings_joined bs w n a c n.extent g.3 l) (cut_short (n.«data» + offset_at bs w n a) (offset_at bs w n (a + c) - offset_at bs w n a) bs), tt),
    ),
  )
  bounded_is bs (Tree.lists w n t) a c g l = (
    mark_short bs n a c g.0.0 l,
    (
      offsets_short bs w n a c (rows c (λ r. count_at bs w n (a + r))) (length-rows c (λ r. count_at bs w n (a + r))) l g.0.1,
      bounded_is bs t (passed_first bs w n a c) (passed_count bs w n a c) g.1 (passed bs w n (rows_of t) g.0.2 a c l),
    ),
  )
  bounded_is bs (Tree.struct n f) a c g l = (mark_short bs n a c g.0.0 l, bounded_all bs f n.rows a c g.1 g.0.1 l)
  bounded_is bs (Tree.dictionary n t) a c g l =
      (mark_short bs n a c g.0.0 l, (rw (slots_joined bs n.size n a c) (cut_short (n.slots + (n.from + a) * n.size) (c * n.size) bs), tt))

  bounded_all : (bs : List ℕ) (f : Forest) (n a c : ℕ) → OpenedAll bs f → RowsAll f n → a + c ≤ n → AtMost (length bs) (buffers_all (shown_all bs f a c))
  bounded_all bs Forest.none n a c g h l = tt
  bounded_all bs (Forest.more t f) n a c g h l =
      at_most_add (length bs) (buffers (shown bs t a c)) (buffers_all (shown_all bs f a c)) (bounded_is bs t a c g.0 (omega (arith, h.0))) (bounded_all bs f n a c g.1 h.1 l)
