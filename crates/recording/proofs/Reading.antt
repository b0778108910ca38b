-- What an opened recording tells of a node and of a row, whose numbers m were read from it.
use Rattle.std.proofs.Common.{◌≡◌, ℕ, ◌+◌, ◌*◌, ◌<◌, ◌≤◌, true, ◌⊎◌, List, length, is_some, Some, sym, refl, ap, ◌∙◌, subst, inl, inr, arith}
use Rattle.std.proofs.lemmas.List.{take_all}
use Rattle.layout.specs.declared.fault.Refusal.{Refusal}
use Rattle.layout.specs.declared.fault.Refusal.TheVariants.{KindOrSize, Place, Offset, Key}
use Rattle.layout.specs.declared.kind.Kind.{Kind}
use Rattle.layout.specs.declared.kind.Kind.TheVariants.{Null, Boolean, Fixed, Dictionary}
use Rattle.layout.specs.declared.node.Node.{Node}
use Rattle.layout.specs.declared.number.Width.{Width}
use Rattle.layout.specs.Bits.{bytes_for}
use Rattle.layout.specs.Kinds.{offset_width, kind_of}
use Rattle.layout.specs.Nodes.{node_at, bitmap_of}
use Rattle.layout.specs.Numbers.{wide, width_of, unle, unsigned_at}
use Rattle.layout.specs.Rows.{mark_at, slot_at, offset_at, key_at}
use Rattle.layout.specs.Rules.{Is, Tabled, Placed, HasOffsets, Lies, Rule, reach}
use Rattle.layout.proofs.Facts.{one_kind, key_width, key_width_is, bits_lie, fixed_lie, keys_lie, offsets_lie, bitmapped}
use Rattle.layout.proofs.Opening.{kept_rule}
use Rattle.layout.proofs.Places.{slot_within}
use Rattle.layout.proofs.Table.{kind_of_lem}
use Rattle.layout.proofs.Tests.{natural-number}
use Rattle.recording.specs.declared.node.NodeRef.{NodeRef}
use Rattle.recording.specs.declared.offsets.Offsets.{Offsets}
use Rattle.recording.specs.declared.row.Row.{Row}
use Rattle.recording.specs.NodeRefs.{table_of, run_of, numbers_of, IsOffset}

-- every rule holds at it
pub rules_at : (n : NodeRef) (q : Refusal) → Rule q (table_of n) (run_of n) n.index
rules_at n = kept_rule (table_of n) (run_of n) n.recording.opened n.index n.stands

-- a slot that lies within the bytes, where it starts, and that it ends there
pub record There (bs : List ℕ) (n : Node) (r w : ℕ) : Type 0 where
  pub row : n.from + r ≤ 2147483647
  pub place : n.slots + (n.from + r) * w ≤ 4294967295
  pub ends : n.slots + (n.from + r) * w + w ≤ length bs

-- a node has one width of offsets
pub one_width : (n : Node) (v w : Width) → HasOffsets n v → HasOffsets n w → v ≡ w
one_width n v w a b =
    let e : Some v ≡ Some w = sym a.2 ∙ ap offset_width (one_kind n a.0 b.0 a.1 b.1) ∙ b.2 in
    cc

module _ (n : NodeRef) (m : Node) (same : m ≡ numbers_of n) where
  tabled : Tabled m
  tabled = subst Tabled (sym same) (rules_at n KindOrSize)

  pub placed : Placed (run_of n) m
  placed = subst (Placed (run_of n)) (sym same) (rules_at n Place)

  small : length (run_of n) ≤ 4294967295
  small = n.recording.opened.1

  pub few : (a c : ℕ) → a + c ≤ (numbers_of n).rows → m.from + a + c ≤ 2147483647
  few a c h = omega (arith, tabled.rows, ap (λ (m : Node). m.rows) same)

  of : (k : Kind) → Is (numbers_of n) k → Is m k
  of k is = subst (λ (m : Node). Is m k) (sym same) is

  -- ---- the kind

  pub kind_some : is_some (kind_of m.kind) ≡ true
  kind_some = ap is_some (kind_of_lem m.kind tabled.kind tabled.is)

  -- ---- slots

  there : (r y w : ℕ) → m.from + r < y → m.from + r ≤ 2147483647 → m.slots + y * w ≤ length (run_of n) → There (run_of n) m r w
  there r y w l f h =
      let e = slot_within m.slots (m.from + r) y w w (length (run_of n)) refl l h in
      record { row = f; place = omega (arith, small); ends = e }

-- ---- bits

-- those of a Boolean's rows
pub flags_lie : (n : NodeRef) → Is (numbers_of n) Boolean → Lies (run_of n) (numbers_of n).slots (bytes_for ((numbers_of n).from + (numbers_of n).rows))
flags_lie n is = bits_lie (run_of n) (numbers_of n) (rules_at n Place) is

-- the bitmap of any kind that may have one
pub marks_lie : (n : NodeRef) (p : ℕ) → (Is (numbers_of n) Null → ⊥) → bitmap_of (numbers_of n) ≡ Some p → Lies (run_of n) p (bytes_for ((numbers_of n).from + (numbers_of n).rows))
marks_lie n p ne e =
    let t = rules_at n KindOrSize in
    (rules_at n Place).bitmap t.kind p t.is (bitmapped (numbers_of n) t ne) e

-- ---- offsets

-- a node is of some kind
pub has_offsets : (o : Offsets) → HasOffsets (numbers_of o.node) o.width
has_offsets o = let t = rules_at o.node KindOrSize in (t.kind, t.is, o.has t.kind t.is)

module _ (o : Offsets) (m : Node) (same : m ≡ numbers_of o.node) where
  abbrev n : NodeRef
  n = o.node

  abbrev w : ℕ
  w = wide o.width

  pub offset_there : (r : ℕ) → r ≤ (numbers_of n).rows → There (run_of n) m r w
  offset_there r l =
      let has = has_offsets o in
      let f = few n m same r 0 (omega arith) in
      there n m same r (m.from + m.rows + 1) w (omega (arith, ap (λ (m : Node). m.rows) same)) (omega arith)
      (offsets_lie (run_of n) m (placed n m same) has.0 o.width (of n m same has.0 has.1) has.2)

  -- it is not below 0, so it is the number that was read; and a node has one width
  pub offset_read : (r x : ℕ) → r ≤ (numbers_of n).rows → 0 < (numbers_of n).rows → x ≡ unle (slot_at (run_of n) w m r) → IsOffset n r x
  offset_read r x l some e =
      let has = has_offsets o in
      let rising = rules_at n Offset has.0 o.width has.1 has.2 in
      let is = e ∙ ap (λ (m : Node). unle (slot_at (run_of n) w m r)) same ∙ sym (natural-number (slot_at (run_of n) w (numbers_of n) r) (rising.naturals some r l)) in
      let most : x ≤ reach has.0 (table_of n) n.index = omega (arith, is, rising.within some r l) in
      record {
        value = λ v h. subst (λ (w : Width). x ≡ offset_at (run_of n) (wide w) (numbers_of n) r) (one_width (numbers_of n) o.width v has h) is;
        bound = λ k h. subst (λ (k : Kind). x ≤ reach k (table_of n) n.index) (one_kind (numbers_of n) has.0 k has.1 h) most;
      }

-- ---- a row

module _ (r : Row) (m : Node) (same : m ≡ numbers_of r.node) where
  within : r.index < m.rows
  within = omega (arith, r.within, ap (λ (m : Node). m.rows) same)

  pub row_few : m.from + r.index ≤ 2147483647
  row_few = omega (arith, few r.node m same r.index 1 (omega (arith, r.within)))

  -- ---- values and keys

  slot_by : m.slots + (m.from + m.rows) * m.size ≤ length (run_of r.node) → There (run_of r.node) m r.index m.size
  slot_by h = there r.node m same r.index (m.from + m.rows) m.size (omega (arith, within)) row_few h

  pub slot_there : Is (numbers_of r.node) Fixed ⊎ Is (numbers_of r.node) Dictionary → There (run_of r.node) m r.index m.size
  slot_there (inl is) = slot_by (fixed_lie (run_of r.node) m (placed r.node m same) (of r.node m same Fixed is))
  slot_there (inr is) = slot_by (keys_lie (run_of r.node) m (placed r.node m same) (of r.node m same Dictionary is))

  -- it ends within the bytes
  pub slot_ends : Is (numbers_of r.node) Fixed ⊎ Is (numbers_of r.node) Dictionary → (start : ℕ) → start ≡ m.slots + (m.from + r.index) * m.size → start + m.size ≤ length (run_of r.node)
  slot_ends is start e = omega (arith, (slot_there is).ends)

-- the slots of a Dictionary are as long as a width
pub key_width_some : (r : Row) → Is (numbers_of r.node) Dictionary → is_some (width_of (numbers_of r.node).size) ≡ true
key_width_some r is = key_width (numbers_of r.node) (rules_at r.node KindOrSize) is

pub key_wide : (r : Row) → Is (numbers_of r.node) Dictionary → (bs : List ℕ) (w : Width) → length bs ≡ (numbers_of r.node).size → width_of (length bs) ≡ Some w → length bs ≡ wide w
key_wide r is bs w len e = len ∙ key_width_is (numbers_of r.node) (rules_at r.node KindOrSize) is w (ap width_of (sym len) ∙ e)

-- the number that bytes spell, read with their width
pub read_whole : (bs : List ℕ) (w : Width) → length bs ≡ wide w → unsigned_at bs 0 w ≡ unle bs
read_whole bs w e = ap unle (take_all (wide w) bs (omega arith))

-- a valid row's key names a row
pub key_below : (r : Row) → Is (numbers_of r.node) Dictionary → mark_at (run_of r.node) (numbers_of r.node) r.index ≡ true
    → unle (key_at (run_of r.node) (numbers_of r.node) r.index) < (node_at (table_of r.node) (r.node.index + 1)).rows
key_below r is valid = (rules_at r.node Key is).within r.index r.within valid

-- the row after it is one of those that have an offset
pub row_next : (n : NodeRef) (r : ℕ) → r < (numbers_of n).rows → r + 1 ≤ 2147483647
row_next n r within = omega (arith, within, (rules_at n KindOrSize).rows)
