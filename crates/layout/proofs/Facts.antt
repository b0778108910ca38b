-- What the rules tell of a node by its kind, for those that read it.
use Rattle.std.proofs.Common.{◌≡◌, ℕ, ◌+◌, ◌*◌, ◌<◌, ◌≤◌, true, List, length, is_some, Some, None, Option, Ok, Err, sym, refl, ap, ◌∙◌, subst, arith}
use Rattle.std.specs.Prelude.{is_ok}
use Rattle.std.specs.Option.{ok_or}
use Rattle.layout.specs.declared.kind.Kind.{Kind}
use Rattle.layout.specs.declared.kind.Kind.TheVariants.{Null, Boolean, Fixed, Bytes32, Bytes64, List32, List64, Struct, Dictionary}
use Rattle.layout.specs.declared.node.Node.{Node}
use Rattle.layout.specs.declared.number.Width.{Width}
use Rattle.layout.specs.declared.number.Width.TheVariants.{One, Two, Four, Eight}
use Rattle.layout.specs.Numbers.{wide, width_of}
use Rattle.layout.specs.Bits.{bytes_for}
use Rattle.layout.specs.Kinds.{offset_width, has_bitmap}
use Rattle.layout.specs.Nodes.{node_at}
use Rattle.layout.specs.Rules.{Is, Tabled, Nested, Placed, Lies, SizeFits, ChildrenFit}
use Rattle.layout.proofs.Table.{kind_of_lem, width_of_lem}
use Rattle.layout.proofs.Kids.{one_child}

-- what a conversion tells whose answer is that of a look-up
module _ {X E : Type 0} where
  pub found : (o : Option X) (e : E) (x : X) → ok_or o e ≡ Ok x → o ≡ Some x
  found None e x h = let z : ◌≡◌ {A = ℕ} 0 1 = cc in absurd (omega arith)
  found (Some y) e x h = cc

  pub missed : (o : Option X) (e q : E) → ok_or o e ≡ Err q → (o ≡ None) × (q ≡ e)
  missed None e q h = (refl, cc)
  missed (Some y) e q h = let z : ◌≡◌ {A = ℕ} 0 1 = cc in absurd (omega arith)

  pub answered : (o : Option X) (e : E) → is_some o ≡ true → is_ok (ok_or o e) ≡ true
  answered None e h = h
  answered (Some x) e h = refl

-- a node is of one kind
pub one_kind : (n : Node) (k l : Kind) → Is n k → Is n l → k ≡ l
one_kind n k l a b =
    let e : Some k ≡ Some l = sym (kind_of_lem n.kind k a) ∙ kind_of_lem n.kind l b in
    cc

pub small_width : (w : Width) → wide w ≤ 8
small_width One = omega arith
small_width Two = omega arith
small_width Four = omega arith
small_width Eight = omega arith

module _ (n : Node) (t : Tabled n) where
  size_of : (k : Kind) → Is n k → SizeFits k n.size
  size_of k is = subst (λ (k : Kind). SizeFits k n.size) (one_kind n t.kind k t.is is) t.size

  -- values have at least one byte, and few
  pub key_size : Is n Dictionary → (w : Width) × (n.size ≡ wide w)
  key_size is = size_of Dictionary is

  -- and so a width
  pub key_width : Is n Dictionary → is_some (width_of n.size) ≡ true
  key_width is = let s = key_size is in ap (λ (m : ℕ). is_some (width_of m)) s.1 ∙ ap is_some (width_of_lem s.0)

  pub key_width_is : Is n Dictionary → (w : Width) → width_of n.size ≡ Some w → n.size ≡ wide w
  key_width_is is w e =
      let s = key_size is in
      let f : Some s.0 ≡ Some w = sym (width_of_lem s.0) ∙ ap width_of (sym s.1) ∙ e in
      let g : s.0 ≡ w = cc in
      s.1 ∙ ap wide g

module _ (bs : List ℕ) (n : Node) (p : Placed bs n) where
  pub bits_lie : Is n Boolean → Lies bs n.slots (bytes_for (n.from + n.rows))
  bits_lie is = p.slots Boolean (bytes_for (n.from + n.rows)) is refl

  pub fixed_lie : Is n Fixed → Lies bs n.slots ((n.from + n.rows) * n.size)
  fixed_lie is = p.slots Fixed ((n.from + n.rows) * n.size) is refl

  pub keys_lie : Is n Dictionary → Lies bs n.slots ((n.from + n.rows) * n.size)
  keys_lie is = p.slots Dictionary ((n.from + n.rows) * n.size) is refl

  lie_by : (k : Kind) (v w : Width) → Is n k → Some v ≡ Some w → Lies bs n.slots ((n.from + n.rows + 1) * wide v) → Lies bs n.slots ((n.from + n.rows + 1) * wide w)
  lie_by k v w is e h = let f : v ≡ w = cc in subst (λ (w : Width). Lies bs n.slots ((n.from + n.rows + 1) * wide w)) f h

  absent : (w : Width) → ◌≡◌ {A = Option Width} None (Some w) → ⊥
  absent w e = let z : ◌≡◌ {A = ℕ} 0 1 = cc in omega arith

  pub offsets_lie : (k : Kind) (w : Width) → Is n k → offset_width k ≡ Some w → Lies bs n.slots ((n.from + n.rows + 1) * wide w)
  offsets_lie Null w is e = absurd (absent w e)
  offsets_lie Boolean w is e = absurd (absent w e)
  offsets_lie Fixed w is e = absurd (absent w e)
  offsets_lie Bytes32 w is e = lie_by Bytes32 Four w is e (p.slots Bytes32 ((n.from + n.rows + 1) * 4) is refl)
  offsets_lie Bytes64 w is e = lie_by Bytes64 Eight w is e (p.slots Bytes64 ((n.from + n.rows + 1) * 8) is refl)
  offsets_lie List32 w is e = lie_by List32 Four w is e (p.slots List32 ((n.from + n.rows + 1) * 4) is refl)
  offsets_lie List64 w is e = lie_by List64 Eight w is e (p.slots List64 ((n.from + n.rows + 1) * 8) is refl)
  offsets_lie Struct w is e = absurd (absent w e)
  offsets_lie Dictionary w is e = absurd (absent w e)

-- every kind but Null
pub bitmapped : (n : Node) (t : Tabled n) → (Is n Null → ⊥) → has_bitmap t.kind ≡ true
bitmapped n t ne = by t.kind t.is
  where
    by : (k : Kind) → Is n k → has_bitmap k ≡ true
    by Null is = absurd (ne is)
    by Boolean is = refl
    by Fixed is = refl
    by Bytes32 is = refl
    by Bytes64 is = refl
    by List32 is = refl
    by List64 is = refl
    by Struct is = refl
    by Dictionary is = refl

-- the one child of a List or a Dictionary stands in the table
pub child_stands : (ns : List Node) (i : ℕ) → Nested ns i → (k : Kind) → Is (node_at ns i) k → ((c : ℕ) → ChildrenFit k c → c ≡ 1) → i + 1 < length ns
child_stands ns i n k is one =
    let c = one_child ns i n (one (length n.children) (n.count k is)) in
    omega (arith, c.0, n.within)
