-- What the rules of a node say by its kind.
use Rattle.std.proofs.Common.{Ok, Result, cond, ◌≡◌, ℕ, ◌+◌, ◌*◌, ◌/◌, ◌<◌, ◌≤◌, true, ◌&&◌, leb, Some, Option, length, sym, refl, ap, ◌∙◌, subst, ap₂, arith, inl, inr, ◌⊎◌}
use Rattle.std.specs.Option.{ok_or}
use Rattle.layout.specs.declared.fault.Refusal.{Refusal}
use Rattle.layout.specs.declared.fault.Refusal.TheVariants.{KindOrSize, Nesting, Place, Offset, Key}
use Rattle.layout.specs.declared.kind.Kind.{Kind}
use Rattle.layout.specs.declared.kind.Kind.TheVariants.{List32, List64, Dictionary}
use Rattle.layout.specs.declared.node.Node.{Node}
use Rattle.layout.specs.declared.number.Width.{Width}
use Rattle.layout.specs.Bits.{bytes_for}
use Rattle.layout.specs.Kinds.{kind_of, offset_width, same}
use Rattle.layout.specs.Nodes.{node_at, bitmap_of}
use Rattle.layout.specs.Numbers.{wide, width_of}
use Rattle.layout.specs.Rules.{reach, Is, Tabled, Lies, ChildrenFit}
use Rattle.layout.specs.Rules.{Placed as Laid}
use Rattle.layout.specs.Tests.{passes, tabled_as, tabled_by, shaped_as, placed_as, rises_to, offsets_as, keyed_below, keys_as, holds}
use Rattle.layout.proofs.Facts.{found, key_width_is, keys_lie, offsets_lie, child_stands}
use Rattle.layout.proofs.Nodes.{length-nodes}
use Rattle.layout.proofs.Table.{kind_of_lem}
use Rattle.layout.proofs.Tests.{tells}
use Rattle.opening.specs.declared.placed.Placed.{Placed}
use Rattle.opening.specs.declared.subject.Subject.{Subject}
use Rattle.opening.specs.Subjects.{table_of, kept}

module _ (s : Subject) where
  some : kind_of (node_at (table_of s) s.index).kind ≡ Some s.kind
  some = ap (λ (n : Node). kind_of n.kind) (sym s.at) ∙ kind_of_lem s.node.kind s.kind s.is

  -- ---- each rule as a test

  pub table_kept : kept KindOrSize s ≡ true
  unfolding holds
  table_kept = ap (λ (o : Option Kind). tabled_by o (node_at (table_of s) s.index)) some ∙ ap (tabled_as s.kind) (sym s.at) ∙ s.tabled

  pub nesting_is : kept Nesting s ≡ (shaped_as (Some s.kind) (table_of s) s.index && leb s.depth 64)
  unfolding holds
  nesting_is = ap₂ (λ (o : Option Kind) (d : ℕ). shaped_as o (table_of s) s.index && leb d 64) some (sym s.deep)

  pub place_is : kept Place s ≡ placed_as s.kind s.node s.bytes.now
  unfolding holds
  place_is =
      ap (λ (o : Option Kind). passes o (λ k. placed_as k (node_at (table_of s) s.index) s.bytes.now)) some
      ∙ ap (λ (n : Node). placed_as s.kind n s.bytes.now) (sym s.at)

  pub offset_is : kept Offset s ≡ passes (offset_width s.kind) (λ w. rises_to s.bytes.now (wide w) s.node (reach s.kind (table_of s) s.index))
  unfolding holds
  offset_is =
      ap (λ (o : Option Kind). passes o (λ k. offsets_as k (table_of s) s.bytes.now s.index)) some
      ∙ ap (λ (n : Node). passes (offset_width s.kind) (λ w. rises_to s.bytes.now (wide w) n (reach s.kind (table_of s) s.index))) (sym s.at)

  pub key_is : kept Key s ≡ cond (same s.kind Dictionary) (keyed_below s.bytes.now s.node (node_at (table_of s) (s.index + 1)).rows) true
  unfolding holds
  key_is =
      ap (λ (o : Option Kind). passes o (λ k. keys_as k (table_of s) s.bytes.now s.index)) some
      ∙ ap (λ (n : Node). cond (same s.kind Dictionary) (keyed_below s.bytes.now n (node_at (table_of s) (s.index + 1)).rows) true) (sym s.at)

-- ---- what the rules tell of a node that keeps nesting and places

module _ (p : Placed) where
  abbrev s : Subject
  s = p.subject

  is_at : Is (node_at (table_of s) s.index) s.kind
  is_at = subst (λ (n : Node). Is n s.kind) s.at s.is

  tabled : Tabled s.node
  tabled = subst Tabled (sym s.at) (tells (table_of s) s.bytes.now s.index KindOrSize (table_kept s))

  placed : Laid s.bytes.now s.node
  placed = subst (Laid s.bytes.now) (sym s.at) (tells (table_of s) s.bytes.now s.index Place p.place)

  -- the tree that it heads lies in the table
  pub end_within : s.index + s.node.span ≤ length s.nodes.now / 80
  end_within =
      omega (arith, (tells (table_of s) s.bytes.now s.index Nesting p.nesting).within, length-nodes s.nodes.now, ap (λ (n : Node). n.span) s.at)

  -- the one child of a List or a Dictionary
  stands : ((n : ℕ) → ChildrenFit s.kind n → n ≡ 1) → s.index + 1 < length s.nodes.now / 80
  stands one = omega (arith, child_stands (table_of s) s.index (tells (table_of s) s.bytes.now s.index Nesting p.nesting) s.kind is_at one, length-nodes s.nodes.now)

  pub element_stands : (s.kind ≡ List32) ⊎ (s.kind ≡ List64) → s.index + 1 < length s.nodes.now / 80
  element_stands (inl e) = stands (λ n f. subst (λ (k : Kind). ChildrenFit k n) e f)
  element_stands (inr e) = stands (λ n f. subst (λ (k : Kind). ChildrenFit k n) e f)

  -- the offsets lie within the bytes
  pub offsets_within : (w : Width) → offset_width s.kind ≡ Some w → Lies s.bytes.now s.node.slots ((s.node.from + s.node.rows + 1) * wide w)
  offsets_within w e = offsets_lie s.bytes.now s.node placed s.kind w s.is e

  -- ---- a Dictionary

  module _ (dictionary : s.kind ≡ Dictionary) where
    is_dictionary : Is s.node Dictionary
    is_dictionary = subst (Is s.node) dictionary s.is

    pub values_stand : s.index + 1 < length s.nodes.now / 80
    values_stand = stands (λ n f. subst (λ (k : Kind). ChildrenFit k n) dictionary f)

    pub width_is : (r : Result Width Refusal) (w : Width) → r ≡ ok_or (width_of s.node.size) KindOrSize → r ≡ Ok w → s.node.size ≡ wide w
    width_is r w e is = key_width_is s.node tabled is_dictionary w (found (width_of s.node.size) KindOrSize w (sym e ∙ is))

    pub keys_within : (w : Width) → s.node.size ≡ wide w → Lies s.bytes.now s.node.slots ((s.node.from + s.node.rows) * wide w)
    keys_within w e = subst (λ (v : ℕ). Lies s.bytes.now s.node.slots ((s.node.from + s.node.rows) * v)) e (keys_lie s.bytes.now s.node placed is_dictionary)

    pub marks_within : (b : ℕ) → Some b ≡ bitmap_of s.node → Lies s.bytes.now b (bytes_for (s.node.from + s.node.rows))
    marks_within b e = placed.bitmap Dictionary b is_dictionary refl (sym e)
