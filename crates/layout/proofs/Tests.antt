-- Each test is true exactly if its rule holds.
use Rattle.std.proofs.Common.{◌≡◌, ℕ, ◌+◌, ◌<◌, ◌≤◌, Bool, true, cond, not, ◌&&◌, eqb, ltb, leb, List, length, Some, None, Option, refl, ap, ◌∙◌, inl, inr, arith}
use Rattle.std.proofs.lemmas.Bool.{and_parts, and_from, leb-true, le-leb, ltb-true, lt-ltb, eqb-true, eq-eqb, ne_eqb, cases_eq}
use Rattle.layout.specs.declared.fault.Refusal.{Refusal}
use Rattle.layout.specs.declared.fault.Refusal.TheVariants.{Alignment, NodeBytes, TooLarge, KindOrSize, Nesting, Place, Offset, Key, Ended, Column, DictionaryAboveDictionary, NoId, Replacement, Memory, Rows, Header, Sink, Ids}
use Rattle.layout.specs.declared.kind.Kind.{Kind}
use Rattle.layout.specs.declared.kind.Kind.TheVariants.{Struct, Dictionary}
use Rattle.layout.specs.declared.node.Node.{Node}
use Rattle.layout.specs.declared.number.Width.{Width}
use Rattle.layout.specs.Lists.{every, all, sum_of}
use Rattle.layout.specs.Numbers.{wide, unle, natural, number}
use Rattle.layout.specs.Bits.{bytes_for}
use Rattle.layout.specs.Kinds.{kind_number, kind_of, size_fits, children_fit, offset_width, slot_bytes, same, has_data, has_bitmap}
use Rattle.layout.specs.Nodes.{node_at, end_of, depth_of, bitmap_of}
use Rattle.layout.specs.Rows.{mark_at, slot_at, key_at}
use Rattle.layout.specs.Rules.{Is, Tabled, Nested, Placed, Rising, reach, OffsetsKept, Keyed, KeysKept, Rule}
use Rattle.layout.specs.Tests.{passes, tabled_by, kids_of, kids_fit, shaped_as, lies, slots_lie, bitmap_lies, data_lies, placed_as, rises_to, offsets_as, key_passes, keyed_below, keys_as, kind_at, holds}
use Rattle.layout.proofs.Table.{kind_is, kind_of_lem, size_tells, size_from, children_tell, children_from}
use Rattle.layout.proofs.Every.{every_at, every_all, passes_at, passes_all, cond_at, cond_all}
use Rattle.layout.proofs.Kids.{some, span_of, some_from, some_tells, side_kids, side_facts, kids_side, rows_tell, rows_from}

-- ---- KindOrSize

tabled_by_lem : (n : Node) (o : Option Kind) → kind_of n.kind ≡ o → tabled_by o n ≡ true → Tabled n
tabled_by_lem n None e h = absurd (let z : ◌≡◌ {A = ℕ} 0 1 = cc in omega arith)
tabled_by_lem n (Some k) e h =
    let p = and_parts (size_fits k n.size) (leb (n.from + n.rows) 2147483647) h in
    record { kind = k; is = kind_is n.kind k e; size = size_tells k n.size p.0; rows = leb-true _ _ p.1 }

pub tabled_tells : (n : Node) → tabled_by (kind_of n.kind) n ≡ true → Tabled n
tabled_tells n h = tabled_by_lem n (kind_of n.kind) refl h

pub tabled_from : (n : Node) → Tabled n → tabled_by (kind_of n.kind) n ≡ true
tabled_from n t =
    ap (λ (o : Option Kind). tabled_by o n) (kind_of_lem n.kind t.kind t.is)
    ∙ and_from _ _ (size_from t.kind n.size t.size) (le-leb _ _ t.rows)

-- ---- Nesting

pub same_is : (k l : Kind) → same k l ≡ true → kind_number k ≡ kind_number l
same_is k l h = eqb-true _ _ h

module _ (ns : List Node) (i : ℕ) where
  pub nested_tells : shaped_as (kind_at ns i) ns i ≡ true → depth_of ns i ≤ 64 → Nested ns i
  unfolding shaped_as
  nested_tells h d =
      let fits : Bool = passes (kind_at ns i) (λ k. kids_fit k ns i) in
      let a = and_parts (not (eqb (node_at ns i).span 0)) (leb (end_of ns i) (length ns) && (all (kids_of ns i) (some ns) && (eqb (1 + sum_of (kids_of ns i) (span_of ns)) (node_at ns i).span && fits))) h in
      let b = and_parts (leb (end_of ns i) (length ns)) (all (kids_of ns i) (some ns) && (eqb (1 + sum_of (kids_of ns i) (span_of ns)) (node_at ns i).span && fits)) a.1 in
      let c = and_parts (all (kids_of ns i) (some ns)) (eqb (1 + sum_of (kids_of ns i) (span_of ns)) (node_at ns i).span && fits) b.1 in
      let e = and_parts (eqb (1 + sum_of (kids_of ns i) (span_of ns)) (node_at ns i).span) fits c.1 in
      let full : 1 + sum_of (kids_of ns i) (span_of ns) ≡ (node_at ns i).span = eqb-true _ _ e.0 in
      let at : (k : Kind) → Is (node_at ns i) k → kids_fit k ns i ≡ true = λ k is. passes_at (kind_at ns i) (λ k. kids_fit k ns i) k e.1 (kind_of_lem (node_at ns i).kind k is) in
      record {
        some = some_tells ns i a.0;
        within = leb-true _ _ b.0;
        children = kids_of ns i;
        fill = kids_side ns (node_at ns i).span (i + 1) (end_of ns i) c.0 (omega arith);
        count = λ k is. children_tell k (length (kids_of ns i)) (and_parts (children_fit k (length (kids_of ns i))) (cond (same k Struct) (all (kids_of ns i) (λ c. eqb (node_at ns c).rows (node_at ns i).rows)) true) (at k is)).0;
        rows = λ is. rows_tell ns (kids_of ns i) (node_at ns i).rows (and_parts true (all (kids_of ns i) (λ c. eqb (node_at ns c).rows (node_at ns i).rows)) (at Struct is)).1;
        deep = d;
      }

  pub nested_from : Nested ns i → shaped_as (kind_at ns i) ns i ≡ true
  unfolding shaped_as
  nested_from n =
      let same-kids : kids_of ns i ≡ n.children = side_kids ns n.children (node_at ns i).span (i + 1) (end_of ns i) n.fill (omega arith) in
      let f = side_facts ns n.children (i + 1) (end_of ns i) n.fill in
      let full : 1 + sum_of (kids_of ns i) (span_of ns) ≡ (node_at ns i).span = rw same-kids (omega (arith, f.1)) in
      let nz : all (kids_of ns i) (some ns) ≡ true = rw same-kids f.0 in
      and_from _ _ (some_from ns i n.some)
      (and_from _ _ (le-leb _ _ n.within)
      (and_from _ _ nz
      (and_from _ _ (eq-eqb _ _ full)
      (passes_all (kind_at ns i) (λ k. kids_fit k ns i)
      (λ k e.
      let is : Is (node_at ns i) k = kind_is (node_at ns i).kind k e in
      and_from _ _
      (rw same-kids (children_from k (length n.children) (n.count k is)))
      (cond_all (same k Struct) (all (kids_of ns i) (λ c. eqb (node_at ns c).rows (node_at ns i).rows))
      (λ s. rw same-kids (rows_from ns n.children (node_at ns i).rows (n.rows (is ∙ same_is k Struct s))))))))))

-- ---- Place

pub placed_tells : (n : Node) (bs : List ℕ) → passes (kind_of n.kind) (λ k. placed_as k n bs) ≡ true → Placed bs n
unfolding placed_as
placed_tells n bs h =
    let at : (k : Kind) → Is n k → (slots_lie k n bs ≡ true) × ((bitmap_lies k n bs && data_lies k n bs) ≡ true) =
    λ k is. and_parts (slots_lie k n bs) (bitmap_lies k n bs && data_lies k n bs) (passes_at (kind_of n.kind) (λ k. placed_as k n bs) k h (kind_of_lem n.kind k is)) in
    record {
      slots = λ k need is e. leb-true _ _ (passes_at (slot_bytes k n.size (n.from + n.rows)) (λ need. lies bs n.slots need) need (at k is).0 e);
      bitmap = λ k place is b e.
          leb-true _ _ (passes_at (bitmap_of n) (λ place. lies bs place (bytes_for (n.from + n.rows))) place
          (cond_at (has_bitmap k) (passes (bitmap_of n) (λ place. lies bs place (bytes_for (n.from + n.rows)))) (and_parts (bitmap_lies k n bs) (data_lies k n bs) (at k is).1).0 b) e);
      strings = λ k is d. leb-true _ _ (cond_at (has_data k) (lies bs n.«data» n.extent) (and_parts (bitmap_lies k n bs) (data_lies k n bs) (at k is).1).1 d);
    }

pub placed_from : (n : Node) (bs : List ℕ) → Placed bs n → passes (kind_of n.kind) (λ k. placed_as k n bs) ≡ true
unfolding placed_as
placed_from n bs p =
    passes_all (kind_of n.kind) (λ k. placed_as k n bs)
    (λ k e.
    let is : Is n k = kind_is n.kind k e in
    and_from _ _
    (passes_all (slot_bytes k n.size (n.from + n.rows)) (λ need. lies bs n.slots need) (λ need s. le-leb _ _ (p.slots k need is s)))
    (and_from _ _
    (cond_all (has_bitmap k) (passes (bitmap_of n) (λ place. lies bs place (bytes_for (n.from + n.rows))))
    (λ b. passes_all (bitmap_of n) (λ place. lies bs place (bytes_for (n.from + n.rows))) (λ place s. le-leb _ _ (p.bitmap k place is b s))))
    (cond_all (has_data k) (lies bs n.«data» n.extent) (λ d. le-leb _ _ (p.strings k is d)))))

-- ---- Offset

pub natural-number : (bs : List ℕ) → natural bs ≡ true → number bs ≡ unle bs
natural-number bs h = ap (λ (b : Bool). cond b (unle bs) 0) h

module _ (bs : List ℕ) (w : ℕ) (n : Node) (most : ℕ) where
  abbrev in_range : ℕ → Bool
  in_range r = natural (slot_at bs w n r) && leb (unle (slot_at bs w n r)) most

  abbrev no_fall : ℕ → Bool
  no_fall r = leb (unle (slot_at bs w n r)) (unle (slot_at bs w n (r + 1)))

  pub rising_tells : rises_to bs w n most ≡ true → Rising bs w n most
  unfolding rises_to
  rising_tells h =
      let both : 0 < n.rows → (every (n.rows + 1) in_range ≡ true) × (every n.rows no_fall ≡ true) =
      λ some. (let ne : n.rows ≡ 0 → ⊥ = λ e. omega arith in let t = ne_eqb n.rows 0 ne in and_parts (every (n.rows + 1) in_range) (every n.rows no_fall) (rw t at h)) in
      let at : 0 < n.rows → (r : ℕ) → r ≤ n.rows → (natural (slot_at bs w n r) ≡ true) × (leb (unle (slot_at bs w n r)) most ≡ true) =
      λ some r l. and_parts (natural (slot_at bs w n r)) (leb (unle (slot_at bs w n r)) most) (every_at (n.rows + 1) r in_range (both some).0 (omega arith)) in
      record {
        naturals = λ some r l. (at some r l).0;
        rises = λ r l.
            (let some : 0 < n.rows = omega arith in
            let up = leb-true _ _ (every_at n.rows r no_fall (both some).1 l) in
            let a = natural-number (slot_at bs w n r) (at some r (omega arith)).0 in
            let b = natural-number (slot_at bs w n (r + 1)) (at some (r + 1) (omega arith)).0 in
            omega arith);
        within = λ some r l. (let a = natural-number (slot_at bs w n r) (at some r l).0 in let b = leb-true _ _ (at some r l).1 in omega arith);
      }

  pub rising_from : Rising bs w n most → rises_to bs w n most ≡ true
  unfolding rises_to
  rising_from g =
      elim (cases_eq n.rows 0) [
        | inl e ↦ (let t = eq-eqb n.rows 0 e in rw t)
        | inr ne ↦
            (let t = ne_eqb n.rows 0 ne in
            let some : 0 < n.rows = omega arith in
            rw t (and_from _ _
            (every_all (n.rows + 1) in_range
            (λ r l.
            let nat = g.naturals some r (omega arith) in
            let a = natural-number (slot_at bs w n r) nat in
            and_from _ _ nat (le-leb _ _ (omega (arith, g.within some r (omega arith))))))
            (every_all n.rows no_fall
            (λ r l.
            let a = natural-number (slot_at bs w n r) (g.naturals some r (omega arith)) in
            let b = natural-number (slot_at bs w n (r + 1)) (g.naturals some (r + 1) (omega arith)) in
            le-leb _ _ (omega (arith, g.rises r l))))))
      ]

module _ (ns : List Node) (bs : List ℕ) (i : ℕ) where
  abbrev pub rises_as : Kind → Width → Bool
  rises_as k w = rises_to bs (wide w) (node_at ns i) (reach k ns i)

  pub offsets_tell : passes (kind_at ns i) (λ k. offsets_as k ns bs i) ≡ true → OffsetsKept ns bs i
  offsets_tell h k w is e =
      rising_tells bs (wide w) (node_at ns i) (reach k ns i)
      (passes_at (offset_width k) (rises_as k) w (passes_at (kind_at ns i) (λ k. offsets_as k ns bs i) k h (kind_of_lem (node_at ns i).kind k is)) e)

  pub offsets_from : OffsetsKept ns bs i → passes (kind_at ns i) (λ k. offsets_as k ns bs i) ≡ true
  offsets_from g =
      passes_all (kind_at ns i) (λ k. offsets_as k ns bs i)
      (λ k e. passes_all (offset_width k) (rises_as k) (λ w f. rising_from bs (wide w) (node_at ns i) (reach k ns i) (g k w (kind_is (node_at ns i).kind k e) f)))

-- ---- Key

module _ (bs : List ℕ) (n : Node) (below : ℕ) where
  key_parts : keyed_below bs n below ≡ true → (r : ℕ) → r < n.rows → mark_at bs n r ≡ true → (natural (key_at bs n r) ≡ true) × (ltb (unle (key_at bs n r)) below ≡ true)
  unfolding keyed_below
  key_parts h r l m =
      and_parts (natural (key_at bs n r)) (ltb (unle (key_at bs n r)) below)
      (cond_at (mark_at bs n r) (natural (key_at bs n r) && ltb (unle (key_at bs n r)) below) (every_at n.rows r (key_passes bs n below) h l) m)

  pub keyed_tells : keyed_below bs n below ≡ true → Keyed bs n below
  keyed_tells h = record { naturals = λ r l m. (key_parts h r l m).0; within = λ r l m. ltb-true _ _ (key_parts h r l m).1 }

  pub keyed_from : Keyed bs n below → keyed_below bs n below ≡ true
  unfolding keyed_below
  keyed_from g =
      every_all n.rows (key_passes bs n below)
      (λ r l. cond_all (mark_at bs n r) (natural (key_at bs n r) && ltb (unle (key_at bs n r)) below) (λ m. and_from _ _ (g.naturals r l m) (lt-ltb _ _ (g.within r l m))))

module _ (ns : List Node) (bs : List ℕ) (i : ℕ) where
  pub keys_tell : passes (kind_at ns i) (λ k. keys_as k ns bs i) ≡ true → KeysKept ns bs i
  keys_tell h is =
      keyed_tells bs (node_at ns i) (node_at ns (i + 1)).rows (passes_at (kind_at ns i) (λ k. keys_as k ns bs i) Dictionary h (kind_of_lem (node_at ns i).kind Dictionary is))

  pub keys_from : KeysKept ns bs i → passes (kind_at ns i) (λ k. keys_as k ns bs i) ≡ true
  keys_from g =
      passes_all (kind_at ns i) (λ k. keys_as k ns bs i)
      (λ k e.
      cond_all (same k Dictionary) (keyed_below bs (node_at ns i) (node_at ns (i + 1)).rows)
      (λ s. keyed_from bs (node_at ns i) (node_at ns (i + 1)).rows (g (kind_is (node_at ns i).kind k e ∙ same_is k Dictionary s))))

  -- ---- each by its refusal

  pub tells : (r : Refusal) → holds r ns bs i ≡ true → Rule r ns bs i
  unfolding holds
  tells Alignment h = tt
  tells NodeBytes h = tt
  tells TooLarge h = tt
  tells KindOrSize h = tabled_tells (node_at ns i) h
  tells Nesting h = let p = and_parts (shaped_as (kind_at ns i) ns i) (leb (depth_of ns i) 64) h in nested_tells ns i p.0 (leb-true _ _ p.1)
  tells Place h = placed_tells (node_at ns i) bs h
  tells Offset h = offsets_tell ns bs i h
  tells Key h = keys_tell h
  tells Ended h = tt
  tells Column h = tt
  tells DictionaryAboveDictionary h = tt
  tells NoId h = tt
  tells Replacement h = tt
  tells Memory h = tt
  tells Rows h = tt
  tells Header h = tt
  tells Sink h = tt
  tells Ids h = tt

  pub from : (r : Refusal) → Rule r ns bs i → holds r ns bs i ≡ true
  unfolding holds
  from Alignment h = refl
  from NodeBytes h = refl
  from TooLarge h = refl
  from KindOrSize h = tabled_from (node_at ns i) h
  from Nesting h = and_from _ _ (nested_from ns i h) (le-leb _ _ h.deep)
  from Place h = placed_from (node_at ns i) bs h
  from Offset h = offsets_from ns bs i h
  from Key h = keys_from h
  from Ended h = refl
  from Column h = refl
  from DictionaryAboveDictionary h = refl
  from NoId h = refl
  from Replacement h = refl
  from Memory h = refl
  from Rows h = refl
  from Header h = refl
  from Sink h = refl
  from Ids h = refl
