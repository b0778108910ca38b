-- What a scan of offsets or keys tells.
use Rattle.std.proofs.Common.{◌≡◌, ℕ, zero, suc, ◌+◌, ◌*◌, ◌^◌, ◌<◌, ◌≤◌, min, Bool, true, false, cond, not, ◌&&◌, ◌||◌, ltb, leb, ◌⊎◌, List, length, drop, Some, None, Option, sym, refl, ap, ◌∙◌, inl, inr, arith}
use Rattle.std.proofs.lemmas.Bool.{and_left, and_right, and_from, and_parts, lt-ltb, le-ltb, lt-leb, le-leb, leb-true, eq-eqb, ne_eqb, cases_eq, cases_Bool, cases_lt}
use Rattle.layout.specs.declared.node.Node.{Node}
use Rattle.layout.specs.Lists.{every}
use Rattle.layout.specs.Numbers.{unle, natural}
use Rattle.layout.specs.Bits.{bit_at}
use Rattle.layout.specs.Nodes.{bitmap_of}
use Rattle.layout.specs.Rows.{mark_in, slot_at, key_at}
use Rattle.layout.specs.Tests.{rises_to, key_passes, keyed_below}
use Rattle.layout.proofs.Lists.{length_cut}
use Rattle.layout.proofs.Every.{every_all, every_false, every_same}
use Rattle.layout.proofs.Places.{slot_within}

-- a slot that lies within the bytes is whole
pub slot_length : (bs : List ℕ) (w : ℕ) (n : Node) (r y : ℕ) → n.from + r < y → n.slots + y * w ≤ length bs → length (slot_at bs w n r) ≡ w
slot_length bs w n r y l h = length_cut (n.slots + (n.from + r) * w) w bs (slot_within n.slots (n.from + r) y w w (length bs) refl l h)

-- ---- offsets

-- where none falls, the last is the largest
last_largest : (o : ℕ → ℕ) (m : ℕ) → every m (λ k. leb (o k) (o (k + 1))) ≡ true → (k : ℕ) → k ≤ m → o k ≤ o m
last_largest o zero h k l = let e : k ≡ 0 = omega arith in rw e (omega arith)
last_largest o (suc m) h k l =
    let b = and_parts (leb (o m) (o (m + 1))) (every m (λ k. leb (o k) (o (k + 1)))) h in
    elim (cases_eq k (suc m)) [
      | inl e ↦ rw e (omega arith)
      | inr ne ↦
          (let step = leb-true (o m) (o (m + 1)) b.0 in
          let before = last_largest o m b.1 k (omega arith) in
          let e : o (m + 1) ≡ o (suc m) = ap o (omega arith) in
          omega arith)
    ]

pub no_rows : (bs : List ℕ) (w : ℕ) (n : Node) (most : ℕ) → n.rows ≡ 0 → true ≡ rises_to bs w n most
unfolding rises_to
no_rows bs w n most e = let t = eq-eqb n.rows 0 e in rw t

module _ (bs : List ℕ) (w : ℕ) (n : Node) (most half : ℕ) (is-half : 2 * half ≡ 256 ^ w) where
  abbrev slot : ℕ → List ℕ
  slot r = slot_at bs w n r

  abbrev o : ℕ → ℕ
  o r = unle (slot r)

  abbrev in_range : ℕ → Bool
  in_range r = natural (slot r) && leb (o r) most

  abbrev no_fall : ℕ → Bool
  no_fall r = leb (o r) (o (r + 1))

  module _ (some : n.rows ≡ 0 → ⊥) (within : n.slots + (n.from + n.rows + 1) * w ≤ length bs) where
    opened : (every (n.rows + 1) in_range && every n.rows no_fall) ≡ rises_to bs w n most
    unfolding rises_to
    opened = let t = ne_eqb n.rows 0 some in rw t

    whole : (r : ℕ) → r ≤ n.rows → length (slot r) ≡ w
    whole r l = slot_length bs w n r (n.from + n.rows + 1) (omega arith) within

    -- a last offset that is negative or too large
    pub last_outside : (x : ℕ) → x ≡ o n.rows → (half ≤ x) ⊎ (most < x) → false ≡ rises_to bs w n most
    last_outside x e out =
        let l = whole n.rows (omega arith) in
        let limit : 256 ^ length (slot n.rows) ≡ 256 ^ w = ap (λ (k : ℕ). 256 ^ k) l in
        let bad : in_range n.rows ≡ false =
        elim out [
          | inl a ↦ and_left (natural (slot n.rows)) (leb (o n.rows) most) (le-ltb (2 * o n.rows) (256 ^ length (slot n.rows)) (omega arith))
          | inr a ↦ and_right (natural (slot n.rows)) (leb (o n.rows) most) (lt-leb (o n.rows) most (omega arith))
        ] in
        sym (and_left _ _ (every_false (n.rows + 1) n.rows in_range (omega arith) bad)) ∙ opened

    -- else all depends on whether one falls
    pub last_within : (x : ℕ) → x ≡ o n.rows → x < half → x ≤ most → every n.rows no_fall ≡ rises_to bs w n most
    last_within x e small low =
        (elim (cases_Bool (every n.rows no_fall)) [
          | inl t ↦
              (let each : every (n.rows + 1) in_range ≡ true =
              every_all (n.rows + 1) in_range
              (λ k l.
              let up = last_largest o n.rows t k (omega arith) in
              let limit : 256 ^ length (slot k) ≡ 256 ^ w = ap (λ (j : ℕ). 256 ^ j) (whole k (omega arith)) in
              and_from _ _ (lt-ltb (2 * o k) (256 ^ length (slot k)) (omega arith)) (le-leb (o k) most (omega arith))) in
              t ∙ sym (and_from _ _ each t))
          | inr f ↦ f ∙ sym (and_right (every (n.rows + 1) in_range) (every n.rows no_fall) f)
        ]) ∙ opened

-- ---- keys

-- a key is natural and below a number exactly if it is below the lesser of it and the first negative one
bounded : (slot : List ℕ) (w half below : ℕ) → length slot ≡ w → 2 * half ≡ 256 ^ w → (natural slot && ltb (unle slot) below) ≡ ltb (unle slot) (min below half)
bounded slot w half below l h =
    let limit : 256 ^ length slot ≡ 256 ^ w = ap (λ (j : ℕ). 256 ^ j) l in
    elim (cases_lt (unle slot) (min below half)) [
      | inl a ↦ and_from (natural slot) (ltb (unle slot) below) (lt-ltb _ _ (omega arith)) (lt-ltb _ _ (omega arith)) ∙ sym (lt-ltb _ _ a)
      | inr a ↦
          (elim (cases_lt (unle slot) below) [
            | inl b ↦ and_left (natural slot) (ltb (unle slot) below) (le-ltb _ _ (omega arith))
            | inr b ↦ and_right (natural slot) (ltb (unle slot) below) (le-ltb _ _ b)
          ])
          ∙ sym (le-ltb _ _ a)
    ]

cond_or : (b x : Bool) → cond b x true ≡ (not b || x)
cond_or true x = refl
cond_or false x = refl

module _ (bs : List ℕ) (n : Node) (w half below : ℕ) (is-half : 2 * half ≡ 256 ^ w) (size : n.size ≡ w) (within : n.slots + (n.from + n.rows) * w ≤ length bs) where
  at_most : (r : ℕ) → r < n.rows → (natural (key_at bs n r) && ltb (unle (key_at bs n r)) below) ≡ ltb (unle (slot_at bs w n r)) (min below half)
  at_most r l =
      ap (λ (k : ℕ). natural (slot_at bs k n r) && ltb (unle (slot_at bs k n r)) below) size
      ∙ bounded (slot_at bs w n r) w half below (slot_length bs w n r (n.from + n.rows) (omega arith) within) is-half

  pub keys_unmarked : None ≡ bitmap_of n → every n.rows (λ r. ltb (unle (slot_at bs w n r)) (min below half)) ≡ keyed_below bs n below
  unfolding keyed_below
  keys_unmarked e =
      every_same n.rows (λ r. ltb (unle (slot_at bs w n r)) (min below half)) (key_passes bs n below)
      (λ r l.
      sym (at_most r l)
      ∙ ap (λ (m : Option ℕ). cond (mark_in bs m (n.from + r)) (natural (key_at bs n r) && ltb (unle (key_at bs n r)) below) true) e)

  pub keys_marked : (p : ℕ) → Some p ≡ bitmap_of n
      → every n.rows (λ r. not (bit_at (drop p bs) (n.from + r)) || ltb (unle (slot_at bs w n r)) (min below half)) ≡ keyed_below bs n below
  unfolding keyed_below
  keys_marked p e =
      every_same n.rows (λ r. not (bit_at (drop p bs) (n.from + r)) || ltb (unle (slot_at bs w n r)) (min below half)) (key_passes bs n below)
      (λ r l.
      ap (λ (x : Bool). not (bit_at (drop p bs) (n.from + r)) || x) (sym (at_most r l))
      ∙ sym (cond_or (bit_at (drop p bs) (n.from + r)) (natural (key_at bs n r) && ltb (unle (key_at bs n r)) below))
      ∙ ap (λ (m : Option ℕ). cond (mark_in bs m (n.from + r)) (natural (key_at bs n r) && ltb (unle (key_at bs n r)) below) true) e)
