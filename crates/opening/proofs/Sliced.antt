-- The slots and bits of a node's rows, cut out of the bytes.
use Rattle.std.proofs.Common.{◌≡◌, ℕ, ◌+◌, ◌-◌, ◌*◌, ◌^◌, ◌<◌, ◌≤◌, Bool, not, ◌&&◌, ◌||◌, eqb, ltb, leb, inl, inr, List, length, drop, refl, add-mul, ap, ap₂, ◌∙◌, arith}
use Rattle.std.proofs.lemmas.Bool.{cases_eq, cases_lt, eq-eqb, ne_eqb, lt-ltb, le-ltb, lt-leb, le-leb}
use Rattle.layout.specs.declared.node.Node.{Node}
use Rattle.layout.specs.declared.bit.BitSlice.{BitSlice}
use Rattle.layout.specs.Bits.{bit_at}
use Rattle.layout.specs.BitSlices.{bit_in, AreBits}
use Rattle.layout.specs.Lists.{every, cut}
use Rattle.layout.specs.Numbers.{unle}
use Rattle.layout.specs.Rows.{slot_at}
use Rattle.layout.specs.Tests.{rises_to}
use Rattle.layout.proofs.Every.{every_same}
use Rattle.layout.proofs.Lists.{cut_cut}
use Rattle.layout.proofs.Places.{slot_within}
use Rattle.layout.proofs.Scans.{no_rows, last_outside, last_within}
use Rattle.opening.specs.declared.slots.Slots.{Slots}
use Rattle.opening.specs.Scans.{every_in}
use Rattle.opening.specs.Slotted.{slot_count, slot_number}
use Rattle.opening.proofs.Flagged.{scanned}

-- slot r of those that were cut out
pub slot_cut : (bs : List ℕ) (w : ℕ) (n : Node) (count r : ℕ) → r < count
    → cut (r * w) w (cut (n.slots + n.from * w) (n.slots + n.from * w + count * w - (n.slots + n.from * w)) bs) ≡ slot_at bs w n r
slot_cut bs w n count r l =
    let start : ℕ = n.slots + n.from * w in
    let inside = slot_within 0 r count w w (count * w) refl l (omega arith) in
    let p : start + r * w ≡ n.slots + (n.from + r) * w = rw add-mul (omega arith) in
    cut_cut (r * w) w start (start + count * w - start) bs (omega arith) ∙ ap (λ (q : ℕ). cut q w bs) p

module _ (s : Slots) (bs : List ℕ) (w : ℕ) (n : Node) (at : (r : ℕ) → r < slot_count s → slot_number s r ≡ unle (slot_at bs w n r)) where
  -- what is tested of offsets: none falls, and the last is natural and at most a number
  pub offsets_tell : (most half : ℕ) → 2 * half ≡ 256 ^ w → n.slots + (n.from + n.rows + 1) * w ≤ length bs → slot_count s ≡ n.rows + 1
      → (eqb n.rows 0 || (ltb (slot_number s n.rows) half && (leb (slot_number s n.rows) most && every_in (slot_count s - 1) (λ k. leb (slot_number s k) (slot_number s (k + 1))))))
      ≡ rises_to bs w n most
  offsets_tell most half h within e =
      let last : ℕ = slot_number s n.rows in
      let last_is : last ≡ unle (slot_at bs w n n.rows) = at n.rows (omega arith) in
      elim (cases_eq n.rows 0) [
        | inl z ↦ let t = eq-eqb n.rows 0 z in rw t (no_rows bs w n most z)
        | inr some ↦
            (let t = ne_eqb n.rows 0 some in
            elim (cases_lt last half) [
              | inl small ↦
                  (elim (cases_lt most last) [
                    | inl past ↦ rw (t, lt-ltb last half small, lt-leb last most past) (last_outside bs w n most half h some within last last_is (inr past))
                    | inr low ↦
                        (let m : slot_count s - 1 ≡ n.rows = omega arith in
                        rw (t, lt-ltb last half small, le-leb last most low, m)
                        (scanned n.rows (λ k. leb (slot_number s k) (slot_number s (k + 1)))
                        ∙ every_same n.rows (λ k. leb (slot_number s k) (slot_number s (k + 1))) (λ r. leb (unle (slot_at bs w n r)) (unle (slot_at bs w n (r + 1))))
                        (λ k l. ap₂ leb (at k (omega arith)) (at (k + 1) (omega arith)))
                        ∙ last_within bs w n most half h some within last last_is small low))
                  ])
              | inr negative ↦ rw (t, le-ltb last half negative) (last_outside bs w n most half h some within last last_is (inl negative))
            ])
      ]

  -- no key passes a bound
  pub below_is : (rows b : ℕ) → slot_count s ≡ rows → every_in (slot_count s) (λ k. ltb (slot_number s k) b) ≡ every rows (λ r. ltb (unle (slot_at bs w n r)) b)
  below_is rows b e =
      scanned (slot_count s) (λ k. ltb (slot_number s k) b)
      ∙ every_same (slot_count s) (λ k. ltb (slot_number s k) b) (λ r. ltb (unle (slot_at bs w n r)) b) (λ k l. ap (λ (x : ℕ). ltb x b) (at k l))
      ∙ ap (λ (m : ℕ). every m (λ r. ltb (unle (slot_at bs w n r)) b)) e

  -- of those whose bit is 1
  pub marked_is : (marks : BitSlice) (b place : ℕ) → slot_count s ≡ n.rows → AreBits n bs place marks
      → every marks.len (λ k. not (bit_in marks k) || ltb (slot_number s k) b) ≡ every n.rows (λ r. not (bit_at (drop place bs) (n.from + r)) || ltb (unle (slot_at bs w n r)) b)
  marked_is marks b place e (bytes, first, len) =
      ap (λ (m : ℕ). every m (λ k. not (bit_in marks k) || ltb (slot_number s k) b)) len
      ∙ every_same n.rows (λ k. not (bit_in marks k) || ltb (slot_number s k) b) (λ r. not (bit_at (drop place bs) (n.from + r)) || ltb (unle (slot_at bs w n r)) b)
      (λ k l. ap₂ (λ (m x : Bool). not m || x) (ap₂ (λ (m : List ℕ) (f : ℕ). bit_at m (f + k)) bytes first) (ap (λ (x : ℕ). ltb x b) (at k (omega arith))))
