-- Bits that are read eight at a time.
use Rattle.std.proofs.Common.{◌≡◌, ℕ, zero, suc, ◌+◌, ◌-◌, ◌*◌, ◌/◌, ◌%◌, ◌^◌, ◌<◌, ◌≤◌, min, Bool, false, cond, eqb, ltb, mul_comm, div-add-mod', mod-lt, List, [], ◌∷◌, length, pow-suc, pow_mono, get_or, drop, sym, refl, ap, ap₂, ◌∙◌, inl, inr, arith, get_or-drop, get_or-take}
use mir.Val.{bool_byte}
use Rattle.std.specs.Int as int
use Rattle.std.proofs.lemmas.Nat.{pow_pos, shr-shr}
use Rattle.std.proofs.lemmas.Bool.{cases_lt, lt-ltb, le-ltb}
use Rattle.std.proofs.lemmas.List.{get_or_past, length-take}
use Rattle.std.proofs.lemmas.Nat.Bits.{same_from_bits_below, bit_at_above, bit_at_cat_low, bit_at_cat_high}
use Rattle.layout.specs.declared.bit.BitSlice.{BitSlice}
use Rattle.layout.specs.Bits.{bit_of, byte_of, bytes_for}
use Rattle.layout.specs.BitSlices.{bit_in, bits_in}
use Rattle.layout.specs.Lists.{cut, rows}
use Rattle.layout.proofs.Bits.{byte_bit, one_at_most}
use Rattle.layout.proofs.Lists.{rows_same, get_or_rows, length-rows}

-- a bit as a number
as_number : (x i : ℕ) → int.bit_at x i ≡ bool_byte (bit_of x i)
as_number x i = by (x / 2 ^ i % 2) (omega arith)
  where
    by : (b : ℕ) → b < 2 → b ≡ bool_byte (eqb b 1)
    by zero l = refl
    by (suc zero) l = refl
    by (suc (suc b)) l = absurd (omega arith)

-- bytes with the same bits
pub same_byte : (x y : ℕ) → x < 256 → y < 256 → ((k : ℕ) → k < 8 → bit_of x k ≡ bit_of y k) → x ≡ y
same_byte x y a b each = same_from_bits_below 8 x y a b (λ k l. as_number x k ∙ ap bool_byte (each k l) ∙ sym (as_number y k))

-- bit k of two bytes from bit s on
of_two : (low next s k : ℕ) → low < 256 → s < 8 → k < 8 → bit_of ((low + next * 256) / 2 ^ s) k ≡ cond (ltb (s + k) 8) (bit_of low (s + k)) (bit_of next (s + k - 8))
of_two low next s k l a b =
    let turned : low + next * 256 ≡ next * 2 ^ 8 + low = omega arith in
    let whole : int.bit_at ((low + next * 256) / 2 ^ s) k ≡ int.bit_at (next * 2 ^ 8 + low) (s + k) = ap (λ (x : ℕ). x % 2) (shr-shr (low + next * 256) s k) ∙ ap (λ (x : ℕ). int.bit_at x (s + k)) turned in
    elim (cases_lt (s + k) 8) [
      | inl m ↦ rw (lt-ltb (s + k) 8 m) (ap (λ (x : ℕ). eqb x 1) (whole ∙ bit_at_cat_low next 8 low (s + k) m))
      | inr m ↦ rw (le-ltb (s + k) 8 m) (ap (λ (x : ℕ). eqb x 1) (whole ∙ bit_at_cat_high next 8 low (s + k) l m))
    ]

-- the lowest c bits of a number
lowest : (x c k : ℕ) → k < c → bit_of (x % 2 ^ c) k ≡ bit_of x k
lowest x c k l =
    let whole : x / 2 ^ c * 2 ^ c + x % 2 ^ c ≡ x = omega (arith, div-add-mod' x (2 ^ c), mul_comm (2 ^ c) (x / 2 ^ c)) in
    ap (λ (x : ℕ). eqb x 1) (sym (bit_at_cat_low (x / 2 ^ c) c (x % 2 ^ c) k l) ∙ ap (λ (x : ℕ). int.bit_at x k) whole)

no_more : (x c k : ℕ) → c ≤ k → bit_of (x % 2 ^ c) k ≡ false
no_more x c k l = ap (λ (x : ℕ). eqb x 1) (bit_at_above (x % 2 ^ c) c k (mod-lt x (pow_pos c)) l)

-- the byte of at most eight bits is one
bits_small : (bs : List Bool) → byte_of bs < 2 ^ length bs
bits_small [] = omega arith
bits_small (b ∷ bs) = omega (arith, bits_small bs, pow-suc 2 (length bs), one_at_most b)

pub byte_small : (k : ℕ) (bs : List Bool) → byte_of (cut k 8 bs) < 256
byte_small k bs = omega (arith, bits_small (cut k 8 bs), pow_mono {i = length (cut k 8 bs)} {j = 8} (omega (arith, length-take 8 (drop k bs))))

module _ (s : BitSlice) (i : ℕ) (here : 8 * i < s.len) where
  abbrev place : ℕ
  place = s.first + 8 * i

  -- bit k of them in the two bytes that it may be in
  bit_there : (k : ℕ) → k < 8
      → cond (ltb (place % 8 + k) 8) (bit_of (get_or s.bytes.now (place / 8) 0) (place % 8 + k)) (bit_of (get_or s.bytes.now (place / 8 + 1) 0) (place % 8 + k - 8)) ≡ bit_in s (8 * i + k)
  bit_there k l = elim (cases_lt (place % 8 + k) 8) [
    | inl m ↦
        rw (lt-ltb (place % 8 + k) 8 m)
        (ap₂ (λ (b j : ℕ). bit_of (get_or s.bytes.now b 0) j) {x = place / 8} {y = (s.first + (8 * i + k)) / 8} (omega arith) (omega arith))
    | inr m ↦
        rw (le-ltb (place % 8 + k) 8 m)
        (ap₂ (λ (b j : ℕ). bit_of (get_or s.bytes.now b 0) j) {x = place / 8 + 1} {y = (s.first + (8 * i + k)) / 8} (omega arith) (omega arith))
  ]

  bit_of_byte : (k : ℕ) → k < 8 → bit_of (byte_of (cut (8 * i) 8 (bits_in s))) k ≡ get_or (bits_in s) (8 * i + k) false
  bit_of_byte k l = byte_bit (cut (8 * i) 8 (bits_in s)) k ∙ get_or-take 8 (drop (8 * i) (bits_in s)) k false l ∙ get_or-drop (8 * i) (bits_in s) k false

  pub byte_read : (low next c : ℕ) → low < 256 → low ≡ get_or s.bytes.now (place / 8) 0 → next ≡ get_or s.bytes.now (place / 8 + 1) 0 → c ≡ min (s.len - 8 * i) 8
      → (low + next * 256) / 2 ^ (place % 8) % 2 ^ c ≡ byte_of (cut (8 * i) 8 (bits_in s))
  byte_read low next c l e f m = same_byte _ _ small (byte_small (8 * i) (bits_in s)) each
    where
      small : (low + next * 256) / 2 ^ (place % 8) % 2 ^ c < 256
      small = omega (arith, mod-lt ((low + next * 256) / 2 ^ (place % 8)) (pow_pos c), pow_mono {i = c} {j = 8} (omega arith))

      each : (k : ℕ) → k < 8 → bit_of ((low + next * 256) / 2 ^ (place % 8) % 2 ^ c) k ≡ bit_of (byte_of (cut (8 * i) 8 (bits_in s))) k
      each k h = elim (cases_lt k c) [
        | inl n ↦
            lowest ((low + next * 256) / 2 ^ (place % 8)) c k n
            ∙ of_two low next (place % 8) k l (omega arith) h
            ∙ ap₂ (λ (x y : ℕ). cond (ltb (place % 8 + k) 8) (bit_of x (place % 8 + k)) (bit_of y (place % 8 + k - 8))) e f
            ∙ bit_there k h
            ∙ sym (get_or_rows s.len (bit_in s) (8 * i + k) false (omega arith))
            ∙ sym (bit_of_byte k h)
        | inr n ↦
            no_more ((low + next * 256) / 2 ^ (place % 8)) c k n
            ∙ sym (get_or_past (bits_in s) (8 * i + k) false (omega (arith, length-rows s.len (bit_in s))))
            ∙ sym (bit_of_byte k h)
      ]

-- a bit by the byte that it is in
pub bit_by_byte : (s : BitSlice) (r : ℕ) → r < s.len → bit_in s r ≡ bit_of (byte_of (cut (8 * (r / 8)) 8 (bits_in s))) (r % 8)
bit_by_byte s r l =
    let at : 8 * (r / 8) + r % 8 ≡ r = omega arith in
    sym (bit_of_byte s (r / 8) (omega arith) (r % 8) (omega arith) ∙ ap (λ (i : ℕ). get_or (bits_in s) i false) at ∙ get_or_rows s.len (bit_in s) r false l)

-- so slices with the same bytes have the same bits
module _ (a b : BitSlice) (len : a.len ≡ b.len) where
  pub bits_by_bytes : ((i : ℕ) → i < bytes_for a.len → byte_of (cut (8 * i) 8 (bits_in a)) ≡ byte_of (cut (8 * i) 8 (bits_in b))) → (r : ℕ) → r < a.len → bit_in a r ≡ bit_in b r
  bits_by_bytes same r l = bit_by_byte a r l ∙ ap (λ (x : ℕ). bit_of x (r % 8)) (same (r / 8) (omega arith)) ∙ sym (bit_by_byte b r (omega arith))

  pub bytes_by_bits : ((r : ℕ) → r < a.len → bit_in a r ≡ bit_in b r) → (i : ℕ) → byte_of (cut (8 * i) 8 (bits_in a)) ≡ byte_of (cut (8 * i) 8 (bits_in b))
  bytes_by_bits same i =
      ap (λ (bs : List Bool). byte_of (cut (8 * i) 8 bs))
      (rows_same a.len (bit_in a) (bit_in b) same ∙ ap (λ (n : ℕ). rows n (bit_in b)) len)
