-- Eight rows to a byte of a bitmap.
use Rattle.std.proofs.Common.{◌≡◌, ℕ, zero, suc, ◌+◌, ◌*◌, ◌/◌, ◌%◌, ◌^◌, ◌<◌, ◌≤◌, Bool, true, [], ◌∷◌, not, ◌&&◌, ◌||◌, eqb, ltb, leb, get_or, refl, sym, ap, ◌∙◌, ap₂, arith}
use Rattle.std.specs.Int.Bits.{bit_and, bit_or, or_shifted_r}
use Rattle.std.specs.List.{fold, range_with_len}
use mir.Val.{bool_byte}
use native.Mathlib.Numerals.{unary_clauses}
use Rattle.std.proofs.lemmas.Nat.{shl_whole}
use Rattle.std.proofs.lemmas.Bool.Decides.{nat_tests}
use Rattle.layout.specs.Bits.{bit_of}
use Rattle.layout.specs.Lists.{every}
use Rattle.layout.proofs.Bits.{flags, flags_small, flags_masked, one_at_most}
use Rattle.layout.proofs.Every.{turned, every_add, every_same}
use Rattle.std.proofs.iter.Rest.{range_with_len_last}
use Rattle.std.proofs.lemmas.List.Sums.{fold-append}
use Rattle.opening.specs.declared.keys.Keys.{Keys}
use Rattle.opening.specs.KeyScans.{marked_below}
use Rattle.opening.specs.Scans.{every_in, flagged}
use Rattle.opening.specs.Slotted.{slot_number}

-- ---- a flag more

small_flag : (b : Bool) → bool_byte b < 2 ^ 1
small_flag b = omega (arith, one_at_most b)

flags_more : (n : ℕ) (f : ℕ → Bool) → n < 8 → bit_or (flags n f) ((bool_byte (f n) * 2 ^ n) % 256) ≡ flags (suc n) f
flags_more n f l =
    let w : (bool_byte (f n) * 2 ^ n) % 256 ≡ bool_byte (f n) * 2 ^ n = shl_whole (bool_byte (f n)) 1 n 8 (small_flag (f n)) (omega arith) in
    rw w (omega (arith, or_shifted_r (bool_byte (f n)) n (flags n f) (flags_small n f)))

flags_from : (m k : ℕ) (f : ℕ → Bool) (over : ℕ) → over ≡ flags k f → k + m ≤ 8 → fold (flagged f) over (range_with_len k m) ≡ flags (k + m) f
flags_from zero k f over e l = e ∙ ap (λ (n : ℕ). flags n f) (omega arith)
flags_from (suc m) k f over e l =
    let one : k + 1 ≡ suc k = omega arith in
    flags_from m (k + 1) f (flagged f over k) (ap (λ (o : ℕ). flagged f o k) e ∙ flags_more k f (omega arith) ∙ ap (λ (n : ℕ). flags n f) (sym one)) (omega arith)
    ∙ ap (λ (n : ℕ). flags n f) (omega arith)

pub flags_fold : (f : ℕ → Bool) → fold (flagged f) 0 (range_with_len 0 8) ≡ flags 8 f
flags_fold f = flags_from 8 0 f 0 refl (omega arith)

-- ---- a byte more

unlike : (b x : ℕ) → not (leb b x) ≡ ltb x b
unlike b x = grind (arith, nat_tests)

-- the valid ones of the eight rows of a byte
pub byte_tells : (keys : Keys) (from n : ℕ) → (keys.marks.first + from) % 8 ≡ 0 → n ≡ fold (flagged (λ t. leb keys.bound (slot_number keys.slots (from + t)))) 0 (range_with_len 0 8)
    → eqb (bit_and n (get_or keys.marks.bytes.now ((keys.marks.first + from) / 8) 0)) 0 ≡ every 8 (λ t. marked_below keys (from + t))
byte_tells keys from n whole h =
    let j : ℕ = (keys.marks.first + from) / 8 in
    let byte : ℕ = get_or keys.marks.bytes.now j 0 in
    let over : ℕ → Bool = λ t. leb keys.bound (slot_number keys.slots (from + t)) in
    let same : (t : ℕ) → t < 8 → (not (bit_of byte t) || not (over t)) ≡ marked_below keys (from + t) =
    λ t l.
    (let q : j ≡ (keys.marks.first + (from + t)) / 8 = omega arith in
    let r : t ≡ (keys.marks.first + (from + t)) % 8 = omega arith in
    ap₂ (λ (b x : Bool). not b || x)
    (ap₂ (λ (j m : ℕ). bit_of (get_or keys.marks.bytes.now j 0) m) q r)
    (unlike keys.bound (slot_number keys.slots (from + t)))) in
    ap (λ (n : ℕ). eqb (bit_and n byte) 0) (h ∙ flags_fold over)
    ∙ flags_masked 8 over byte
    ∙ every_same 8 (λ t. not (bit_of byte t) || not (over t)) (λ t. marked_below keys (from + t)) same

-- eight rows at a time
every_eights : (n from : ℕ) (p : ℕ → Bool) → every n (λ j. every 8 (λ t. p (from + 8 * j + t))) ≡ every (8 * n) (λ k. p (from + k))
every_eights zero from p = refl
every_eights (suc n) from p =
    let m : 8 * suc n ≡ 8 * n + 8 = omega arith in
    ap₂ ◌&&◌ (every_same 8 (λ t. p (from + 8 * n + t)) (λ t. p (from + (8 * n + t))) (λ t l. ap p (omega arith))) (every_eights n from p)
    ∙ turned (every 8 (λ t. p (from + (8 * n + t)))) (every (8 * n) (λ k. p (from + k)))
    ∙ sym (every_add (8 * n) 8 (λ k. p (from + k)))
    ∙ ap (λ (m : ℕ). every m (λ k. p (from + k))) (sym m)

-- a scan from the first on
pub scanned : (n : ℕ) (p : ℕ → Bool) → every_in n p ≡ every n p
scanned zero p = refl
scanned (suc n) p =
    let g : Bool → ℕ → Bool = λ ok k. ok && p k in
    ap (fold g true) (simp unary_clauses at (range_with_len_last 0 (suc n) (omega arith)))
    ∙ fold-append g true (range_with_len 0 n) (n ∷ [])
    ∙ ap (λ (b : Bool). b && p n) (scanned n p)
    ∙ turned (every n p) (p n)

-- all rows, in three parts
pub joined : (p : ℕ → Bool) (a w c n : ℕ) → a + 8 * w + c ≡ n
    → (every_in a (λ k. p (0 + k)) && (every_in w (λ j. every 8 (λ t. p (a + 8 * j + t))) && every_in c (λ k. p (a + 8 * w + k)))) ≡ every n p
joined p a w c n e =
    let b : ℕ = 8 * w in
    let f : n ≡ a + (b + c) = omega arith in
    let whole : every_in w (λ j. every 8 (λ t. p (a + 8 * j + t))) ≡ every b (λ k. p (a + k)) = scanned w (λ j. every 8 (λ t. p (a + 8 * j + t))) ∙ every_eights w a p in
    ap₂ ◌&&◌
    (scanned a (λ k. p (0 + k)) ∙ every_same a (λ k. p (0 + k)) p (λ k l. ap p (omega arith)))
    (ap₂ ◌&&◌ whole
    (scanned c (λ k. p (a + b + k)) ∙ every_same c (λ k. p (a + b + k)) (λ k. p (a + (b + k))) (λ k l. ap p (omega arith)))
    ∙ sym (every_add b c (λ k. p (a + k))))
    ∙ sym (every_add a (b + c) p)
    ∙ ap (λ (m : ℕ). every m p) (sym f)
