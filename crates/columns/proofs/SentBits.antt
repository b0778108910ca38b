-- Bits that are sent.
use Rattle.std.proofs.Common.{◌≡◌, ℕ, zero, suc, ◌+◌, ◌-◌, ◌*◌, ◌/◌, ◌%◌, ◌^◌, ◌<◌, ◌≤◌, Bool, true, false, cond, List, [], ◌∷◌, ◌++◌, length, get_or, get_or-take, get_or-drop, take, drop, slice_set, slice_index, eqb, sym, ap, ◌∙◌, arith}
use Rattle.std.proofs.lemmas.List.{append-nil, take_more_set, drop_all}
use Rattle.layout.specs.declared.bit.BitSlice.{BitSlice}
use Rattle.std.proofs.lemmas.Bool.{ne_eqb}
use Rattle.layout.specs.Bits.{bit_at, bytes_for, byte_of, pack}
use Rattle.layout.specs.BitSlices.{bit_in, bits_in}
use Rattle.layout.specs.Lists.{rows, cut}
use Rattle.layout.specs.Messages.{bit_bytes}
use Rattle.layout.proofs.Bytes.{byte_read}
use Rattle.layout.proofs.Lists.{rows_same, length-rows}
use Rattle.laws.specs.Places.{Below}
use Rattle.laws.proofs.Lists.{rows_add}
use Rattle.columns.specs.Bits.{bits_of, two_bytes}

-- ---- one more written

-- the first i are written, and the next
pub written_more : {X : Type 0} (xs ys : List X) (i : ℕ) (y : X) → take i xs ≡ ys → i < length xs → take (i + 1) (slice_set xs i y) ≡ ys ++ y ∷ []
written_more xs ys i y e l = take_more_set xs i y l ∙ ap (λ (zs : List _). zs ++ y ∷ []) e

pub rows_more : {X : Type 0} (i : ℕ) (f : ℕ → X) → rows i f ++ f i ∷ [] ≡ rows (i + 1) f
rows_more {X} i f = ap (λ (y : X). rows i f ++ y ∷ []) (ap f (omega arith)) ∙ rows_add i 1 f

pub row_written : {X : Type 0} (xs : List X) (i : ℕ) (f : ℕ → X) (y : X) → take i xs ≡ rows i f → i < length xs → y ≡ f i → take (i + 1) (slice_set xs i y) ≡ rows (i + 1) f
row_written {X} xs i f y e l h = written_more xs (rows i f) i y e l ∙ ap (λ (y : X). rows i f ++ y ∷ []) h ∙ rows_more i f

pub below_all : (k : ℕ) (bs : List ℕ) → ((i : ℕ) → i < length bs → get_or bs i 0 < k) → Below k bs
below_all k [] h = tt
below_all k (b ∷ bs) h = (h 0 (omega arith), below_all k bs (λ i l. h (suc i) (omega arith)))

-- ---- bits as bytes

no_spare : (t : Bool) (n : ℕ) (f : ℕ → Bool) (bs : List Bool) → t ≡ false → pack (bs ++ rows (cond t n 0) f) ≡ pack bs
no_spare true n f bs e = cc
no_spare false n f bs e = ap pack (append-nil bs)

module _ (s : BitSlice) where
  -- byte i of the bits
  abbrev pub byte : ℕ → ℕ
  byte i = byte_of (cut (8 * i) 8 (bits_in s))

  -- bits that begin within a byte have no spare bits
  pub shifted : 0 < s.first % 8 → rows (bytes_for s.len) byte ≡ bit_bytes (bits_of s)
  shifted l =
      ap (λ (n : ℕ). rows (bytes_for n) byte) (sym (length-rows s.len (bit_in s)))
      ∙ sym (no_spare (eqb (s.first % 8) 0) (8 * bytes_for s.len - s.len) (λ r. bit_at s.bytes.now (s.first + s.len + r)) (bits_in s) (ne_eqb (s.first % 8) 0 (λ e. omega arith)))

  -- those of whole bytes, by two bytes each
  pub byte_shifted : (bs : List ℕ) (n i : ℕ) → bs ≡ cut (s.first / 8) n s.bytes.now → i + 1 < n → 8 * i + 8 ≤ s.len → ((k : ℕ) → slice_index bs k < 256)
      → two_bytes bs i / 2 ^ (s.first % 8) % 256 ≡ byte i
  byte_shifted bs n i e l m small =
      let at : ℕ = s.first / 8 in
      let q : (s.first + 8 * i) / 8 ≡ at + i = omega arith in
      let r : (s.first + 8 * i) % 8 ≡ s.first % 8 = omega arith in
      let there : (k : ℕ) → k < n → get_or bs k 0 ≡ get_or s.bytes.now (at + k) 0 = λ k h. ap (λ (xs : List ℕ). get_or xs k 0) e ∙ get_or-take n (drop at s.bytes.now) k 0 h ∙ get_or-drop at s.bytes.now k 0 in
      sym (ap (λ (k : ℕ). two_bytes bs i / 2 ^ k % 256) r)
      ∙ byte_read s i (omega arith) (get_or bs i 0) (get_or bs (i + 1) 0) 8 (small i)
      (there i (omega arith) ∙ ap (λ (k : ℕ). get_or s.bytes.now k 0) (sym q))
      (there (i + 1) l ∙ ap (λ (k : ℕ). get_or s.bytes.now k 0) (omega (arith, q)))
      (omega arith)

  -- so all of them
  pub bytes_shifted : (bs : List ℕ) (m k n : ℕ) → bs ≡ take k (drop (s.first / 8) s.bytes.now) → k ≡ n + 1 → m ≡ n → 8 * n ≤ s.len → ((k : ℕ) → slice_index bs k < 256)
      → rows m (λ i. two_bytes bs i / 2 ^ (s.first % 8) % 256) ≡ rows n byte
  bytes_shifted bs m k n e long same l small =
      ap (λ (m : ℕ). rows m (λ i. two_bytes bs i / 2 ^ (s.first % 8) % 256)) same
      ∙ rows_same n (λ i. two_bytes bs i / 2 ^ (s.first % 8) % 256) byte (λ i h. byte_shifted bs k i e (omega arith) (omega arith) small)

-- the last byte after whole ones
pub row_last : (n : ℕ) (f : ℕ → ℕ) (out : List ℕ) (y : ℕ) → length out ≡ n + 1 → y ≡ f n → slice_set (rows n f ++ drop n out) n y ≡ rows (n + 1) f
row_last n f [] y l e = absurd (omega arith)
row_last zero f (x ∷ []) y l e = ap (λ (y : ℕ). y ∷ []) e
row_last zero f (x ∷ z ∷ out) y l e = absurd (omega arith)
row_last (suc n) f (x ∷ out) y l e =
    let next : suc n + 1 ≡ suc (n + 1) = omega arith in
    ap (λ (ys : List ℕ). f 0 ∷ ys) (row_last n (λ i. f (suc i)) out y (omega arith) e) ∙ ap (λ (k : ℕ). rows k f) (sym next)

-- and none after them
pub row_whole : (n : ℕ) (xs out : List ℕ) → length out ≤ n → xs ++ drop n out ≡ xs
row_whole n xs out l = ap (λ (ys : List ℕ). xs ++ ys) (drop_all n out l) ∙ append-nil xs
