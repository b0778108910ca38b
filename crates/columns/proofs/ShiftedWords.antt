-- Bits that are shifted down by words.
use Rattle.std.proofs.Common.{◌≡◌, ℕ, zero, suc, ◌+◌, ◌-◌, ◌*◌, ◌/◌, ◌%◌, ◌^◌, ◌<◌, ◌≤◌, List, [], ◌∷◌, ◌++◌, length, get_or, get_or-take, get_or-drop, take, drop, slice_index, sym, refl, ap, ap₂, ◌∙◌, subst, pow-suc, arith}
use Rattle.std.proofs.Math.Nat.{add-mul-div_left, add-mul-mod_self_left, add-mod-mod, mod-add-div, div-div-eq-div-mul, zero-div}
use Rattle.std.proofs.Math.Seq.{take-add}
use Rattle.std.proofs.lemmas.Nat.{pow-add, pow_pos}
use Rattle.std.proofs.lemmas.List.{length-take-le, length-drop, take_all, drop-drop}
use Rattle.layout.specs.Lists.{rows, cut}
use Rattle.layout.specs.Numbers.{unle, le, le_all}
use Rattle.layout.proofs.Lists.{rows_same}
use Rattle.laws.proofs.Lists.{rows_add}
use Rattle.columns.specs.Bits.{two_bytes}
use Rattle.columns.proofs.SentOffsets.{le_all_more}

-- word i and the one after it, shifted down
abbrev pub shifted_word : List ℕ → ℕ → ℕ → ℕ
shifted_word bs s i = (unle (cut (i * 8) 8 bs) / 2 ^ s + unle (cut (i * 8 + 8) 8 bs) * 2 ^ (64 - s) % 2 ^ 64) % 2 ^ 64

-- ---- numbers and their bytes

unle_both : (xs ys : List ℕ) → unle (xs ++ ys) ≡ unle xs + 256 ^ length xs * unle ys
unle_both [] ys = omega arith
unle_both (x ∷ xs) ys =
    ap (λ (n : ℕ). x + 256 * n) (unle_both xs ys)
    ∙ omega (arith, ap (λ (p : ℕ). p * unle ys) (pow-suc 256 (length xs)))

-- what is past the bytes does not count
le_past : (w x y : ℕ) → le w (x + 256 ^ w * y) ≡ le w x
le_past zero x y = refl
le_past (suc w) x y =
    let e : x + 256 ^ suc w * y ≡ x + 256 * (256 ^ w * y) = omega (arith, ap (λ (p : ℕ). p * y) (pow-suc 256 w)) in
    ap (le (suc w)) e
    ∙ ap₂ (λ (b n : ℕ). b ∷ le w n) (add-mul-mod_self_left x 256 (256 ^ w * y)) (add-mul-div_left x (256 ^ w * y) {y = 256} (omega arith))
    ∙ ap (λ (bs : List ℕ). x % 256 ∷ bs) (le_past w (x / 256) y)

le_low : (n : ℕ) → le 8 (n % 2 ^ 64) ≡ le 8 n
le_low n = sym (le_past 8 (n % 2 ^ 64) (n / 2 ^ 64)) ∙ ap (le 8) (mod-add-div n (2 ^ 64))

powers : (s n : ℕ) → s ≤ n → 2 ^ s * 2 ^ (n - s) ≡ 2 ^ n
powers s n l =
    let sum : s + (n - s) ≡ n = omega arith in
    sym (pow-add 2 s (n - s)) ∙ ap (λ (k : ℕ). 2 ^ k) sum

taken_small : (n : ℕ) (bs : List ℕ) → ((i : ℕ) → slice_index bs i < 256) → (i : ℕ) → slice_index (take n bs) i < 256
taken_small zero bs small i = omega arith
taken_small (suc n) [] small i = omega arith
taken_small (suc n) (b ∷ bs) small zero = small 0
taken_small (suc n) (b ∷ bs) small (suc i) = taken_small n bs (λ k. small (suc k)) i

-- ---- a number that is shifted, byte by byte

module _ (s : ℕ) (few : s < 8) where
  -- the byte at the front has bits of two
  front : (b : ℕ) (bs : List ℕ) → (b + 256 * unle bs) / 2 ^ s % 256 ≡ two_bytes (b ∷ bs) 0 / 2 ^ s % 256
  front b [] = ap (λ (n : ℕ). n / 2 ^ s % 256) (omega arith)
  front b (c ∷ cs) =
      let q : 2 ^ s * 2 ^ (8 - s) ≡ 256 = powers s 8 (omega arith) in
      let e : b + 256 * (c + 256 * unle cs) ≡ (b + c * 256) + 2 ^ s * (256 * (2 ^ (8 - s) * unle cs)) = omega (arith, ap (λ (k : ℕ). k * unle cs) q) in
      ap (λ (n : ℕ). n / 2 ^ s % 256) e
      ∙ ap (λ (n : ℕ). n % 256) (add-mul-div_left (b + c * 256) (256 * (2 ^ (8 - s) * unle cs)) (pow_pos s))
      ∙ add-mul-mod_self_left ((b + c * 256) / 2 ^ s) 256 (2 ^ (8 - s) * unle cs)

  rest : (b n : ℕ) → b < 256 → (b + 256 * n) / 2 ^ s / 256 ≡ n / 2 ^ s
  rest b n l =
      let swap : 2 ^ s * 256 ≡ 256 * 2 ^ s = omega arith in
      let whole : (b + 256 * n) / 256 ≡ n = omega arith in
      div-div-eq-div-mul (b + 256 * n) (2 ^ s) 256 ∙ ap (λ (k : ℕ). (b + 256 * n) / k) swap ∙ sym (div-div-eq-div-mul (b + 256 * n) 256 (2 ^ s)) ∙ ap (λ (k : ℕ). k / 2 ^ s) whole

  shifted_bytes : (w : ℕ) (bs : List ℕ) → ((i : ℕ) → slice_index bs i < 256) → le w (unle bs / 2 ^ s) ≡ rows w (λ k. two_bytes bs k / 2 ^ s % 256)
  shifted_bytes zero bs small = refl
  shifted_bytes (suc w) [] small =
      ap₂ (λ (b n : ℕ). b ∷ le w n) refl (ap (λ (n : ℕ). n / 256) (zero-div (2 ^ s)) ∙ sym (zero-div (2 ^ s)))
      ∙ ap (λ (bs : List ℕ). 0 / 2 ^ s % 256 ∷ bs) (shifted_bytes w [] small)
  shifted_bytes (suc w) (b ∷ bs) small =
      ap₂ (λ (b n : ℕ). b ∷ le w n) (front b bs) (rest b (unle bs) (small 0))
      ∙ ap (λ (xs : List ℕ). two_bytes (b ∷ bs) 0 / 2 ^ s % 256 ∷ xs) (shifted_bytes w bs (λ i. small (suc i)) ∙ rows_same w (λ k. two_bytes bs k / 2 ^ s % 256) (λ k. two_bytes (b ∷ bs) (suc k) / 2 ^ s % 256) (λ k l. moved k))
    where
      moved : (k : ℕ) → two_bytes bs k / 2 ^ s % 256 ≡ two_bytes (b ∷ bs) (suc k) / 2 ^ s % 256
      moved k =
          let e : suc (k + 1) ≡ suc k + 1 = omega arith in
          ap (λ (n : ℕ). (get_or bs k 0 + get_or (b ∷ bs) n 0 * 256) / 2 ^ s % 256) e

-- ---- a word, and words

module _ (bs : List ℕ) (s : ℕ) (few : s < 8) (small : (i : ℕ) → slice_index bs i < 256) where
  abbrev row : ℕ → ℕ
  row i = two_bytes bs i / 2 ^ s % 256

  word : (i : ℕ) → i * 8 + 8 ≤ length bs → le 8 (shifted_word bs s i) ≡ rows 8 (λ k. row (i * 8 + k))
  word i l =
      let d : List ℕ = drop (i * 8) bs in
      let after : drop 8 d ≡ drop (i * 8 + 8) bs = drop-drop 8 (i * 8) bs ∙ ap (λ (n : ℕ). drop n bs) (omega arith) in
      let low : ℕ = unle (take 8 d) in
      let high : ℕ = unle (take 8 (drop (i * 8 + 8) bs)) in
      let long : length (take 8 d) ≡ 8 = length-take-le 8 d (omega (arith, length-drop (i * 8) bs)) in
      let both : unle (take 16 d) ≡ low + 256 ^ 8 * high =
      ap unle (take-add 8 8 d) ∙ unle_both (take 8 d) (take 8 (drop 8 d)) ∙ ap₂ (λ (k : ℕ) (xs : List ℕ). low + 256 ^ k * unle (take 8 xs)) long after in
      let q : 2 ^ s * 2 ^ (64 - s) ≡ 2 ^ 64 = powers s 64 (omega arith) in
      let e : low + 256 ^ 8 * high ≡ low + 2 ^ s * (high * 2 ^ (64 - s)) = omega (arith, ap (λ (k : ℕ). k * high) q) in
      let there : (k : ℕ) → k < 16 → get_or (take 16 d) k 0 ≡ get_or bs (i * 8 + k) 0 = λ k h. get_or-take 16 d k 0 h ∙ get_or-drop (i * 8) bs k 0 in
      ap (le 8) (add-mod-mod (low / 2 ^ s) (high * 2 ^ (64 - s)) (2 ^ 64))
      ∙ le_low (low / 2 ^ s + high * 2 ^ (64 - s))
      ∙ ap (le 8) (sym (add-mul-div_left low (high * 2 ^ (64 - s)) (pow_pos s)) ∙ ap (λ (n : ℕ). n / 2 ^ s) (sym (both ∙ e)))
      ∙ shifted_bytes s few 8 (take 16 d) (taken_small 16 d (λ k. subst (λ (x : ℕ). x < 256) (sym (get_or-drop (i * 8) bs k 0)) (small (i * 8 + k))))
      ∙ rows_same 8 (λ k. two_bytes (take 16 d) k / 2 ^ s % 256) (λ k. row (i * 8 + k))
      (λ k h.
      let next : i * 8 + (k + 1) ≡ i * 8 + k + 1 = omega arith in
      ap₂ (λ (x y : ℕ). (x + y * 256) / 2 ^ s % 256) (there k (omega arith)) (there (k + 1) (omega arith) ∙ ap (λ (n : ℕ). get_or bs n 0) next))

  pub words_shifted : (n : ℕ) → n * 8 ≤ length bs → le_all 8 (rows n (shifted_word bs s)) ≡ rows (n * 8) row
  words_shifted zero l = refl
  words_shifted (suc n) l =
      let next : suc n ≡ n + 1 = omega arith in
      let last : n * 8 + 8 ≡ suc n * 8 = omega arith in
      ap (λ (k : ℕ). le_all 8 (rows k (shifted_word bs s))) next
      ∙ sym (le_all_more 8 n (shifted_word bs s))
      ∙ ap₂ (λ (xs ys : List ℕ). xs ++ ys) (words_shifted n (omega arith)) (word n (omega arith))
      ∙ rows_add (n * 8) 8 row
      ∙ ap (λ (k : ℕ). rows k row) last

pub word_read : (bs : List ℕ) (at k x : ℕ) → k ≡ length bs - at → x ≡ unle (take 8 (take k (drop at bs))) → x ≡ unle (cut at 8 bs)
word_read bs at k x size e = e ∙ ap (λ (ys : List ℕ). unle (take 8 ys)) (take_all k (drop at bs) (omega (arith, length-drop at bs)))
