-- The buffers stand end to end, each padded to the alignment.
use Rattle.std.proofs.Common.{◌≡◌, ℕ, zero, suc, ◌+◌, ◌-◌, ◌*◌, ◌/◌, ◌%◌, ◌<◌, ◌≤◌, ◌⊎◌, List, [], ◌∷◌, map, length, get_or, take, refl, ap, ◌∙◌, inl, inr, le_of_suc-le-suc, not-suc-le-zero, mod-lt, mod-eq_of_lt, arith, length-append}
use native.Mathlib.Nat.{mod_self, div-add-mod, mul-mod_right, add-mod_right}
use lib.ListN.{length-replicate}
use Rattle.layout.specs.Lists.{total}
use Rattle.laws.specs.Sizes.{padded_lengths, EndToEnd, Padded}
use Rattle.layout.specs.Messages.{BufferRecord, padded, records, body}

lengths_are : (al at : ℕ) (bs : List (List ℕ)) → map (λ (r : BufferRecord). r.length) (records al at bs) ≡ map length bs
lengths_are al at [] = refl
lengths_are al at (b ∷ bs) = ap {B = List ℕ} (λ ns. length b ∷ ns) (lengths_are al (at + padded al (length b)) bs)

offset_is : (al at : ℕ) (bs : List (List ℕ)) (k : ℕ) (d : BufferRecord) → k < length bs
    → (get_or (records al at bs) k d).offset ≡ at + total (take k (padded_lengths al (records al at bs)))
offset_is al at [] k d h = absurd (not-suc-le-zero h)
offset_is al at (b ∷ bs) zero d h = omega arith
offset_is al at (b ∷ bs) (suc k) d h = offset_is al (at + padded al (length b)) bs k d (le_of_suc-le-suc h) ∙ omega arith

whole_is : (al at : ℕ) (bs : List (List ℕ)) → length (body al bs) ≡ total (padded_lengths al (records al at bs))
whole_is al at [] = refl
whole_is al at (b ∷ bs) =
    simp (length-append, length-replicate) (omega (arith, whole_is al (at + padded al (length b)) bs))

-- what is left of n by al
cases : (al m : ℕ) → 0 < al → m < al → (m ≡ 0) ⊎ ((al - m) % al ≡ al - m)
cases al zero p h = inl refl
cases al (suc m) p h = inr (mod-eq_of_lt (omega arith))

pub paddings : (al n : ℕ) → 0 < al → Padded al n
paddings al n p =
    let h : n % al < al = mod-lt n p in
    let e : al * (n / al) + n % al ≡ n = div-add-mod n al in
    go (cases al (n % al) p h) h e
  where
    go : ((n % al ≡ 0) ⊎ ((al - n % al) % al ≡ al - n % al)) → n % al < al → al * (n / al) + n % al ≡ n → Padded al n
    go (inl z) h e =
        let q : (al - n % al) % al ≡ 0 = ap (λ (x : ℕ). (al - x) % al) z ∙ ap (λ (x : ℕ). x % al) (omega arith) ∙ mod_self al in
        let s : padded al n ≡ n = omega arith in
        record { multiple = ap (λ (x : ℕ). x % al) s ∙ z; long = omega arith; least = omega arith }
    go (inr q) h e =
        let s : padded al n ≡ al * (n / al) + al = omega arith in
        record { multiple = ap (λ (x : ℕ). x % al) s ∙ add-mod_right (al * (n / al)) al ∙ mul-mod_right al (n / al); long = omega arith; least = omega (arith, mod-lt (al - n % al) p) }

-- a later buffer starts after an earlier one ends
apart_is : (al at : ℕ) (bs : List (List ℕ)) (k j : ℕ) (d : BufferRecord) → k < j → j < length bs
    → (get_or (records al at bs) k d).offset + (get_or (records al at bs) k d).length ≤ (get_or (records al at bs) j d).offset
apart_is al at [] k j d l h = absurd (not-suc-le-zero h)
apart_is al at (b ∷ bs) k zero d l h = absurd (not-suc-le-zero l)
apart_is al at (b ∷ bs) zero (suc j) d l h = omega (arith, offset_is al (at + padded al (length b)) bs j d (le_of_suc-le-suc h))
apart_is al at (b ∷ bs) (suc k) (suc j) d l h = apart_is al (at + padded al (length b)) bs k j d (le_of_suc-le-suc l) (le_of_suc-le-suc h)

last_is : (al at : ℕ) (bs : List (List ℕ)) (k : ℕ) (d : BufferRecord) → suc k ≡ length bs
    → (get_or (records al at bs) k d).offset + padded al (get_or (records al at bs) k d).length ≡ at + length (body al bs)
last_is al at [] k d h = absurd (omega arith)
last_is al at (b ∷ []) zero d h = simp (length-append, length-replicate) (omega arith)
last_is al at (b ∷ []) (suc k) d h = absurd (omega arith)
last_is al at (b ∷ (e ∷ bs)) zero d h = absurd (omega arith)
last_is al at (b ∷ (e ∷ bs)) (suc k) d h =
    last_is al (at + padded al (length b)) (e ∷ bs) k d (omega arith) ∙ simp (length-append, length-replicate) (omega arith)

pub end_to_end_lem : (al : ℕ) (bs : List (List ℕ)) → EndToEnd al bs
end_to_end_lem al bs = record {
  lengths = lengths_are al 0 bs;
  offset = λ k d h. offset_is al 0 bs k d h ∙ omega arith;
  apart = apart_is al 0 bs;
  last = λ k d h. last_is al 0 bs k d h ∙ omega arith;
  whole = whole_is al 0 bs;
}
