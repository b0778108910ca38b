-- The table of kinds, read both ways.
use Rattle.std.proofs.Common.{◌≡◌, ℕ, true, false, leb, List, [], ◌∷◌, is_some, Some, refl, ap, ◌∙◌, inl, inr, arith}
use Rattle.std.proofs.lemmas.Bool.{cases_eq, eq-eqb, ne_eqb, eqb-true, leb-true, le-leb, and_parts, and_from}
use Rattle.layout.specs.declared.number.Width.{Width}
use Rattle.layout.specs.declared.number.Width.TheVariants.{One, Two, Four, Eight}
use Rattle.layout.specs.declared.kind.Kind.{Kind}
use Rattle.layout.specs.declared.kind.Kind.TheVariants.{Null, Boolean, Fixed, Bytes32, Bytes64, List32, List64, Struct, Dictionary}
use Rattle.layout.specs.Numbers.{wide, width_of}
use Rattle.layout.specs.Kinds.{kind_number, kind_among, kind_of, size_fits, children_fit}
use Rattle.layout.specs.Rules.{SizeFits, ChildrenFit}

-- ---- kinds by number

among : (ks : List Kind) (n : ℕ) (k : Kind) → kind_among ks n ≡ Some k → n ≡ kind_number k
among [] n k h = absurd (let z : ◌≡◌ {A = ℕ} 0 1 = cc in omega arith)
among (l ∷ ks) n k h =
    elim (cases_eq n (kind_number l)) [
      | inl e ↦ (let t = eq-eqb n (kind_number l) e in let g : Some l ≡ Some k = rw t at h in let s : l ≡ k = cc in e ∙ ap kind_number s)
      | inr ne ↦ (let t = ne_eqb n (kind_number l) ne in among ks n k (rw t at h))
    ]

pub kind_is : (n : ℕ) (k : Kind) → kind_of n ≡ Some k → n ≡ kind_number k
kind_is n k h = among (Null ∷ Boolean ∷ Fixed ∷ Bytes32 ∷ Bytes64 ∷ List32 ∷ List64 ∷ Struct ∷ Dictionary ∷ []) n k h

numbered : (k : Kind) → kind_of (kind_number k) ≡ Some k
numbered Null = refl
numbered Boolean = refl
numbered Fixed = refl
numbered Bytes32 = refl
numbered Bytes64 = refl
numbered List32 = refl
numbered List64 = refl
numbered Struct = refl
numbered Dictionary = refl

pub kind_of_lem : (n : ℕ) (k : Kind) → n ≡ kind_number k → kind_of n ≡ Some k
kind_of_lem n k e = ap kind_of e ∙ numbered k

-- ---- widths by bytes

pub width_is : (s : ℕ) → is_some (width_of s) ≡ true → (w : Width) × (s ≡ wide w)
width_is s h =
    elim (cases_eq s 1) [
      | inl e ↦ (One, e)
      | inr a ↦
          elim (cases_eq s 2) [
            | inl e ↦ (Two, e)
            | inr b ↦
                elim (cases_eq s 4) [
                  | inl e ↦ (Four, e)
                  | inr c ↦
                      elim (cases_eq s 8) [
                        | inl e ↦ (Eight, e)
                        | inr d ↦
                            absurd (let p = ne_eqb s 1 a in let q = ne_eqb s 2 b in let r = ne_eqb s 4 c in let t = ne_eqb s 8 d in
                            let g : false ≡ true = rw (p, q, r, t) at h in let z : ◌≡◌ {A = ℕ} 0 1 = cc in omega arith)
                      ]
                ]
          ]
    ]

pub width_of_lem : (w : Width) → width_of (wide w) ≡ Some w
width_of_lem One = refl
width_of_lem Two = refl
width_of_lem Four = refl
width_of_lem Eight = refl

-- ---- sizes and children

pub size_tells : (k : Kind) (s : ℕ) → size_fits k s ≡ true → SizeFits k s
size_tells Null s h = tt
size_tells Boolean s h = tt
size_tells Fixed s h = let p = and_parts (leb 1 s) (leb s 256) h in (leb-true 1 s p.0, leb-true s 256 p.1)
size_tells Bytes32 s h = tt
size_tells Bytes64 s h = tt
size_tells List32 s h = tt
size_tells List64 s h = tt
size_tells Struct s h = tt
size_tells Dictionary s h = width_is s h

pub size_from : (k : Kind) (s : ℕ) → SizeFits k s → size_fits k s ≡ true
size_from Null s h = refl
size_from Boolean s h = refl
size_from Fixed s h = and_from (leb 1 s) (leb s 256) (le-leb 1 s h.0) (le-leb s 256 h.1)
size_from Bytes32 s h = refl
size_from Bytes64 s h = refl
size_from List32 s h = refl
size_from List64 s h = refl
size_from Struct s h = refl
size_from Dictionary s h = ap (λ (n : ℕ). is_some (width_of n)) h.1 ∙ ap is_some (width_of_lem h.0)

pub children_tell : (k : Kind) (n : ℕ) → children_fit k n ≡ true → ChildrenFit k n
children_tell Null n h = eqb-true n 0 h
children_tell Boolean n h = eqb-true n 0 h
children_tell Fixed n h = eqb-true n 0 h
children_tell Bytes32 n h = eqb-true n 0 h
children_tell Bytes64 n h = eqb-true n 0 h
children_tell List32 n h = eqb-true n 1 h
children_tell List64 n h = eqb-true n 1 h
children_tell Struct n h = tt
children_tell Dictionary n h = eqb-true n 1 h

pub children_from : (k : Kind) (n : ℕ) → ChildrenFit k n → children_fit k n ≡ true
children_from Null n h = eq-eqb n 0 h
children_from Boolean n h = eq-eqb n 0 h
children_from Fixed n h = eq-eqb n 0 h
children_from Bytes32 n h = eq-eqb n 0 h
children_from Bytes64 n h = eq-eqb n 0 h
children_from List32 n h = eq-eqb n 1 h
children_from List64 n h = eq-eqb n 1 h
children_from Struct n h = refl
children_from Dictionary n h = eq-eqb n 1 h
