-- Each record cuts its buffer out of the body.
use Rattle.std.proofs.Common.{◌≡◌, ℕ, ◌+◌, List, [], ◌∷◌, ◌++◌, length, replicate, sym, refl, ap, ◌∙◌, ap₂, append_assoc, arith, length-append, take_at, drop_at}
use lib.ListN.{length-replicate}
use Rattle.layout.specs.Lists.{cut}
use Rattle.layout.specs.Messages.{padding, padded, records, body}
use Rattle.layout.specs.Reading.{parts}

parts_from : (al : ℕ) (pre : List ℕ) (at : ℕ) (bs : List (List ℕ)) → length pre ≡ at → parts (pre ++ body al bs) (records al at bs) ≡ bs
parts_from al pre at [] e = refl
parts_from al pre at (b ∷ bs) e =
    let z : List ℕ = replicate (padding al (length b)) 0 in
    let whole : pre ++ ((b ++ z) ++ body al bs) ≡ (pre ++ (b ++ z)) ++ body al bs = sym (append_assoc pre (b ++ z) (body al bs)) in
    let here : cut at (length b) (pre ++ ((b ++ z) ++ body al bs)) ≡ b =
    rw (drop_at pre ((b ++ z) ++ body al bs) at e, append_assoc b z (body al bs)) (take_at b (z ++ body al bs) (length b) refl) in
    let l : length (pre ++ (b ++ z)) ≡ at + padded al (length b) =
    simp (length-append, length-replicate) (omega arith) in
    ap₂ {C = List (List ℕ)} (λ x xs. x ∷ xs) here
    (ap (λ (x : List ℕ). parts x (records al (at + padded al (length b)) bs)) whole
    ∙ parts_from al (pre ++ (b ++ z)) (at + padded al (length b)) bs l)

pub parts_records : (al : ℕ) (bs : List (List ℕ)) → parts (body al bs) (records al 0 bs) ≡ bs
parts_records al bs = parts_from al [] 0 bs refl
