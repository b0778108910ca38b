-- Bodies, buffer by buffer.
use Rattle.std.proofs.Common.{◌≡◌, ℕ, ◌+◌, ◌<◌, List, [], ◌∷◌, ◌++◌, map, length, take, replicate, sym, ap, ◌∙◌, get_or}
use Rattle.std.proofs.lemmas.List.{append-nil, append_assoc, map_more}
use Rattle.layout.specs.Messages.{body, padding}

pub body_push : (al : ℕ) (bs : List (List ℕ)) (b : List ℕ) → body al (bs ++ b ∷ []) ≡ body al bs ++ (b ++ replicate (padding al (length b)) 0)
body_push al [] b = append-nil (b ++ replicate (padding al (length b)) 0)
body_push al (c ∷ cs) b = ap (λ t. (c ++ replicate (padding al (length c)) 0) ++ t) (body_push al cs b) ∙ sym (append_assoc (c ++ replicate (padding al (length c)) 0) (body al cs) (b ++ replicate (padding al (length b)) 0))

-- the body of one buffer more
pub body_next : {X : Type 0} (al : ℕ) (f : X → List ℕ) (xs : List X) (i : ℕ) (d : X) → i < length xs →
    body al (map f (take (i + 1) xs)) ≡ body al (map f (take i xs)) ++ (f (get_or xs i d) ++ replicate (padding al (length (f (get_or xs i d)))) 0)
body_next al f xs i d lt = ap (body al) (map_more f xs i d lt) ∙ body_push al (map f (take i xs)) (f (get_or xs i d))
