-- The table of nodes.
use Rattle.std.proofs.Common.{◌≡◌, ℕ, ◌+◌, ◌-◌, ◌*◌, ◌/◌, ◌<◌, ◌≤◌, List, ◌++◌, length, get_or, take, drop, sym, ap, ◌∙◌, inl, inr, arith, length-take-le}
use borrow.Rule.Slice.PartMut.{put_mid}
use Rattle.std.proofs.lemmas.List.{drop_at, drop-drop, take-append-le}
use Rattle.std.proofs.lemmas.Bool.{cases_eq}
use Rattle.layout.specs.declared.node.Node.{Node}
use Rattle.layout.specs.declared.number.Width.TheVariants.{Eight}
use Rattle.layout.specs.Lists.{cut}
use Rattle.layout.specs.Numbers.{unle, unsigned_at}
use Rattle.layout.specs.Nodes.{node_in, nodes_of, numbers_of, zero_node, node_at}
use Rattle.layout.proofs.Lists.{length-rows, get_or_rows, put, cut_before, length-put, rest_is}

pub length-nodes : (nb : List ℕ) → length (nodes_of nb) ≡ length nb / 80
unfolding nodes_of
length-nodes nb = length-rows (length nb / 80) (λ i. node_in nb (i * 80))

pub at_nodes : (nb : List ℕ) (i : ℕ) → i < length nb / 80 → node_at (nodes_of nb) i ≡ node_in nb (i * 80)
unfolding nodes_of
at_nodes nb i h = get_or_rows (length nb / 80) (λ i. node_in nb (i * 80)) i zero_node h

-- ---- reading one

-- ten numbers read one after another are the node
pub read_node : (nb ns : List ℕ) (i : ℕ) (n : Node) → i < length nb / 80 → numbers_of n ≡ ns → ((j : ℕ) → j < 10 → get_or ns j 0 ≡ unle (take 8 (drop (8 * j) (take (length nb - i * 80) (drop (i * 80) nb))))) → n ≡ node_at (nodes_of nb) i
unfolding node_in
read_node nb ns i n l e h =
    (λ t. record {
      kind = at 0 (i * 80) (omega arith) (omega arith) t;
      mark = at 1 (i * 80 + 8) (omega arith) (omega arith) t;
      size = at 2 (i * 80 + 16) (omega arith) (omega arith) t;
      rows = at 3 (i * 80 + 24) (omega arith) (omega arith) t;
      from = at 4 (i * 80 + 32) (omega arith) (omega arith) t;
      bitmap = at 5 (i * 80 + 40) (omega arith) (omega arith) t;
      slots = at 6 (i * 80 + 48) (omega arith) (omega arith) t;
      «data» = at 7 (i * 80 + 56) (omega arith) (omega arith) t;
      extent = at 8 (i * 80 + 64) (omega arith) (omega arith) t;
      span = at 9 (i * 80 + 72) (omega arith) (omega arith) t;
    })
    ∙ sym (at_nodes nb i l)
  where
    at : (j p : ℕ) → p ≡ i * 80 + 8 * j → j < 10 → get_or (numbers_of n) j 0 ≡ unsigned_at nb p Eight
    at j p q m =
        ap (λ (xs : List ℕ). get_or xs j 0) e ∙ h j m
        ∙ ap (λ (xs : List ℕ). unle (take 8 (drop (8 * j) xs))) (rest_is (i * 80) nb)
        ∙ ap (λ (xs : List ℕ). unle (take 8 xs)) (drop-drop (8 * j) (i * 80) nb ∙ ap (λ (m : ℕ). drop m nb) (sym q))

-- ---- writing one

-- the first k numbers stand in the bytes
abbrev pub Spelled : List ℕ → List ℕ → ℕ → Type 0
Spelled bs ns k = (length bs ≡ 80) × ((j : ℕ) → j < k → unsigned_at bs (8 * j) Eight ≡ get_or ns j 0)

-- and one more, at the front of what follows them
pub spelled_more : (bs out ns : List ℕ) (k n v : ℕ) → Spelled bs ns k → k < 10 → v ≡ get_or ns k 0 → n ≡ 80 - 8 * k → length out ≡ n → unle (take 8 out) ≡ v → Spelled (put_mid (8 * k) n bs out) ns (k + 1)
spelled_more bs out ns k n v s l e room long g =
    let a : ℕ = 8 * k in
    let far : length out ≡ 80 - a = omega arith in
    let p : put_mid a n bs out ≡ put a out bs =
    ap (λ (zs : List ℕ). take a bs ++ (out ++ zs)) (drop-drop n a bs ∙ ap (λ (m : ℕ). drop m bs) (omega arith)) in
    let front : cut a 8 (put a out bs) ≡ take 8 out =
    ap (take 8) (drop_at (take a bs) (out ++ drop (a + length out) bs) a (length-take-le a bs (omega (arith, s.0))))
    ∙ take-append-le 8 out (drop (a + length out) bs) (omega arith) in (
      ap length p ∙ length-put a out bs (omega (arith, s.0)) ∙ s.0,
      λ j m.
          elim (cases_eq j k) [
            | inl q ↦
                (ap (λ (i : ℕ). unsigned_at (put_mid a n bs out) (8 * i) Eight) q
                ∙ ap (λ (zs : List ℕ). unle (cut a 8 zs)) p ∙ ap unle front ∙ g ∙ e ∙ ap (λ (i : ℕ). get_or ns i 0) (sym q))
            | inr ne ↦
                (ap (λ (zs : List ℕ). unsigned_at zs (8 * j) Eight) p
                ∙ ap unle (cut_before (8 * j) 8 a out bs (omega arith) (omega (arith, s.0)))
                ∙ s.1 j (omega arith))
          ],
    )

-- all ten are the node
pub spelled_node : (bs ns : List ℕ) (n : Node) (k : ℕ) → ns ≡ numbers_of n → 10 ≤ k → Spelled bs ns k → node_in bs 0 ≡ n
unfolding node_in
spelled_node bs ns n k e h s =
    λ i. record {
      kind = at 0 (omega arith) i;
      mark = at 1 (omega arith) i;
      size = at 2 (omega arith) i;
      rows = at 3 (omega arith) i;
      from = at 4 (omega arith) i;
      bitmap = at 5 (omega arith) i;
      slots = at 6 (omega arith) i;
      «data» = at 7 (omega arith) i;
      extent = at 8 (omega arith) i;
      span = at 9 (omega arith) i;
    }
  where
    at : (j : ℕ) → j < 10 → unsigned_at bs (8 * j) Eight ≡ get_or (numbers_of n) j 0
    at j l = s.1 j (omega arith) ∙ ap (λ (xs : List ℕ). get_or xs j 0) e
