-- The worked openings.
use Rattle.std.proofs.Common.{◌≡◌, ℕ, zero, suc, ◌/◌, ◌<◌, ◌≤◌, true, false, List, [], ◌∷◌, length, refl, inl, arith}
use Rattle.layout.specs.declared.fault.Refusal.{Refusal}
use Rattle.layout.specs.declared.fault.Refusal.TheVariants.{KindOrSize, Nesting, Place, Offset, Key}
use Rattle.layout.specs.Faults.{refusal_number, fault_of}
use Rattle.layout.specs.Nodes.{node_in, nodes_of, depth_of}
use Rattle.layout.specs.Tests.{kids, shaped_as, placed_as, rises_to, keyed_below, holds, sound}
use Rattle.layout.specs.Opening.{WholeNodes, NotTooLarge, Refused, Sound}
use Rattle.layout.proofs.Opening.{below_4, below_next, sound_holds, ends_ok, ends_broken}
use Rattle.cases.specs.Openings.{dictionary, strings, bytes_of_strings, eights, Openings}

-- the first node breaks a rule
module _ (nb bs : List ℕ) (whole : WholeNodes nb) (small : NotTooLarge nb bs) (some : 0 < length nb / 80) where
  abbrev Holds : Refusal → Type 0
  Holds r = holds r (nodes_of nb) bs 0 ≡ true

  refuses : (q : Refusal) → holds q (nodes_of nb) bs 0 ≡ false → ((r : Refusal) → refusal_number r < refusal_number q → Holds r) → Refused nb bs (fault_of q 0 0)
  refuses q here smaller = ends_broken nb bs whole small 0 q (fault_of q 0 0) refl some (λ x l. absurd (omega arith)) here smaller

  to_nesting : Holds KindOrSize → (r : Refusal) → refusal_number r < 5 → Holds r
  to_nesting a = below_next (nodes_of nb) bs 0 KindOrSize (below_4 (nodes_of nb) bs 0) a

  to_place : Holds KindOrSize → Holds Nesting → (r : Refusal) → refusal_number r < 6 → Holds r
  to_place a b = below_next (nodes_of nb) bs 0 Nesting (to_nesting a) b

  to_key : Holds KindOrSize → Holds Nesting → Holds Place → Holds Offset → (r : Refusal) → refusal_number r < 8 → Holds r
  to_key a b c d = below_next (nodes_of nb) bs 0 Offset (below_next (nodes_of nb) bs 0 Place (to_place a b) c) d

-- one node, or two
one : (nb bs : List ℕ) → WholeNodes nb → NotTooLarge nb bs → length nb / 80 ≡ 1 → sound (nodes_of nb) bs 0 ≡ true → Sound nb bs
one nb bs w s n a = ends_ok nb bs w s 1 (omega arith) go
  where
    go : (i : ℕ) → i < 1 → (r : Refusal) → holds r (nodes_of nb) bs i ≡ true
    go zero l = sound_holds (nodes_of nb) bs 0 a
    go (suc i) l = absurd (omega arith)

two : (nb bs : List ℕ) → WholeNodes nb → NotTooLarge nb bs → length nb / 80 ≡ 2 → sound (nodes_of nb) bs 0 ≡ true → sound (nodes_of nb) bs 1 ≡ true → Sound nb bs
two nb bs w s n a b = ends_ok nb bs w s 2 (omega arith) go
  where
    go : (i : ℕ) → i < 2 → (r : Refusal) → holds r (nodes_of nb) bs i ≡ true
    go zero l = sound_holds (nodes_of nb) bs 0 a
    go (suc zero) l = sound_holds (nodes_of nb) bs 1 b
    go (suc (suc i)) l = absurd (omega arith)

few : (nb bs : List ℕ) → length nb / 80 ≤ 65535 → length bs ≤ 4294967295 → NotTooLarge nb bs
few nb bs a b = record { nodes = a; bytes = b }

pub openings : Openings
unfolding node_in nodes_of depth_of kids shaped_as placed_as rises_to keyed_below holds sound
openings =
    let wrapping = eights (2 ∷ 0 ∷ 1 ∷ 1 ∷ 0 ∷ 0 ∷ 18446744073709551615 ∷ 0 ∷ 0 ∷ 1 ∷ []) in
    let childless = eights (5 ∷ 0 ∷ 0 ∷ 0 ∷ 0 ∷ 0 ∷ 0 ∷ 0 ∷ 0 ∷ 1 ∷ []) in
    let kindless = eights (9 ∷ 0 ∷ 0 ∷ 0 ∷ 0 ∷ 0 ∷ 0 ∷ 0 ∷ 0 ∷ 1 ∷ []) in
    record {
      half_a_node = inl (refl, λ e. omega arith);
      nothing = ends_ok [] (1 ∷ 2 ∷ []) refl (few [] (1 ∷ 2 ∷ []) (omega arith) (omega arith)) 0 refl (λ i l. absurd (omega arith));
      key_in_valid_row =
          (let s = few (dictionary 0) (0xff ∷ []) (omega arith) (omega arith) in
          refuses (dictionary 0) (0xff ∷ []) refl s (omega arith) Key refl (to_key (dictionary 0) (0xff ∷ []) refl s (omega arith) refl refl refl refl));
      key_in_valid_bit =
          (let s = few (dictionary 2) (0xff ∷ 1 ∷ []) (omega arith) (omega arith) in
          refuses (dictionary 2) (0xff ∷ 1 ∷ []) refl s (omega arith) Key refl (to_key (dictionary 2) (0xff ∷ 1 ∷ []) refl s (omega arith) refl refl refl refl));
      key_in_null_row = two (dictionary 2) (0xff ∷ 0xfe ∷ []) refl (few (dictionary 2) (0xff ∷ 0xfe ∷ []) (omega arith) (omega arith)) refl refl refl;
      strings_open = one strings bytes_of_strings refl (few strings bytes_of_strings (omega arith) (omega arith)) refl refl;
      strings_short =
          (let bs = 3 ∷ 0 ∷ 0 ∷ 0 ∷ [] in
          let s = few strings bs (omega arith) (omega arith) in
          refuses strings bs refl s (omega arith) Place refl (to_place strings bs refl s (omega arith) refl refl));
      nothing_wraps =
          (let s = few wrapping (0 ∷ []) (omega arith) (omega arith) in
          refuses wrapping (0 ∷ []) refl s (omega arith) Place refl (to_place wrapping (0 ∷ []) refl s (omega arith) refl refl));
      no_child =
          (let bs = 0 ∷ 0 ∷ 0 ∷ 0 ∷ [] in
          let s = few childless bs (omega arith) (omega arith) in
          refuses childless bs refl s (omega arith) Nesting refl (to_nesting childless bs refl s (omega arith) refl));
      no_kind =
          (let s = few kindless [] (omega arith) (omega arith) in
          refuses kindless [] refl s (omega arith) KindOrSize refl (below_4 (nodes_of kindless) [] 0));
    }
