-- How an opening ends: step by step, that no input has two answers, and what an opened recording tells.
use Rattle.std.proofs.Common.{◌≡◌, ℕ, ◌+◌, ◌/◌, ◌<◌, Bool, true, false, cond, ◌&&◌, eqb, List, [], length, Ok, Err, Result, sym, refl, ap, ◌∙◌, subst, inl, inr, arith}
use Rattle.std.proofs.lemmas.Bool.{and_parts, and_from, cases_eq, cases_order, both_ways}
use Rattle.layout.specs.declared.fault.Fault.{Fault}
use Rattle.layout.specs.declared.fault.Refusal.{Refusal}
use Rattle.layout.specs.declared.fault.Refusal.TheVariants.{Alignment, NodeBytes, TooLarge, KindOrSize, Nesting, Place, Offset, Key, Ended, Column, DictionaryAboveDictionary, NoId, Replacement, Memory, Rows, Header, Sink, Ids}
use Rattle.layout.specs.declared.node.Node.{Node}
use Rattle.layout.specs.Faults.{refusal_number, fault_of}
use Rattle.layout.specs.Nodes.{nodes_of}
use Rattle.layout.specs.Rules.{Rule}
use Rattle.layout.specs.Tests.{holds, sound}
use Rattle.layout.specs.Opening.{WholeNodes, NotTooLarge, Sound, FirstBroken, Refused, Verdict, Answers, Kept, OneVerdict}
use Rattle.layout.proofs.Tests.{tells, from}
use Rattle.layout.proofs.Nodes.{length-nodes}

-- ---- the five rules of a node

module _ (ns : List Node) (bs : List ℕ) (i : ℕ) where
  abbrev h : Refusal → Bool
  h r = holds r ns bs i

  pub all_hold : h KindOrSize ≡ true → h Nesting ≡ true → h Place ≡ true → h Offset ≡ true → h Key ≡ true → (r : Refusal) → h r ≡ true
  unfolding holds
  all_hold a b c d e Alignment = refl
  all_hold a b c d e NodeBytes = refl
  all_hold a b c d e TooLarge = refl
  all_hold a b c d e KindOrSize = a
  all_hold a b c d e Nesting = b
  all_hold a b c d e Place = c
  all_hold a b c d e Offset = d
  all_hold a b c d e Key = e
  all_hold a b c d e Ended = refl
  all_hold a b c d e Column = refl
  all_hold a b c d e DictionaryAboveDictionary = refl
  all_hold a b c d e NoId = refl
  all_hold a b c d e Replacement = refl
  all_hold a b c d e Memory = refl
  all_hold a b c d e Rows = refl
  all_hold a b c d e Header = refl
  all_hold a b c d e Sink = refl
  all_hold a b c d e Ids = refl

  -- those of smaller numbers, up to each of the five
  pub below_4 : (r : Refusal) → refusal_number r < 4 → h r ≡ true
  unfolding holds
  below_4 Alignment l = refl
  below_4 NodeBytes l = refl
  below_4 TooLarge l = refl
  below_4 KindOrSize l = absurd (omega arith)
  below_4 Nesting l = absurd (omega arith)
  below_4 Place l = absurd (omega arith)
  below_4 Offset l = absurd (omega arith)
  below_4 Key l = absurd (omega arith)
  below_4 Ended l = absurd (omega arith)
  below_4 Column l = absurd (omega arith)
  below_4 DictionaryAboveDictionary l = absurd (omega arith)
  below_4 NoId l = absurd (omega arith)
  below_4 Replacement l = absurd (omega arith)
  below_4 Memory l = absurd (omega arith)
  below_4 Rows l = absurd (omega arith)
  below_4 Header l = absurd (omega arith)
  below_4 Sink l = absurd (omega arith)
  below_4 Ids l = absurd (omega arith)

-- ---- a refusal is known by its number

named : ℕ → Refusal
named n =
    cond (eqb n 1) Alignment (cond (eqb n 2) NodeBytes (cond (eqb n 3) TooLarge (cond (eqb n 4) KindOrSize (cond (eqb n 5) Nesting (cond (eqb n 6) Place
    (cond (eqb n 7) Offset (cond (eqb n 8) Key (cond (eqb n 9) Ended (cond (eqb n 10) Column (cond (eqb n 11) DictionaryAboveDictionary (cond (eqb n 12) NoId
    (cond (eqb n 13) Replacement (cond (eqb n 14) Memory (cond (eqb n 15) Rows (cond (eqb n 16) Header (cond (eqb n 17) Sink Ids))))))))))))))))

named_is : (r : Refusal) → named (refusal_number r) ≡ r
unfolding named
named_is Alignment = refl
named_is NodeBytes = refl
named_is TooLarge = refl
named_is KindOrSize = refl
named_is Nesting = refl
named_is Place = refl
named_is Offset = refl
named_is Key = refl
named_is Ended = refl
named_is Column = refl
named_is DictionaryAboveDictionary = refl
named_is NoId = refl
named_is Replacement = refl
named_is Memory = refl
named_is Rows = refl
named_is Header = refl
named_is Sink = refl
named_is Ids = refl

pub same_refusal : (q r : Refusal) → refusal_number q ≡ refusal_number r → q ≡ r
same_refusal q r e = sym (named_is q) ∙ ap named e ∙ named_is r

-- one rule more, in the order of the numbers
pub below_next : (ns : List Node) (bs : List ℕ) (i : ℕ) (q : Refusal) → ((r : Refusal) → refusal_number r < refusal_number q → holds r ns bs i ≡ true) → holds q ns bs i ≡ true
    → (r : Refusal) → refusal_number r < refusal_number q + 1 → holds r ns bs i ≡ true
below_next ns bs i q below here r l =
    elim (cases_eq (refusal_number r) (refusal_number q)) [
      | inl e ↦ subst (λ (r : Refusal). holds r ns bs i ≡ true) (same_refusal q r (sym e)) here
      | inr ne ↦ below r (omega arith)
    ]

-- ---- what an opened recording tells

pub sound_holds : (ns : List Node) (bs : List ℕ) (i : ℕ) → sound ns bs i ≡ true → (r : Refusal) → holds r ns bs i ≡ true
unfolding sound
sound_holds ns bs i s =
    let f = h ns bs i in
    let a = and_parts (f KindOrSize) (f Nesting && (f Place && (f Offset && f Key))) s in
    let b = and_parts (f Nesting) (f Place && (f Offset && f Key)) a.1 in
    let c = and_parts (f Place) (f Offset && f Key) b.1 in
    let d = and_parts (f Offset) (f Key) c.1 in
    all_hold ns bs i a.0 b.0 c.0 d.0 d.1

pub sound_from : (ns : List Node) (bs : List ℕ) (i : ℕ) → ((r : Refusal) → holds r ns bs i ≡ true) → sound ns bs i ≡ true
unfolding sound
sound_from ns bs i f = and_from _ _ (f KindOrSize) (and_from _ _ (f Nesting) (and_from _ _ (f Place) (and_from _ _ (f Offset) (f Key))))

-- every rule holds at every node
pub kept_rule : (ns : List Node) (bs : List ℕ) → Kept ns bs → (i : ℕ) → i < length ns → (r : Refusal) → Rule r ns bs i
kept_rule ns bs k i l r = tells ns bs i r (sound_holds ns bs i (k.2 i l) r)

pub kept_none : Kept (nodes_of []) []
unfolding nodes_of
kept_none = (omega arith, omega arith, λ i l. absurd (omega arith))

-- a recording that breaks no rule is one to keep
pub sound_kept : (nb bs : List ℕ) → Sound nb bs → Kept (nodes_of nb) bs
sound_kept nb bs s = (
  omega (arith, length-nodes nb, s.small.nodes),
  s.small.bytes,
  λ i l. sound_from (nodes_of nb) bs i (λ r. from (nodes_of nb) bs i r (s.rules i l r)),
)

-- ---- how it ends

module _ (nb bs : List ℕ) (whole : WholeNodes nb) (small : NotTooLarge nb bs) where
  pub ends_ok : (n : ℕ) → n ≡ length nb / 80 → ((i : ℕ) → i < n → (r : Refusal) → holds r (nodes_of nb) bs i ≡ true) → Sound nb bs
  ends_ok n e all =
      record { whole = whole; small = small; rules = λ i l r. tells (nodes_of nb) bs i r (all i (omega (arith, length-nodes nb)) r) }

  pub ends_broken : (i : ℕ) (q : Refusal) (f : Fault) → f ≡ fault_of q 0 i → i < length nb / 80
      → ((x : ℕ) → x < i → (r : Refusal) → holds r (nodes_of nb) bs x ≡ true)
      → holds q (nodes_of nb) bs i ≡ false → ((r : Refusal) → refusal_number r < refusal_number q → holds r (nodes_of nb) bs i ≡ true) → Refused nb bs f
  ends_broken i q f e l before here smaller =
      let ns = nodes_of nb in
      subst (λ (f : Fault). Refused nb bs f) (sym e) (inr (inr (record {
        whole = whole;
        small = small;
        column = refl;
        stands = omega (arith, length-nodes nb);
        broken = λ k. both_ways (holds q ns bs i) here (from ns bs i q k);
        before = λ x m r. tells ns bs x r (before x m r);
        smaller = λ r m. tells ns bs i r (smaller r m);
      })))

-- ---- no input has two answers

same_fault : (f g : Fault) → f.refusal ≡ g.refusal → f.column ≡ g.column → f.node ≡ g.node → f ≡ g
same_fault f g p q s = λ i. record { refusal = p i; column = q i; node = s i }

module _ (nb bs : List ℕ) where
  -- node and refusal of two first faults
  same_node : (f g : Fault) → FirstBroken nb bs f → FirstBroken nb bs g → f.node ≡ g.node
  same_node f g a b =
      elim (cases_order f.node g.node) [
        | inl e ↦ e
        | inr o ↦ (elim o [ inl l ↦ absurd (a.broken (b.before f.node l f.refusal)) | inr l ↦ absurd (b.broken (a.before g.node l g.refusal)) ])
      ]

  same_first : (f g : Fault) → FirstBroken nb bs f → FirstBroken nb bs g → f ≡ g
  same_first f g a b =
      let e = same_node f g a b in
      let number : refusal_number f.refusal ≡ refusal_number g.refusal =
      elim (cases_order (refusal_number f.refusal) (refusal_number g.refusal)) [
        | inl e ↦ e
        | inr o ↦
            (elim o [
              | inl l ↦ absurd (a.broken (subst (λ (i : ℕ). Rule f.refusal (nodes_of nb) bs i) (sym e) (b.smaller f.refusal l)))
              | inr l ↦ absurd (b.broken (subst (λ (i : ℕ). Rule g.refusal (nodes_of nb) bs i) e (a.smaller g.refusal l)))
            ])
      ] in
      same_fault f g (same_refusal f.refusal g.refusal number) (a.column ∙ sym b.column) e

  not_both : Sound nb bs → (f : Fault) → Refused nb bs f → ⊥
  not_both s f (inl a) = a.1 s.whole
  not_both s f (inr (inl a)) = a.2 s.small
  not_both s f (inr (inr a)) = a.broken (s.rules f.node a.stands f.refusal)

  same_refused : (f g : Fault) → Refused nb bs f → Refused nb bs g → f ≡ g
  same_refused f g (inl a) (inl b) = a.0 ∙ sym b.0
  same_refused f g (inl a) (inr (inl b)) = absurd (a.1 b.1)
  same_refused f g (inl a) (inr (inr b)) = absurd (a.1 b.whole)
  same_refused f g (inr (inl a)) (inl b) = absurd (b.1 a.1)
  same_refused f g (inr (inl a)) (inr (inl b)) = a.0 ∙ sym b.0
  same_refused f g (inr (inl a)) (inr (inr b)) = absurd (a.2 b.small)
  same_refused f g (inr (inr a)) (inl b) = absurd (b.1 a.whole)
  same_refused f g (inr (inr a)) (inr (inl b)) = absurd (b.2 a.small)
  same_refused f g (inr (inr a)) (inr (inr b)) = same_first f g a b

pub one_verdict : OneVerdict
one_verdict nb bs (Ok u) (Ok v) a b = refl
one_verdict nb bs (Ok u) (Err g) a b = absurd (not_both nb bs a g b)
one_verdict nb bs (Err f) (Ok v) a b = absurd (not_both nb bs b f a)
one_verdict nb bs (Err f) (Err g) a b = ap (λ (x : Fault). Err x) (same_refused nb bs f g a b)

pub answers : (nb bs : List ℕ) (r : Result (Unit {0}) Fault) → Verdict nb bs r → Answers nb bs r
answers nb bs r v =
    record {
      verdict = v;
      only = λ s w. one_verdict nb bs s r w v;
      opened = (λ e. subst (λ (r : Result (Unit {0}) Fault). Verdict nb bs r) e v, λ s. one_verdict nb bs r (Ok tt) v s);
    }
