use Rattle.std.proofs.Common.{◌≡◌, ℕ, ◌/◌, ◌<◌, List, length, Ok, Err, Result, MatchResult, IsErrAnd, sym, ◌∙◌, subst, arith, rules, below_more}
use Rattle.layout.specs.declared.fault.Refusal.{Refusal}
use Rattle.layout.specs.declared.fault.Refusal.TheVariants.{Nesting}
use Rattle.layout.specs.declared.fault.Fault.{Fault}
use Rattle.layout.specs.Faults.{fault_of}
use Rattle.layout.specs.Nodes.{nodes_of, end_of}
use Rattle.layout.specs.Opening.{WholeNodes, NotTooLarge, Verdict}
use Rattle.layout.proofs.Depth.{stack_depth, stack_push}
use Rattle.layout.proofs.Opening.{ends_ok, ends_broken}
use Rattle.layout.proofs.Tests.{tells}
use Rattle.opening.specs.Checks.{AllHold, NodeVerdict}
use Rattle.opening.proofs.verdict.judge.Goals as goal

pub check_node-requires-clause-deep : goal.check_node-requires-clause-deep
check_node-requires-clause-deep c =
    let l = c.leave.ensures in
    omega (arith, stack_depth (nodes_of c.args.nodes.now) c.loop-i.ancestors c.leave.new.self c.loop-i.i-counter c.loop-i.invariant.ends l.fewer l.same l.gone l.left)

module _ (nb bs : List ℕ) (i : ℕ) where
  -- what is made of the answer for node i
  abbrev Made : Result ℕ Refusal → Result ℕ Fault → Type 0
  Made r m = MatchResult r (λ x. m ≡ Ok x) (λ q. IsErrAnd m (λ f. f ≡ fault_of q 0 i))

  -- a refusal, with its place, is the answer
  refused : (r : Result ℕ Refusal) (m : Result ℕ Fault) (out : Result (Unit {0}) Fault) (e : Fault) → Made r m → NodeVerdict (nodes_of nb) bs i r → m ≡ Err e → IsErrAnd out (λ f. f ≡ e)
      → WholeNodes nb → NotTooLarge nb bs → i < length nb / 80 → ((x : ℕ) → x < i → AllHold (nodes_of nb) bs x) → Verdict nb bs out
  refused r m (Ok _) e made v is told whole small l before = absurd told
  refused (Ok x) m (Err f) e made v is told whole small l before = cc
  refused (Err q) m (Err f) e made v is told whole small l before =
      ends_broken nb bs whole small i q f (told ∙ subst (λ (m : Result ℕ Fault). IsErrAnd m (λ f. f ≡ fault_of q 0 i)) is made) l before v.here v.smaller

  -- a node that is not refused keeps its rules, and the answer is its end
  passed : (r : Result ℕ Refusal) (m : Result ℕ Fault) (end : ℕ) → Made r m → NodeVerdict (nodes_of nb) bs i r → m ≡ Ok end → AllHold (nodes_of nb) bs i × (end ≡ end_of (nodes_of nb) i)
  passed (Ok x) m end made v is =
      let e : ◌≡◌ {A = Result ℕ Fault} (Ok end) (Ok x) = sym is ∙ made in
      let f : end ≡ x = cc in
      (v.0, f ∙ v.1)
  passed (Err q) m end made v is = absurd (subst (λ (m : Result ℕ Fault). IsErrAnd m (λ f. f ≡ fault_of q 0 i)) is made)

pub returns-in_err-end : goal.returns-in_err-end
returns-in_err-end c =
    refused c.args.nodes.now c.args.bytes.now c.loop-i.i-counter c.check_node.result c.map_err.result
    c.from_residual.result c.in_err-end.field-0.0 (search rules) c.check_node.ensures c.in_err-end.was (search rules)
    (omega arith) (record { nodes = omega arith; bytes = omega arith }) c.loop-i-test.true c.loop-i.invariant.kept

pub enter-requires : goal.enter-requires
enter-requires c =
    let p = passed c.args.nodes.now c.args.bytes.now c.loop-i.i-counter c.check_node.result c.map_err.result c.in_ok-end.end (search rules) c.check_node.ensures c.in_ok-end.was in
    let n = tells (nodes_of c.args.nodes.now) c.args.bytes.now c.loop-i.i-counter Nesting (p.0 Nesting) in
    let l = c.leave.ensures in
    omega (arith, n.deep, stack_depth (nodes_of c.args.nodes.now) c.loop-i.ancestors c.leave.new.self c.loop-i.i-counter c.loop-i.invariant.ends l.fewer l.same l.gone l.left)

pub loop-i-preserved : goal.loop-i-preserved
loop-i-preserved c =
    let ns = nodes_of c.args.nodes.now in
    let l = c.leave.ensures in
    let p = passed c.args.nodes.now c.args.bytes.now c.loop-i.i-counter c.check_node.result c.map_err.result c.in_ok-end.end (search rules) c.check_node.ensures c.in_ok-end.was in
    record {
      ends = stack_push ns c.loop-i.ancestors c.leave.new.self c.loop-i.i-counter c.loop-i.invariant.ends l.fewer l.same l.gone l.left c.enter.new.self c.in_ok-end.end
          p.1 c.enter.ensures (λ x l. tells ns c.args.bytes.now x Nesting (c.loop-i.invariant.kept x l Nesting));
      kept = below_more (λ x. AllHold ns c.args.bytes.now x) c.loop-i.i-counter c.loop-i.invariant.kept p.0;
    }

pub returns : goal.returns
returns c =
    ends_ok c.args.nodes.now c.args.bytes.now (omega arith) (record { nodes = omega arith; bytes = omega arith }) c.loop-i.i-counter (omega arith) c.loop-i.invariant.kept
