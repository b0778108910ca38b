use Rattle.std.proofs.Common.{ℕ, sym, subst, arith}
use Rattle.layout.specs.declared.fault.Refusal.TheVariants.{Nesting}
use Rattle.layout.specs.Nodes.{nodes_of}
use Rattle.layout.specs.Rules.{Filled}
use Rattle.layout.proofs.Nodes.{length-nodes}
use Rattle.layout.proofs.Opening.{kept_rule}
use Rattle.layout.proofs.Depth.{filled_from}
use Rattle.recording.proofs.recording.Recording.node_count.Goals as goal

pub returns : goal.returns
returns c =
    let nb = c.args.self.now.nodes.now in
    let k = c.args.self.now.opened in
    record {
      value = sym (length-nodes nb);
      bound = omega (arith, length-nodes nb, k.0);
      trees = subst (λ (e : ℕ). Filled (nodes_of nb) 0 e) (length-nodes nb) (filled_from (nodes_of nb) 0 (omega arith) (λ x l. kept_rule (nodes_of nb) c.args.self.now.bytes.now k x l Nesting));
    }
