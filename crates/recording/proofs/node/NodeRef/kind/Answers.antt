use Rattle.std.proofs.Common.{ap, ◌∙◌}
use Rattle.std.specs.Prelude.{is_ok}
use Rattle.layout.proofs.Facts.{answered}
use Rattle.recording.proofs.Reading.{kind_some}
use Rattle.recording.proofs.node.NodeRef.kind.Goals as goal

pub unwrap-requires : goal.unwrap-requires
unwrap-requires c = ap is_ok c.try_from.ensures ∙ answered _ _ (kind_some c.args.self.now c.node.result c.node.ensures.value)
