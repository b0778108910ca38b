use Rattle.std.proofs.Common.{refl}
use Rattle.layout.specs.Nodes.{nodes_of}
use Rattle.layout.proofs.Opening.{kept_none}
use Rattle.recording.proofs.recording.Recording.empty.Goals as goal

pub invariant_of-result : goal.invariant_of-result
invariant_of-result c = record { opened = kept_none }

pub returns : goal.returns
unfolding nodes_of
returns c = (refl, refl)
