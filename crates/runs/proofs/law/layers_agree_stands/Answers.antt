use Rattle.runs.proofs.Layers.{layers_agree}
use Rattle.runs.proofs.law.layers_agree_stands.Goals as goal

pub returns : goal.returns
returns c = layers_agree
