-- The worked run.
use Rattle.std.proofs.Common.{refl}
use Rattle.layout.specs.Messages.{fields, buffers, made}
use Rattle.layout.specs.Nodes.{node_in, nodes_of}
use Rattle.layout.specs.Shown.{met}
use Rattle.layout.specs.Trees.{forest_by}
use Rattle.layout.specs.Reading.{decode}
use Rattle.layout.specs.Windows.{shown, met_in, value_at, shape_of}
use Rattle.dictionaries.specs.Collecting.{met_from}
use Rattle.cases.specs.RunCases.{RunCases}

pub run_cases : RunCases
unfolding node_in nodes_of forest_by shown fields buffers made met met_in met_from decode value_at shape_of
run_cases = record {
  answered = refl;
  held = refl;
  full = refl;
  messages = refl;
  rebuilt = refl;
}
