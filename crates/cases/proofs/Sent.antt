-- The worked windows.
use Rattle.std.proofs.Common.{refl}
use Rattle.layout.specs.Messages.{fields, buffers}
use Rattle.layout.specs.Nodes.{node_in, nodes_of}
use Rattle.layout.specs.Trees.{forest_by}
use Rattle.layout.specs.Windows.{value_at, shown}
use Rattle.cases.specs.WindowCases.{WindowCases}

pub window_cases : WindowCases
unfolding node_in nodes_of forest_by value_at shown fields buffers
window_cases = record {
  numbers_values = refl;
  numbers_fields = refl;
  numbers_records = refl;
  numbers_body = refl;
  texts_values = refl;
  texts_fields = refl;
  texts_records = refl;
  texts_body = refl;
  bits_fields = refl;
  bits_records = refl;
  bits_shifted = refl;
  bits_whole = refl;
  marked_values = refl;
  marked_fields = refl;
  marked_records = refl;
  marked_body = refl;
  listed_values = refl;
  listed_fields = refl;
  listed_records = refl;
  listed_body = refl;
}
