-- The worked frames.
use Rattle.std.proofs.Common.{refl}
use Rattle.layout.specs.Messages.{fields, buffers}
use Rattle.layout.specs.Nodes.{node_in, nodes_of}
use Rattle.layout.specs.Trees.{forest_by}
use Rattle.layout.specs.Windows.{shown}
use Rattle.cases.specs.FrameCases.{FrameCases}

pub frame_cases : FrameCases
unfolding node_in nodes_of forest_by shown fields buffers
frame_cases = record {
  numbers = refl;
  numbers_long = refl;
  header_long = refl;
  texts_frame = refl;
  texts_pieces = refl;
  five_header = refl;
  five_length = refl;
  five_pieces = refl;
  end = refl;
}
