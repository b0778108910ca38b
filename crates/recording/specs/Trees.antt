-- What is left of trees side by side.
use Rattle.std.specs.Prelude.{List}
use Rattle.recording.specs.declared.trees.Trees.{Trees}
use Rattle.recording.specs.Places.{Place, places_between}

abbrev pub places_left : Trees → List Place
places_left t = places_between t.recording t.next t.end
