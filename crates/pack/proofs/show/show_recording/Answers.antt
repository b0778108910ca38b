use Rattle.std.proofs.Common.{All, sym, subst}
use Rattle.pack.specs.Levels.{IsDeep}
use Rattle.pack.proofs.Levels.{tops_deep}
use Rattle.pack.proofs.show.show_recording.Goals as goal

pub show_trees-requires : goal.show_trees-requires
show_trees-requires g c = subst (All (IsDeep 1)) (sym c.trees.ensures) (tops_deep c.args.recording.now)
