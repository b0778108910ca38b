use Rattle.std.proofs.Common.{rules}
use Rattle.frames.proofs.NumbersFit.{description_fits}
use Rattle.frames.proofs.law.description_is_spellable.Goals as goal

pub returns : goal.returns
returns c = description_fits c.args.description.now (search rules) (search rules) (search rules) (search rules) (search rules) c.fields_fit.ensures c.buffers_fit.ensures
