-- The end of a stream leaves the lent memories as they were.
use Rattle.std.proofs.Common.{◌≡◌, Bool, true, false, List, refl, sym, subst}
use Rattle.dictionaries.specs.declared.update.DictionaryUpdate.{DictionaryUpdate}
use Rattle.columns.specs.declared.memory.Memory.{Memory}
use Rattle.frames.specs.Sinks.{has_room}
use Rattle.runs.specs.Calls.{Call, Setting, Written, nothing}
use Rattle.runs.specs.Looks.{Recorded}
use Rattle.runs.specs.Turns.{State, on_finish, on_open, turn}
use Rattle.stream.specs.Batches.{Leaves}
use Rattle.stream.proofs.Ways.{leaves_nothing}

on_finish_writes : (e : Setting) (s : State) (b : Bool) → (on_finish e s b).written ≡ nothing
on_finish_writes e s true = refl
on_finish_writes e s false = refl

finish_writes : (e : Setting) (r : Recorded) (s : State) (b : Bool) → (on_open e s b r Call.finish).written ≡ nothing
finish_writes e r s true = refl
finish_writes e r s false = on_finish_writes e s (has_room e.cost 8 1 s.sink)

pub finish_leaves : (e : Setting) (r : Recorded) (s : State) (m : Memory) (us : List DictionaryUpdate) → Leaves (turn e r Call.finish s).written m m us us
finish_leaves e r s m us = subst (λ (w : Written). Leaves w m m us us) (sym (finish_writes e r s s.ended)) (leaves_nothing m us)
