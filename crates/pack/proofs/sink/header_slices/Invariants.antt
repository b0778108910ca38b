use Rattle.std.proofs.Common.{◌≡◌, map, take}
use Rattle.std.specs.Prelude.{vec_items}
use Rattle.pack.proofs.sink.header_slices.Given as goal

abbrev pub invariant-loop-header : goal.invariant-loop-header
invariant-loop-header l = map (λ h. h.now) l.slices.items ≡ map vec_items (take l.header-index l.headers)
