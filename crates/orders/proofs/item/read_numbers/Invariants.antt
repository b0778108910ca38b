use Rattle.std.proofs.Common.{◌≡◌, length, take}
use Rattle.orders.proofs.Numbers.{NumbersSoFar}
use Rattle.orders.proofs.item.read_numbers.Given as goal

abbrev pub invariant-loop-number : goal.invariant-loop-number
invariant-loop-number g l = record { long : length l.number-items ≡ g.row.N; so_far : NumbersSoFar g.row.N l.number-index l.text l.rest (take l.number-index l.number-items) }
