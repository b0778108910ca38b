use Rattle.std.specs.Iterator.Adapters.{enumerate_count, enumerate_source}
use Rattle.orders.specs.Texts.{lines_in}
use Rattle.orders.specs.Orders.{cases_in}
use Rattle.orders.proofs.Lines.{Sofar}
use Rattle.orders.proofs.read_order.Given as goal

abbrev pub invariant-loop-before : goal.invariant-loop-before
invariant-loop-before g l =
    Sofar (lines_in l.text) (lines_in (enumerate_source l.before-iterator).0.now) (enumerate_count l.before-iterator) (cases_in l.cases)
