use Rattle.std.proofs.Common.{codes, ◌∙◌, arith, rules}
use Rattle.orders.proofs.Sinks.{sized_as}
use Rattle.orders.proofs.item.read_sink.Goals as goal

pub returns-in-bytes : goal.returns-in-bytes
returns-in-bytes c = c.read_bytes_sink.ensures ∙ sized_as c.in_ok-kind.ensures.word (codes "bytes") (omega arith) (search rules)

pub returns-in-buffers : goal.returns-in-buffers
returns-in-buffers c = c.read_buffers_sink.ensures ∙ sized_as c.in_ok-kind.ensures.word (codes "buffers") (omega arith) (search rules)
