use Rattle.std.proofs.Common.{codes, arith, rules}
use Rattle.orders.proofs.Verbs.{read_as}
use Rattle.orders.proofs.item.VerbTryFromRefSliceU8.try_from.Goals as goal

pub returns-in-nodes : goal.returns-in-nodes
returns-in-nodes c = read_as c.args.word.now (codes "nodes") (omega arith) (search rules)

pub returns-in-bytes : goal.returns-in-bytes
returns-in-bytes c = read_as c.args.word.now (codes "bytes") (omega arith) (search rules)

pub returns-in-nodesfile : goal.returns-in-nodesfile
returns-in-nodesfile c = read_as c.args.word.now (codes "nodesfile") (omega arith) (search rules)

pub returns-in-bytesfile : goal.returns-in-bytesfile
returns-in-bytesfile c = read_as c.args.word.now (codes "bytesfile") (omega arith) (search rules)

pub returns-in-align : goal.returns-in-align
returns-in-align c = read_as c.args.word.now (codes "align") (omega arith) (search rules)

pub returns-in-show : goal.returns-in-show
returns-in-show c = read_as c.args.word.now (codes "show") (omega arith) (search rules)

pub returns-in-handling : goal.returns-in-handling
returns-in-handling c = read_as c.args.word.now (codes "handling") (omega arith) (search rules)

-- the arm of `error_on_replacement`, which has too long a word to name it
pub returns-in-101 : goal.returns-in-101
returns-in-101 c = read_as c.args.word.now (codes "error_on_replacement") (omega arith) (search rules)

pub returns-in-collect : goal.returns-in-collect
returns-in-collect c = read_as c.args.word.now (codes "collect") (omega arith) (search rules)

pub returns-in-memory : goal.returns-in-memory
returns-in-memory c = read_as c.args.word.now (codes "memory") (omega arith) (search rules)

pub returns-in-plan : goal.returns-in-plan
returns-in-plan c = read_as c.args.word.now (codes "plan") (omega arith) (search rules)

pub returns-in-frame : goal.returns-in-frame
returns-in-frame c = read_as c.args.word.now (codes "frame") (omega arith) (search rules)
