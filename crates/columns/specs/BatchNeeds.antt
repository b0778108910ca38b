-- What the messages of a batch need of the lent memories.
use Rattle.std.specs.Prelude.{◌≡◌, List, length}
use Rattle.columns.specs.declared.plan.BatchNeeds.{BatchNeeds}
use Rattle.columns.specs.Needs.{Counts}
use Rattle.columns.specs.Plans.{ToSend, all_fields, all_pieces}

pub record CountsMessages (ms : List ToSend) (b : BatchNeeds) : Type 0 where
  pub needs : Counts (all_fields ms) (all_pieces ms) b.needs
  pub messages : b.messages ≡ length ms
