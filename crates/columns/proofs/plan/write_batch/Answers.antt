use Rattle.std.proofs.Common.{◌∷◌, [], subst, refl}
use Rattle.columns.specs.declared.message.Message.{Message}
use Rattle.columns.specs.Lists.{Grows, lent}
use Rattle.columns.specs.Plans.{batch_message}
use Rattle.columns.proofs.Planning.{message_room, message_is, message_sent}
use Rattle.columns.proofs.plan.write_batch.Goals as goal

pub write_columns-requires : goal.write_columns-requires
write_columns-requires c = message_room (batch_message c.args.columns.now) c.args.writer.now c.args.writer.now (lent c.args.messages.now) c.requires

pub returns : goal.returns
returns c =
    let m = batch_message c.args.columns.now in
    let a = c.args.writer.now in
    let b = c.write_columns.new.self in
    let is = message_is m a b (lent c.args.messages.now) c.write_columns.ensures _ c.rows.result refl c.rows.ensures in
    let sent = message_sent m a b (lent c.args.messages.now) c.write_columns.ensures (lent c.push.new.self) (subst (λ (e : Message). Grows (lent c.args.messages.now) (lent c.push.new.self) (e ∷ [])) is c.push.ensures) in
    record {
      same_fields = sent.nodes.same_reference;
      same_buffers = sent.buffers.same_reference;
      same_work = sent.work.same_reference;
      same_messages = sent.messages.same_reference;
      sent = sent;
    }
