use Rattle.std.proofs.Common.{◌∷◌, [], subst, refl}
use Rattle.recording.specs.Windows.{window_in}
use Rattle.columns.specs.declared.message.Message.{Message}
use Rattle.columns.specs.Lists.{Grows, lent}
use Rattle.columns.specs.Plans.{dictionary_message}
use Rattle.columns.proofs.Planning.{begun, message_room, message_is, message_sent, alone_room, alone_sent}
use Rattle.columns.proofs.plan.write_dictionary.Goals as goal

pub write_array_data-requires : goal.write_array_data-requires
write_array_data-requires c =
    let w = window_in c.args.message.now.window in
    let a = c.args.writer.now in
    alone_room w (begun a) a (message_room (dictionary_message c.args.message.now.sent w) a a (lent c.args.messages.now) c.requires)

pub returns : goal.returns
returns c =
    let w = window_in c.args.message.now.window in
    let m = dictionary_message c.args.message.now.sent w in
    let a = c.args.writer.now in
    let b = c.write_array_data.new.self in
    let sent = alone_sent w (begun a) b c.write_array_data.ensures in
    let is = message_is m a b (lent c.args.messages.now) sent c.dictionary_kind.result c.args.message.now.sent.rows c.dictionary_kind.ensures refl in
    message_sent m a b (lent c.args.messages.now) sent (lent c.push.new.self) (subst (λ (e : Message). Grows (lent c.args.messages.now) (lent c.push.new.self) (e ∷ [])) is c.push.ensures)
