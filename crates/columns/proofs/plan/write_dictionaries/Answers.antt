use Rattle.std.proofs.Common.{◌+◌, List, drop, get_or, sym, subst₂, ap, subst, arith}
use Rattle.std.proofs.lemmas.List.{drop_all}
use Rattle.columns.specs.declared.list.LentList.{LentList}
use Rattle.columns.specs.declared.message.Message.{Message}
use Rattle.columns.specs.declared.writer.IpcMessageWriter.{IpcMessageWriter}
use Rattle.columns.specs.Lists.{lent}
use Rattle.columns.specs.Plans.{ToSend, all_sent, sent_of, RoomForMessages, MessagesSent}
use Rattle.columns.proofs.Batches.{blank, MessagesLeft, sent_next, here_room, here_sent, left_end}
use Rattle.columns.proofs.Planning.{messages_none}
use Rattle.columns.proofs.plan.write_dictionaries.Goals as goal
use Rattle.columns.proofs.plan.write_dictionaries.Goals.{in-Some, in_default}

pub write_dictionary-requires : goal.write_dictionary-requires
write_dictionary-requires c =
    let rec = c.args.recording.now in
    let ms = c.args.met.now in
    let i = c.loop-id.id in
    let next = sent_next rec i i ms blank c.loop-id-test.true in
    subst (λ (xs : List ToSend). RoomForMessages xs c.loop-id.writer (lent c.loop-id.messages)) c.in-Some.ensures
    (here_room (all_sent rec 0 ms) (all_sent rec i (drop i ms)) (sent_of rec i (get_or ms i blank)) (all_sent rec (i + 1) (drop (i + 1) ms)) c.args.writer.now c.loop-id.writer (lent c.args.messages.now) (lent c.loop-id.messages) next c.loop-id.invariant)

pub loop-id-preserved : goal.loop-id-preserved
loop-id-preserved c =
    let rec = c.args.recording.now in
    let ms = c.args.met.now in
    let i = c.loop-id.id in
    let all = all_sent rec 0 ms in
    let left = all_sent rec i (drop i ms) in
    let rest = all_sent rec (i + 1) (drop (i + 1) ms) in
    let next = sent_next rec i i ms blank c.loop-id-test.true in
    elim c.match-dictionary_sent.branch [
      | in-Some w ↦
          (let more = here_sent all left (sent_of rec i (get_or ms i blank)) rest c.args.writer.now c.loop-id.writer (lent c.args.messages.now) (lent c.loop-id.messages) next c.loop-id.invariant w.write_dictionary.new.writer (lent w.write_dictionary.new.messages)
          (subst (λ (xs : List ToSend). MessagesSent xs c.loop-id.writer w.write_dictionary.new.writer (lent c.loop-id.messages) (lent w.write_dictionary.new.messages)) (sym w.in-Some.ensures) w.write_dictionary.ensures) in
          subst₂ (λ (a : IpcMessageWriter) (l : LentList Message). MessagesLeft all rest c.args.writer.now a (lent c.args.messages.now) (lent l)) (sym w.writer-is) (sym w.messages-is) more)
      | in_default w ↦
          (let more = here_sent all left (sent_of rec i (get_or ms i blank)) rest c.args.writer.now c.loop-id.writer (lent c.args.messages.now) (lent c.loop-id.messages) next c.loop-id.invariant c.loop-id.writer (lent c.loop-id.messages)
          (subst (λ (xs : List ToSend). MessagesSent xs c.loop-id.writer c.loop-id.writer (lent c.loop-id.messages) (lent c.loop-id.messages)) (sym w.in_default.ensures) (messages_none c.loop-id.writer (lent c.loop-id.messages))) in
          subst₂ (λ (a : IpcMessageWriter) (l : LentList Message). MessagesLeft all rest c.args.writer.now a (lent c.args.messages.now) (lent l)) (sym w.writer-is) (sym w.messages-is) more)
    ]

pub returns : goal.returns
returns c =
    let rec = c.args.recording.now in
    let ms = c.args.met.now in
    let none = ap (all_sent rec c.loop-id.id) (drop_all c.loop-id.id ms (omega (arith, c.loop-id-test.false))) in
    let sent = left_end (all_sent rec 0 ms) (all_sent rec c.loop-id.id (drop c.loop-id.id ms)) c.args.writer.now c.loop-id.writer (lent c.args.messages.now) (lent c.loop-id.messages) none c.loop-id.invariant in
    record {
      same_fields = sent.nodes.same_reference;
      same_buffers = sent.buffers.same_reference;
      same_work = sent.work.same_reference;
      same_messages = sent.messages.same_reference;
      sent = sent;
    }
