use Rattle.std.proofs.Common.{◌≡◌, ◌∙◌, rules, arith}
use Rattle.columns.proofs.Batches.{has_room, dictionaries_room, batch_room, both_sent}
use Rattle.columns.proofs.plan.write_messages.Goals as goal
use Rattle.columns.proofs.plan.write_messages.Goals.{Start}

-- a value by another, and that by a third
by_way : {X : Type 0} {x y z : X} → y ≡ z → x ≡ y → x ≡ z
by_way e f = f ∙ e

pub write_dictionaries-requires : goal.write_dictionaries-requires
write_dictionaries-requires c =
    let r = c.requires in
    dictionaries_room c.args.columns.now c.args.met.now c.recording.result c.recording.ensures _ _ (has_room c.args.columns.now c.args.met.now c.recording.result c.recording.ensures _ _ (omega (arith, r.some)) (omega (arith, r.few)) (omega (arith, r.fields)) (omega (arith, r.buffers)) (omega (arith, r.messages)) (omega (arith, r.work)))

pub write_batch-requires : goal.write_batch-requires
write_batch-requires c =
    let r = c.requires in
    batch_room c.args.columns.now c.args.met.now c.recording.result c.recording.ensures _ _ (has_room c.args.columns.now c.args.met.now c.recording.result c.recording.ensures _ _ (omega (arith, r.some)) (omega (arith, r.few)) (omega (arith, r.fields)) (omega (arith, r.buffers)) (omega (arith, r.messages)) (omega (arith, r.work))) _ _ c.write_dictionaries.ensures.sent

pub returns-clause-fields : goal.returns-clause-fields
returns-clause-fields c =
    by_way (both_sent c.args.columns.now c.args.met.now c.recording.result c.recording.ensures _ _ _ _ _ _ c.write_dictionaries.ensures.sent c.write_batch.ensures.sent).nodes.memory (search rules)

pub returns-clause-buffers : goal.returns-clause-buffers
returns-clause-buffers c =
    by_way (both_sent c.args.columns.now c.args.met.now c.recording.result c.recording.ensures _ _ _ _ _ _ c.write_dictionaries.ensures.sent c.write_batch.ensures.sent).buffers.memory (search rules)

pub returns-clause-messages : goal.returns-clause-messages
returns-clause-messages c =
    by_way (both_sent c.args.columns.now c.args.met.now c.recording.result c.recording.ensures _ _ _ _ _ _ c.write_dictionaries.ensures.sent c.write_batch.ensures.sent).messages.memory (search rules)

pub returns-clause-work : goal.returns-clause-work
returns-clause-work c =
    by_way (both_sent c.args.columns.now c.args.met.now c.recording.result c.recording.ensures _ _ _ _ _ _ c.write_dictionaries.ensures.sent c.write_batch.ensures.sent).work.memory (search rules)
