use Rattle.std.proofs.Common.{◌≡◌, ◌+◌, ◌∷◌, ◌++◌, [], List, length, subst, ap, arith}
use Rattle.std.proofs.lemmas.List.{length-append}
use Rattle.recording.specs.declared.recording.Recording.{Recording}
use Rattle.columns.specs.declared.plan.BatchNeeds.{BatchNeeds}
use Rattle.columns.specs.BatchNeeds.{CountsMessages}
use Rattle.columns.specs.Plans.{ToSend, batch_message, all_sent}
use Rattle.columns.proofs.Batches.{batch_counted}
use Rattle.columns.proofs.plan.count_batch.Goals as goal

pub returns : goal.returns
returns c =
    let same = ap (λ (rec : Recording). all_sent rec 0 c.args.met.now) c.recording.ensures in
    let told = c.count_dictionaries-dictionaries.ensures.value in
    let needs = batch_counted c.args.columns.now (all_sent c.recording.result 0 c.args.met.now) c.count_dictionaries-dictionaries.result.needs c.count_columns.result c.plus.result c.plus.ensures told.needs c.count_columns.ensures in
    let ms = all_sent c.recording.result 0 c.args.met.now in
    let b : BatchNeeds = record { needs = c.plus.result; messages = c.count_dictionaries-dictionaries.result.messages + 1 } in
    let count : c.count_dictionaries-dictionaries.result.messages + 1 ≡ length (ms ++ batch_message c.args.columns.now ∷ []) = omega (arith, told.messages, length-append ms (batch_message c.args.columns.now ∷ [])) in
    subst (λ (ms : List ToSend). CountsMessages (ms ++ batch_message c.args.columns.now ∷ []) b) same (record { needs = needs; messages = count })
