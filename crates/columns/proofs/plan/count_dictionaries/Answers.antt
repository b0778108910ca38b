use Rattle.std.proofs.Common.{◌+◌, drop, get_or, sym, subst₂, ap, ◌∙◌, arith}
use Rattle.std.proofs.lemmas.List.{drop_all}
use Rattle.recording.specs.Windows.{window_in}
use Rattle.columns.specs.Plans.{all_sent, sent_of}
use Rattle.columns.proofs.Batches.{blank, NeedsLeft, sent_next, needs_same, needs_next, needs_end}
use Rattle.columns.proofs.plan.count_dictionaries.Goals as goal
use Rattle.columns.proofs.plan.count_dictionaries.Goals.{in-Some, in_default}

pub loop-id-preserved : goal.loop-id-preserved
loop-id-preserved c =
    let rec = c.args.recording.now in
    let ms = c.args.met.now in
    let i = c.loop-id.id in
    let all = all_sent rec 0 ms in
    let left = all_sent rec i (drop i ms) in
    let rest = all_sent rec (i + 1) (drop (i + 1) ms) in
    let next = sent_next rec i i ms blank c.loop-id-test.true in
    elim c.match-dictionary_sent.branch [
      | in-Some w ↦
          (let more = needs_next all left rest c.loop-id.needs c.loop-id.messages (sent_of rec i (get_or ms i blank)) w.in-Some.message.sent (window_in w.in-Some.message.window) w.count_array_data.result next w.in-Some.ensures c.loop-id.invariant.left w.count_array_data.ensures in
          record {
            left = subst₂ (NeedsLeft all rest) (sym (w.needs-is ∙ w.plus-needs.ensures)) (sym w.messages-is) more;
            few = omega (arith, c.loop-id.invariant.few, w.messages-is);
          })
      | in_default w ↦
          (record {
            left = subst₂ (NeedsLeft all rest) (sym w.needs-is) (sym w.messages-is) (needs_same all left rest c.loop-id.needs c.loop-id.messages (sent_of rec i (get_or ms i blank)) next w.in_default.ensures c.loop-id.invariant.left);
            few = omega (arith, c.loop-id.invariant.few, w.messages-is);
          })
    ]

pub returns-clause-value : goal.returns-clause-value
returns-clause-value c =
    let rec = c.args.recording.now in
    let ms = c.args.met.now in
    let none = ap (all_sent rec c.loop-id.id) (drop_all c.loop-id.id ms (omega (arith, c.loop-id-test.false))) in
    let told = needs_end (all_sent rec 0 ms) (all_sent rec c.loop-id.id (drop c.loop-id.id ms)) c.loop-id.needs c.loop-id.messages none c.loop-id.invariant.left in
    record { needs = told.0; messages = told.1 }
