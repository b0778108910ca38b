use Rattle.std.proofs.Common.{Ok, sym, ◌∙◌, rules}
use Rattle.layout.specs.Nodes.{nodes_of}
use Rattle.opening.proofs.Order.{breaks_table, breaks_nesting, breaks_place, breaks_offset, verdict_err, breaks_key, keeps_all, verdict_of, refused}
use Rattle.opening.proofs.check.check_node.Goals as goal

pub returns-in_err-subject : goal.returns-in_err-subject
returns-in_err-subject c =
    let e = c.in_err-subject.ensures in
    let i = c.args.i in
    verdict_err (nodes_of c.args.nodes.now) c.args.bytes.now i c.from_residual.result c.in_err-subject.field-0.0 _ (search rules) e.0
    (breaks_table (nodes_of c.args.nodes.now) c.args.bytes.now i e.1)

pub returns-in_err-check_nesting : goal.returns-in_err-check_nesting
returns-in_err-check_nesting c =
    let s = c.in_ok-subject.subject in
    let e = c.in_err-check_nesting.ensures in
    refused s c.args.nodes.now c.args.bytes.now c.args.i c.in_ok-subject.ensures c.from_residual-in_err-check_nesting.result c.in_err-check_nesting.field-0.0 _ (search rules) e.0
    (breaks_nesting s e.1)

pub returns-in_err-ensure : goal.returns-in_err-ensure
returns-in_err-ensure c =
    let s = c.in_ok-subject.subject in
    let e = c.in_err-ensure.ensures in
    refused s c.args.nodes.now c.args.bytes.now c.args.i c.in_ok-subject.ensures c.from_residual-in_err-ensure.result c.in_err-ensure.field-0.0 _ (search rules) e.0
    (breaks_place s c.in_ok-check_nesting.ensures (sym c.keeps_places.ensures ∙ e.1))

pub returns-in_err-ensure-2 : goal.returns-in_err-ensure-2
returns-in_err-ensure-2 c =
    let s = c.in_ok-subject.subject in
    let e = c.in_err-ensure-2.ensures in
    refused s c.args.nodes.now c.args.bytes.now c.args.i c.in_ok-subject.ensures c.from_residual-in_err-ensure-2.result c.in_err-ensure-2.field-0.0 _ (search rules) e.0
    (breaks_offset s c.in_ok-check_nesting.ensures (sym c.keeps_places.ensures ∙ c.in_ok-ensure.ensures) (sym c.keeps_offsets.ensures ∙ e.1))

pub returns-in_err-ensure-3 : goal.returns-in_err-ensure-3
returns-in_err-ensure-3 c =
    let s = c.in_ok-subject.subject in
    let e = c.in_err-ensure-3.ensures in
    refused s c.args.nodes.now c.args.bytes.now c.args.i c.in_ok-subject.ensures c.from_residual-in_err-ensure-3.result c.in_err-ensure-3.field-0.0 _ (search rules) e.0
    (breaks_key s c.in_ok-check_nesting.ensures (sym c.keeps_places.ensures ∙ c.in_ok-ensure.ensures) (sym c.keeps_offsets.ensures ∙ c.in_ok-ensure-2.ensures) (sym c.keeps_keys.ensures ∙ e.1))

pub returns : goal.returns
returns c =
    let s = c.in_ok-subject.subject in
    verdict_of s c.args.nodes.now c.args.bytes.now c.args.i c.in_ok-subject.ensures (Ok c.end.result) (
      keeps_all s c.in_ok-check_nesting.ensures (sym c.keeps_places.ensures ∙ c.in_ok-ensure.ensures) (sym c.keeps_offsets.ensures ∙ c.in_ok-ensure-2.ensures)
          (sym c.keeps_keys.ensures ∙ c.in_ok-ensure-3.ensures),
      c.end.ensures,
    )
