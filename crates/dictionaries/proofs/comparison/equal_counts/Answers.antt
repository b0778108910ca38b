use Rattle.std.proofs.Common.{ℕ, true, ◌&&◌, ap, ◌∙◌, subst, arith}
use Rattle.std.specs.List.{fold, range_with_len}
use Rattle.layout.specs.declared.number.Width.TheVariants.{Four, Eight}
use Rattle.layout.specs.Rules.{HasOffsets, Is}
use Rattle.recording.specs.declared.node.NodeRef.{NodeRef}
use Rattle.recording.specs.NodeRefs.{numbers_of}
use Rattle.dictionaries.proofs.Comparing.{is_four, as_many, four_wide, eight_wide, counts_told}
use Rattle.dictionaries.proofs.comparison.equal_counts.Goals as goal
use Rattle.dictionaries.proofs.comparison.equal_counts.Goals.{Then-eq, Else-eq}

four : (c : Then-eq) → HasOffsets (numbers_of c.args.one.now.node) Four
four c =
    four_wide (numbers_of c.args.one.now.node) c.kind.result c.eq.result (subst (λ (n : NodeRef). Is (numbers_of n) c.kind.result) c.node.ensures c.kind.ensures) c.requires.offsets
    (c.eq.ensures ∙ ap is_four c.offset_width.ensures) c.if-eq.true

eight : (c : Else-eq) → HasOffsets (numbers_of c.args.one.now.node) Eight
eight c =
    eight_wide (numbers_of c.args.one.now.node) c.kind.result c.eq.result (subst (λ (n : NodeRef). Is (numbers_of n) c.kind.result) c.node.ensures c.kind.ensures) c.requires.offsets
    (c.eq.ensures ∙ ap is_four c.offset_width.ensures) c.if-eq.false

pub same_counts-requires-clause-mine : goal.same_counts-requires-clause-mine
same_counts-requires-clause-mine c = omega (arith, c.offset_slots-mine.ensures.long Four (four c.before), c.rows.ensures)

pub same_counts-requires-clause-others : goal.same_counts-requires-clause-others
same_counts-requires-clause-others c = omega (arith, c.offset_slots-others.ensures.long Four (c.requires.same Four (four c.before)), c.rows.ensures, c.requires.rows)

pub same_counts-requires-else-eq-clause-mine : goal.same_counts-requires-else-eq-clause-mine
same_counts-requires-else-eq-clause-mine c = omega (arith, c.offset_slots-mine.ensures.long Eight (eight c.before), c.rows-else-eq.ensures)

pub same_counts-requires-else-eq-clause-others : goal.same_counts-requires-else-eq-clause-others
same_counts-requires-else-eq-clause-others c = omega (arith, c.offset_slots-others.ensures.long Eight (c.requires.same Eight (eight c.before)), c.rows-else-eq.ensures, c.requires.rows)

pub returns-then-eq : goal.returns-then-eq
returns-then-eq c =
    counts_told c.args.one.now c.args.other.now c.offset_slots-mine.result.now c.offset_slots-others.result.now Four c.same_counts.result c.requires.rows (four c.before.before) c.offset_slots-mine.ensures.value c.offset_slots-others.ensures.value
    (c.same_counts.ensures ∙ ap (λ (n : ℕ). fold (λ ok r. ok && as_many c.offset_slots-mine.result.now c.offset_slots-others.result.now 4 r) true (range_with_len 0 n)) c.rows.ensures)

pub returns-else-eq : goal.returns-else-eq
returns-else-eq c =
    counts_told c.args.one.now c.args.other.now c.offset_slots-mine.result.now c.offset_slots-others.result.now Eight c.same_counts-else-eq.result c.requires.rows (eight c.before.before) c.offset_slots-mine.ensures.value c.offset_slots-others.ensures.value
    (c.same_counts-else-eq.ensures ∙ ap (λ (n : ℕ). fold (λ ok r. ok && as_many c.offset_slots-mine.result.now c.offset_slots-others.result.now 8 r) true (range_with_len 0 n)) c.rows-else-eq.ensures)
