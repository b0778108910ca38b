use Rattle.std.proofs.Common.{inl, sym, ◌∙◌, subst, arith}
use Rattle.std.proofs.lemmas.Bool.{false≢true}
use Rattle.layout.specs.declared.kind.Kind.TheVariants.{Boolean, Fixed, Struct}
use Rattle.recording.specs.declared.windows.Windows.{Windows}
use Rattle.recording.specs.Passing.{windows_left, ArePassedEach}
use Rattle.dictionaries.specs.Rows.{SameRows, Alike}
use Rattle.dictionaries.proofs.Comparing.{parts_tell, walks_alike, walks_left, pairs_next, pairs_more, kind_read, others_kind, both_strings, both_lists, others_offsets, others_have, counts_same, counts_differ, none_tell, bits_tell, slots_tell, strings_tell, string_counts, element_counts, elements_alike, elements_tell, marks_tell, both_valid, null_more, parts_alike, parts_valid, part_span, part_same, part_more}
use Rattle.dictionaries.proofs.comparison.+rows.Goals as goal
use Rattle.dictionaries.proofs.comparison.+rows.Goals.{equal_rows-else-run-via-then-run+else-not-equal_valid_rows, equal_rows-else-run-via-else-run}

-- ---- equal_rows

pub equal_rows-returns-then-not-equal_marks : goal.equal_rows-returns-then-not-equal_marks
equal_rows-returns-then-not-equal_marks t c = marks_tell c.args.one.now c.args.other.now c.requires c.equal_marks.result c.equal_marks.ensures c.if-not-equal_marks.true

pub equal_rows-equal_valid_rows-requires : goal.equal_rows-equal_valid_rows-requires
equal_rows-equal_valid_rows-requires t c =
    let one = c.args.one.now in
    let other = c.args.other.now in
    let from = c.loop-from.from in
    let run = c.run_from-run.result in
    let valid = both_valid one other c.requires (c.equal_marks.ensures.0 c.if-not-equal_marks.false) from run c.run_from-run.ensures c.if-run.true in
    let span = part_span one other c.requires from run.rows c.part.result c.part-then-run.result c.part.ensures c.part-then-run.ensures in (
      omega (arith, span, c.decreases),
      (
        parts_alike one other c.requires from run.rows c.part.result c.part-then-run.result c.part.ensures c.part-then-run.ensures,
        parts_valid one other c.requires from run.rows c.part.result c.part-then-run.result c.part.ensures c.part-then-run.ensures valid,
      ),
    )

pub equal_rows-returns-then-not-equal_valid_rows : goal.equal_rows-returns-then-not-equal_valid_rows
equal_rows-returns-then-not-equal_valid_rows t c =
    let same = part_same c.args.one.now c.args.other.now c.requires c.loop-from.from c.run_from-run.result.rows c.part.result c.part-then-run.result c.part.ensures c.part-then-run.ensures c.run_from-run.ensures.within in
    (λ e. absurd (false≢true e), λ s. sym c.if-not-equal_valid_rows.true ∙ c.equal_valid_rows.ensures.1 (same s))

pub equal_rows-loop-from-preserved : goal.equal_rows-loop-from-preserved
equal_rows-loop-from-preserved t c =
    let one = c.args.one.now in
    let other = c.args.other.now in
    let from = c.loop-from.from in
    let run = c.run_from-run.result in
    record {
      within = c.run_from-run.ensures.within;
      same =
          elim c.else-run.branch [
            | equal_rows-else-run-via-then-run+else-not-equal_valid_rows w ↦
                part_more one other c.requires from run.rows w.part.result w.part-then-run.result w.part.ensures w.part-then-run.ensures (w.equal_valid_rows.ensures.0 w.if-not-equal_valid_rows.false) c.loop-from.invariant.same
            | equal_rows-else-run-via-else-run w ↦
                null_more one other c.requires (c.equal_marks.ensures.0 c.if-not-equal_marks.false) from run c.run_from-run.ensures w.if-run.false c.loop-from.invariant.same
          ];
    }

-- ---- equal_valid_rows

pub equal_valid_rows-returns-in-Null : goal.equal_valid_rows-returns-in-Null
equal_valid_rows-returns-in-Null t c = none_tell c.args.one.now c.args.other.now c.requires.alike c.node.ensures c.kind.ensures c.in-Null.is

pub equal_valid_rows-bits-requires-in-Boolean : goal.equal_valid_rows-bits-requires-in-Boolean
equal_valid_rows-bits-requires-in-Boolean t c =
    others_kind c.args.one.now c.args.other.now c.requires.alike Boolean (kind_read Boolean c.node.ensures c.kind.ensures c.in-Boolean.is)

pub equal_valid_rows-returns-in-Boolean : goal.equal_valid_rows-returns-in-Boolean
equal_valid_rows-returns-in-Boolean t c =
    bits_tell c.args.one.now c.args.other.now c.requires.alike c.requires.valid c.requires.others c.bits.result c.bits-in-Boolean.result c.equal_bits.result
    (kind_read Boolean c.node.ensures c.kind.ensures c.in-Boolean.is) c.bits.ensures c.bits-in-Boolean.ensures c.equal_bits.ensures

pub equal_valid_rows-slots-requires-in-Fixed : goal.equal_valid_rows-slots-requires-in-Fixed
equal_valid_rows-slots-requires-in-Fixed t c =
    inl (others_kind c.args.one.now c.args.other.now c.requires.alike Fixed (kind_read Fixed c.node.ensures c.kind.ensures c.in-Fixed.is))

pub equal_valid_rows-returns-in-Fixed : goal.equal_valid_rows-returns-in-Fixed
equal_valid_rows-returns-in-Fixed t c =
    slots_tell c.args.one.now c.args.other.now c.requires.alike c.requires.valid c.requires.others c.slots.result.now c.slots-in-Fixed.result.now c.eq.result
    (kind_read Fixed c.node.ensures c.kind.ensures c.in-Fixed.is) c.slots.ensures c.slots-in-Fixed.ensures c.eq.ensures

-- byte strings

pub equal_valid_rows-equal_counts-requires-clause-same : goal.equal_valid_rows-equal_counts-requires-clause-same
equal_valid_rows-equal_counts-requires-clause-same t c = others_offsets c.args.one.now c.args.other.now c.requires.alike

pub equal_valid_rows-strings-requires-then-equal_counts : goal.equal_valid_rows-strings-requires-then-equal_counts
equal_valid_rows-strings-requires-then-equal_counts t c =
    others_have (both_strings c.args.one.now c.args.other.now c.requires.alike c.node.ensures c.kind.ensures c.in-Bytes32.is)

pub equal_valid_rows-returns-then-equal_counts : goal.equal_valid_rows-returns-then-equal_counts
equal_valid_rows-returns-then-equal_counts t c =
    let both = both_strings c.args.one.now c.args.other.now c.requires.alike c.node.ensures c.kind.ensures c.in-Bytes32.is in
    strings_tell c.args.one.now c.args.other.now c.requires.alike c.requires.valid c.requires.others both c.strings.result.now c.strings-then-equal_counts.result.now c.eq-then-equal_counts.result
    (counts_same both c.equal_counts.ensures c.if-equal_counts.true) c.strings.ensures c.strings-then-equal_counts.ensures c.eq-then-equal_counts.ensures

pub equal_valid_rows-returns-else-equal_counts : goal.equal_valid_rows-returns-else-equal_counts
equal_valid_rows-returns-else-equal_counts t c =
    let both = both_strings c.args.one.now c.args.other.now c.requires.alike c.node.ensures c.kind.ensures c.in-Bytes32.is in
    counts_differ both c.equal_counts.ensures (string_counts c.args.one.now c.args.other.now c.requires.alike c.requires.valid c.requires.others both) c.if-equal_counts.false

-- lists

pub equal_valid_rows-equal_counts-requires-in-List32-clause-same : goal.equal_valid_rows-equal_counts-requires-in-List32-clause-same
equal_valid_rows-equal_counts-requires-in-List32-clause-same t c = others_offsets c.args.one.now c.args.other.now c.requires.alike

pub equal_valid_rows-elements-requires-then-equal_counts-2 : goal.equal_valid_rows-elements-requires-then-equal_counts-2
equal_valid_rows-elements-requires-then-equal_counts-2 t c =
    others_have (both_lists c.args.one.now c.args.other.now c.requires.alike c.node.ensures c.kind.ensures c.in-List32.is)

pub equal_valid_rows-equal_rows-requires : goal.equal_valid_rows-equal_rows-requires
equal_valid_rows-equal_rows-requires t c =
    let both = both_lists c.args.one.now c.args.other.now c.requires.alike c.node.ensures c.kind.ensures c.in-List32.is in
    let counts = counts_same both c.equal_counts-in-List32.ensures c.if-equal_counts-2.true in (
      omega (arith, c.elements.ensures.smaller, c.decreases),
      elements_alike c.args.one.now c.args.other.now c.requires.alike c.requires.valid c.requires.others both counts c.elements.result c.elements-then-equal_counts-2.result c.elements.ensures.rows c.elements-then-equal_counts-2.ensures.rows,
    )

pub equal_valid_rows-returns-then-equal_counts-2 : goal.equal_valid_rows-returns-then-equal_counts-2
equal_valid_rows-returns-then-equal_counts-2 t c =
    let both = both_lists c.args.one.now c.args.other.now c.requires.alike c.node.ensures c.kind.ensures c.in-List32.is in
    let counts = counts_same both c.equal_counts-in-List32.ensures c.if-equal_counts-2.true in
    elements_tell c.args.one.now c.args.other.now c.requires.alike c.requires.valid c.requires.others both counts c.elements.result c.elements-then-equal_counts-2.result c.elements.ensures.rows c.elements-then-equal_counts-2.ensures.rows c.equal_rows.result c.equal_rows.ensures

pub equal_valid_rows-returns-else-equal_counts-2 : goal.equal_valid_rows-returns-else-equal_counts-2
equal_valid_rows-returns-else-equal_counts-2 t c =
    let both = both_lists c.args.one.now c.args.other.now c.requires.alike c.node.ensures c.kind.ensures c.in-List32.is in
    counts_differ both c.equal_counts-in-List32.ensures (element_counts c.args.one.now c.args.other.now c.requires.alike c.requires.valid c.requires.others both) c.if-equal_counts-2.false

pub equal_valid_rows-returns-in-Struct : goal.equal_valid_rows-returns-in-Struct
equal_valid_rows-returns-in-Struct t c =
    parts_tell c.args.one.now c.args.other.now c.requires.alike (kind_read Struct c.node.ensures c.kind.ensures c.in-Struct.is) c.requires.valid c.requires.others c.equal_parts.result c.equal_parts.ensures

-- ---- equal_parts

pub equal_parts-loop-part-init : goal.equal_parts-loop-part-init
equal_parts-loop-part-init t c =
    let one = c.args.one.now in
    let other = c.args.other.now in
    let mine = c.into_iter-part-iterator.result in
    let passed = subst (λ (s : Windows). ArePassedEach one (windows_left s)) (sym c.into_iter-part-iterator.ensures.into_iter_gives) c.children-part-items.ensures.windows in
    record {
      alike = walks_alike one other c.requires.alike c.requires.is mine c.children-twins.result passed c.children-twins.ensures.windows;
      left = walks_left one other c.requires.alike c.requires.is mine c.children-twins.result passed c.children-twins.ensures.windows;
    }

pub equal_parts-loop-part-preserved : goal.equal_parts-loop-part-preserved
equal_parts-loop-part-preserved t c =
    let first = c.in-Some.ensures.steps in
    let twin = c.in-Some-next.ensures.steps in
    let same = c.equal_rows.ensures.0 c.if-not-equal_rows.false in
    let so_far = c.loop-part.invariant in
    record {
      alike = (pairs_next Alike first twin so_far.alike).1;
      left = (λ h. so_far.left.0 (pairs_more SameRows first twin same h), λ s. (pairs_next SameRows first twin (so_far.left.1 s)).1);
    }
