use Rattle.std.proofs.Common.{rules, inl, inr, arith}
use Rattle.std.specs.List.{range_with_len}
use Rattle.std.proofs.lemmas.List.Elements.{All-nil}
use Rattle.recording.specs.declared.value.RowValue.TheVariants as row
use Rattle.recording.specs.Values.{StandsBelow}
use Rattle.recording.proofs.Below.{rows_below, parts_below}
use Rattle.recording.proofs.Held.{told, of_null, not_valid, of_boolean, of_fixed, of_strings, of_elements, of_parts, of_entry}
use Rattle.recording.proofs.row.Row.value.Goals as goal

pub returns-in-Null : goal.returns-in-Null
returns-in-Null c = record { kind = told c.args.self.now c.kind.result row.Null c.kind.ensures (inl (search rules)); value = of_null c.args.self.now (search rules); below = All-nil (StandsBelow c.args.self.now) }

pub returns-in_default : goal.returns-in_default
returns-in_default c = record { kind = told c.args.self.now c.kind.result row.Null c.kind.ensures (inr (search rules)); value = not_valid c.args.self.now c.kind.result c.kind.ensures (search rules) (search rules); below = All-nil (StandsBelow c.args.self.now) }

pub returns-in-Boolean : goal.returns-in-Boolean
returns-in-Boolean c = record { kind = told c.args.self.now c.kind.result (row.Bit c.bit.result) c.kind.ensures (search rules, search rules); value = of_boolean c.args.self.now (search rules) (search rules) c.bit.result c.bit.ensures; below = All-nil (StandsBelow c.args.self.now) }

pub returns-in-Fixed : goal.returns-in-Fixed
returns-in-Fixed c = record { kind = told c.args.self.now c.kind.result (row.Fixed c.slot.result) c.kind.ensures (search rules, search rules); value = of_fixed c.args.self.now (search rules) (search rules) c.slot.result.now c.slot.ensures.value; below = All-nil (StandsBelow c.args.self.now) }

pub returns-in-Bytes32 : goal.returns-in-Bytes32
returns-in-Bytes32 c =
    record { kind = told c.args.self.now c.kind.result (row.Bytes c.string.result) c.kind.ensures (search rules, search rules); value = of_strings c.args.self.now (search rules) c.kind.result c.kind.ensures (search rules) c.string.result.now c.string.ensures; below = All-nil (StandsBelow c.args.self.now) }

pub returns-in-List32 : goal.returns-in-List32
returns-in-List32 c =
    let r = c.args.self.now in
    let v = c.elements.result in
    let here = c.elements.ensures.0 in
    record {
      kind = told c.args.self.now c.kind.result (row.List c.elements.result) c.kind.ensures (search rules, search rules, c.elements.ensures);
      value = of_elements r (search rules) c.kind.result c.kind.ensures (search rules) v c.elements.ensures;
      below = rows_below r (v.node.recording, v.node.index) (range_with_len v.first v.rows) here.0 (omega (arith, here.1));
    }

pub returns-in-Struct : goal.returns-in-Struct
returns-in-Struct c =
    record {
      kind = told c.args.self.now c.kind.result (row.Struct c.parts.result) c.kind.ensures (search rules, search rules, c.parts.ensures);
      value = of_parts c.args.self.now (search rules) (search rules) c.parts.result c.parts.ensures;
      below = parts_below c.args.self.now c.parts.result c.parts.ensures;
    }

pub returns-in-Dictionary : goal.returns-in-Dictionary
returns-in-Dictionary c =
    let r = c.args.self.now in
    let e = c.entry.result in
    let here = c.entry.ensures.0 in
    record {
      kind = told c.args.self.now c.kind.result (row.Entry c.entry.result) c.kind.ensures (search rules, search rules, c.entry.ensures);
      value = of_entry r (search rules) (search rules) e c.entry.ensures;
      below = rows_below r (e.node.recording, e.node.index) (range_with_len e.index 1) here.0 (omega (arith, here.1));
    }
