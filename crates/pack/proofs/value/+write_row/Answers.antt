use Rattle.std.proofs.Common.{[], rules}
use Rattle.std.proofs.lemmas.List.Elements.{All-head, All-rest}
use Rattle.recording.specs.RowPlaces.{row_place, rows_left, parts_left}
use Rattle.recording.specs.Values.{StandsBelow}
use Rattle.pack.proofs.value.+write_row.Goals as goal

pub loop-element-preserved : goal.loop-element-preserved
loop-element-preserved g t c =
    All-rest (StandsBelow c.args.row) (row_place c.in-Some.element) (rows_left c.next.new.self) _ c.in-Some.ensures.steps c.loop-element.invariant

pub loop-part-preserved : goal.loop-part-preserved
loop-part-preserved g t c =
    All-rest (StandsBelow c.args.row) (row_place c.in-Some-part.part) (parts_left c.next-in-loop-part.new.self) _ c.in-Some-part.ensures.steps c.loop-part.invariant

pub write_row-requires-in-Entry : goal.write_row-requires-in-Entry
write_row-requires-in-Entry g t c κs within =
    let below = All-head (StandsBelow c.args.row) (row_place c.in-Entry.entry) [] c.in-Entry.ensures.below in
    (search rules, search rules)
