use Rattle.std.proofs.Common.{sym, refl, subst}
use Rattle.recording.specs.Contents.{TellValid}
use Rattle.dictionaries.proofs.Marks.{marks_both, marks_of_one, marks_of_none, marks_turned}
use Rattle.dictionaries.proofs.comparison.equal_marks.Goals as goal

pub returns-in-Some-Some : goal.returns-in-Some-Some
returns-in-Some-Some c =
    let one = c.args.one.now in
    let other = c.args.other.now in
    marks_both one other c.requires.shapes c.requires.rows c.in-Some-Some.mine c.in-Some-Some.others c.equal_bits.result
    (subst (TellValid one) c.in-Some-Some.is-0 c.marks.ensures) (subst (TellValid other) c.in-Some-Some.is-1 c.marks-2.ensures) c.equal_bits.ensures

pub returns-in-None-None : goal.returns-in-None-None
returns-in-None-None c =
    let one = c.args.one.now in
    let other = c.args.other.now in
    let same = marks_of_none one other c.requires.shapes c.requires.rows (subst (TellValid one) c.in-None-None.is-0 c.marks.ensures) (subst (TellValid other) c.in-None-None.is-1 c.marks-2.ensures) in
    (λ t. same, λ s. refl)

pub returns-in-Some-None : goal.returns-in-Some-None
returns-in-Some-None c =
    let one = c.args.one.now in
    let other = c.args.other.now in
    marks_of_one one other c.requires.shapes c.requires.rows c.in-Some-None.mine c.count_zeros.result
    (subst (TellValid one) c.in-Some-None.is-0 c.marks.ensures) (subst (TellValid other) c.in-Some-None.is-1 c.marks-2.ensures) c.count_zeros.ensures

pub returns-in-None-Some : goal.returns-in-None-Some
returns-in-None-Some c =
    let one = c.args.one.now in
    let other = c.args.other.now in
    marks_turned one other _ c.requires.rows
    (marks_of_one other one (sym c.requires.shapes) (sym c.requires.rows) c.in-None-Some.others c.count_zeros-in-None-Some.result
    (subst (TellValid other) c.in-None-Some.is-1 c.marks-2.ensures) (subst (TellValid one) c.in-None-Some.is-0 c.marks.ensures) c.count_zeros-in-None-Some.ensures)
