use Rattle.std.proofs.Common.{[], ◌∷◌, sym, subst}
use Rattle.recording.specs.Contents.{TellValid}
use Rattle.columns.specs.Pieces.{Piece}
use Rattle.columns.specs.Writing.{Sends, RoomFor}
use Rattle.columns.proofs.Validity.{marks_none, marks_full, marks_some}
use Rattle.columns.proofs.writer.IpcMessageWriter.write_null_buffer.Goals as goal

pub encode_nothing-requires : goal.encode_nothing-requires
encode_nothing-requires c =
    let none = marks_none c.args.window.now c.requires.kind (subst (TellValid c.args.window.now) c.in_default.is c.marks.ensures) in
    subst (λ (p : Piece). RoomFor [] (p ∷ []) c.args.self.now) none c.requires.room

pub returns-in_default : goal.returns-in_default
returns-in_default c =
    let none = marks_none c.args.window.now c.requires.kind (subst (TellValid c.args.window.now) c.in_default.is c.marks.ensures) in
    subst (λ (p : Piece). Sends [] (p ∷ []) c.args.self.now c.encode_nothing.new.self) (sym none) c.encode_nothing.ensures

pub returns-then-nulls-eq0 : goal.returns-then-nulls-eq0
returns-then-nulls-eq0 c =
    let full = marks_full c.args.window.now c.requires.kind c.in-Some.marks (subst (TellValid c.args.window.now) c.in-Some.is c.marks.ensures) c.args.nulls c.requires.nulls c.if-nulls-eq0.true in
    subst (λ (p : Piece). Sends [] (p ∷ []) c.args.self.now c.encode_nothing-then-nulls-eq0.new.self) (sym full) c.encode_nothing-then-nulls-eq0.ensures

pub write_bits-requires : goal.write_bits-requires
write_bits-requires c =
    let some = marks_some c.args.window.now c.requires.kind c.in-Some.marks (subst (TellValid c.args.window.now) c.in-Some.is c.marks.ensures) c.args.nulls c.requires.nulls c.if-nulls-eq0.false in
    subst (λ (p : Piece). RoomFor [] (p ∷ []) c.args.self.now) some c.requires.room

pub returns-else-nulls-eq0 : goal.returns-else-nulls-eq0
returns-else-nulls-eq0 c =
    let some = marks_some c.args.window.now c.requires.kind c.in-Some.marks (subst (TellValid c.args.window.now) c.in-Some.is c.marks.ensures) c.args.nulls c.requires.nulls c.if-nulls-eq0.false in
    subst (λ (p : Piece). Sends [] (p ∷ []) c.args.self.now c.write_bits.new.self) (sym some) c.write_bits.ensures
