-- The numbers of a description fit 8 bytes.
use Rattle.std.proofs.Common.{ℕ, ◌+◌, ◌^◌, ◌<◌, List, [], ◌∷◌, ◌++◌, length, map, take, get_or, refl, subst, ℤ, pos, negsuc, w64, arith}
use Rattle.std.specs.List.{All}
use Rattle.std.proofs.lemmas.List.Elements.{All-nil, All-cons, All-append}
use Rattle.std.proofs.lemmas.List.{length-map}
use mir.Val.{SFits}
use Rattle.columns.specs.declared.message.MessageKind.{MessageKind}
use Rattle.columns.specs.declared.message.MessageKind.TheVariants as kind
use Rattle.columns.specs.declared.record.FieldRecord.{FieldRecord}
use Rattle.columns.specs.declared.record.BufferEntry.{BufferEntry}
use Rattle.columns.specs.Telling.{number, kind_read, field_read, buffer_read}
use Rattle.frames.specs.declared.form.Description.{Description}
use Rattle.frames.specs.Headers.{described}
use Rattle.frames.specs.Numbers.{kind_number, field_numbers, buffer_numbers, Spellable}
use Rattle.frames.proofs.NumberBytes.{field_more, buffer_more}

-- a number that 8 bytes hold
abbrev pub IsSmall : ℕ → Type 0
IsSmall n = n < 2 ^ 64

number_small : (z : ℤ) → SFits w64 z → IsSmall (number z)
number_small (pos n) h = omega (arith, h.sfits)
number_small (negsuc n) h = omega arith

two_more : (ns : List ℕ) (a b : ℕ) → All IsSmall ns → IsSmall a → IsSmall b → All IsSmall ((ns ++ (a ∷ [])) ++ (b ∷ []))
two_more ns a b all h k =
    All-append IsSmall (ns ++ (a ∷ [])) (b ∷ []) (All-append IsSmall ns (a ∷ []) all (All-cons IsSmall a [] h (All-nil IsSmall))) (All-cons IsSmall b [] k (All-nil IsSmall))

-- ---- the records, one more each time

pub field_fits : (fs : List FieldRecord) (i : ℕ) (d : FieldRecord) → i < length fs → SFits w64 (get_or fs i d).rows → SFits w64 (get_or fs i d).nulls
    → All IsSmall (field_numbers (map field_read (take i fs))) → All IsSmall (field_numbers (map field_read (take (i + 1) fs)))
field_fits fs i d l h k all =
    subst (λ (ns : List ℕ). All IsSmall ns) (field_more fs i _ _ d l refl refl)
    (two_more (field_numbers (map field_read (take i fs))) (number (get_or fs i d).rows) (number (get_or fs i d).nulls) all (number_small _ h) (number_small _ k))

pub buffer_fits : (es : List BufferEntry) (i : ℕ) (d : BufferEntry) → i < length es → SFits w64 (get_or es i d).buffer.offset → SFits w64 (get_or es i d).buffer.length
    → All IsSmall (buffer_numbers (map buffer_read (take i es))) → All IsSmall (buffer_numbers (map buffer_read (take (i + 1) es)))
buffer_fits es i d l h k all =
    subst (λ (ns : List ℕ). All IsSmall ns) (buffer_more es i _ _ d l refl refl)
    (two_more (buffer_numbers (map buffer_read (take i es))) (number (get_or es i d).buffer.offset) (number (get_or es i d).buffer.length) all (number_small _ h) (number_small _ k))

-- ---- a description

kind_small : (k : MessageKind) → IsSmall (kind_number (kind_read k))
kind_small kind.Batch = omega arith
kind_small kind.Dictionary = omega arith
kind_small kind.Delta = omega arith

pub description_fits : (d : Description) → IsSmall d.id → IsSmall d.rows → IsSmall d.body_len → IsSmall (length d.fields.now) → IsSmall (length d.buffers.now)
    → All IsSmall (field_numbers (map field_read d.fields.now)) → All IsSmall (buffer_numbers (map buffer_read d.buffers.now)) → Spellable (described d)
description_fits d id rows body fields_long buffers_long fields buffers =
    let fs : List ℕ = field_numbers (map field_read d.fields.now) in
    let bs : List ℕ = buffer_numbers (map buffer_read d.buffers.now) in
    let few_fields : IsSmall (length (map field_read d.fields.now)) = omega (arith, length-map d.fields.now field_read, fields_long) in
    let few_buffers : IsSmall (length (map buffer_read d.buffers.now)) = omega (arith, length-map d.buffers.now buffer_read, buffers_long) in
    let from_buffers : List ℕ = length (map buffer_read d.buffers.now) ∷ bs in
    let from_fields : List ℕ = length (map field_read d.fields.now) ∷ (fs ++ from_buffers) in
    All-cons IsSmall (kind_number (kind_read d.kind)) (d.id ∷ d.rows ∷ d.body_len ∷ from_fields) (kind_small d.kind)
    (All-cons IsSmall d.id (d.rows ∷ d.body_len ∷ from_fields) id
    (All-cons IsSmall d.rows (d.body_len ∷ from_fields) rows
    (All-cons IsSmall d.body_len from_fields body
    (All-cons IsSmall _ (fs ++ from_buffers) few_fields (All-append IsSmall fs from_buffers fields (All-cons IsSmall _ bs few_buffers buffers))))))
