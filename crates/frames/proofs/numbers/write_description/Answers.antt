use Rattle.std.proofs.Common.{ℕ, ◌+◌, ◌-◌, ◌*◌, List, [], ◌∷◌, ◌++◌, length, map, refl, ap, ◌∙◌, arith}
use Rattle.columns.specs.Telling.{field_read, buffer_read}
use Rattle.layout.specs.Numbers.{le_all}
use Rattle.frames.specs.Numbers.{field_numbers, buffer_numbers}
use Rattle.frames.proofs.NumberBytes.{none_written, one_written, part_written, all_written, length-fields, length-buffers, pieces_are}
use Rattle.frames.proofs.numbers.write_description.Goals as goal

pub returns : goal.returns
returns c =
    let d = c.args.message.now in
    let kind = c.number_of.result in
    let fields : ℕ = length d.fields.now in
    let buffers : ℕ = length d.buffers.now in
    let head : List ℕ = kind ∷ d.id ∷ d.rows ∷ d.body_len ∷ fields ∷ [] in
    let fs : List ℕ = field_numbers (map field_read d.fields.now) in
    let bs : List ℕ = buffer_numbers (map buffer_read d.buffers.now) in
    let room : ℕ = length c.args.out.now in
    let end : ℕ = 40 + fields * 16 in
    let w0 = none_written c.args.out.now room refl in
    let w1 = one_written [] kind 0 8 room _ c.put.new.out w0 refl (omega arith) c.put.ensures in
    let w2 = one_written _ d.id 8 16 room _ c.put-2.new.out w1 refl (omega arith) c.put-2.ensures in
    let w3 = one_written _ d.rows 16 24 room _ c.put-3.new.out w2 refl (omega arith) c.put-3.ensures in
    let w4 = one_written _ d.body_len 24 32 room _ c.put-4.new.out w3 refl (omega arith) c.put-4.ensures in
    let w5 = one_written _ fields 32 40 room _ c.put-5.new.out w4 refl (omega arith) c.put-5.ensures in
    let w6 = part_written head fs 40 (end - 40) end room c.put-5.new.out c.write_fields.new.out w5 (omega (arith, length-fields d)) (omega arith) (omega arith) c.write_fields.ensures in
    let w7 = one_written (head ++ fs) buffers end (end + 8) room _ c.put-6.new.out w6 refl (omega arith) c.put-6.ensures in
    let w8 = part_written ((head ++ fs) ++ (buffers ∷ [])) bs (end + 8) (length c.put-6.new.out - (end + 8)) room room c.put-6.new.out c.write_buffers.new.out w7 (omega (arith, length-buffers d, w7.long)) (omega (arith, w7.long)) (omega arith) c.write_buffers.ensures in
    all_written _ room room _ w8 (omega arith) ∙ ap (le_all 8) (pieces_are d kind c.number_of.ensures)
