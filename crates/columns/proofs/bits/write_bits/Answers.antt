use Rattle.std.proofs.Common.{◌≡◌, ℕ, ◌+◌, ◌-◌, ◌/◌, List, ◌++◌, drop, slice_set, sym, ap, ◌∙◌, subst, refl, arith}
use Rattle.std.proofs.lemmas.List.{length-take-le}
use Rattle.layout.specs.Bits.{bytes_for}
use Rattle.layout.specs.Lists.{rows, cut}
use Rattle.laws.specs.Places.{Below}
use Rattle.laws.proofs.Places.{bits_made}
use Rattle.columns.proofs.SentBits.{byte, shifted, bytes_shifted, row_last, row_whole}
use Rattle.columns.proofs.bits.write_bits.Goals as goal

pub returns-then-shift-eq0 : goal.returns-then-shift-eq0
returns-then-shift-eq0 c =
    let s = c.args.bits.now in
    let n : s.first / 8 + bytes_for s.len - s.first / 8 ≡ bytes_for s.len = omega arith in
    let part = ap (λ (k : ℕ). cut (s.first / 8) k s.bytes.now) (ap (λ (k : ℕ). s.first / 8 + k - s.first / 8) c.requires ∙ n) in
    c.copy_bytes.ensures.value ∙ part
    ∙ sym ((bits_made s.bytes.now s.first s.len).unchanged (omega arith) (subst (Below 256) part c.copy_bytes.ensures.bytes) (omega (arith, s.within)))

pub returns-then-whole-out : goal.returns-then-whole-out
returns-then-whole-out c =
    let s = c.args.bits.now in
    let whole = c.shift_bytes.ensures.value ∙ bytes_shifted s _ _ _ (s.len / 8) refl (omega arith) (length-take-le (s.len / 8) c.args.out.now (omega (arith, c.requires))) (omega arith) c.shift_bytes.ensures.bytes in
    ap (λ (xs : List ℕ). slice_set (xs ++ drop (s.len / 8) c.args.out.now) (s.len / 8) c.byte.result) whole
    ∙ row_last (s.len / 8) (byte s) c.args.out.now c.byte.result (omega arith) c.byte.ensures
    ∙ ap (λ (k : ℕ). rows k (byte s)) (omega arith)
    ∙ shifted s (omega arith)

pub returns-else-whole-out : goal.returns-else-whole-out
returns-else-whole-out c =
    let s = c.args.bits.now in
    let whole = c.shift_bytes.ensures.value ∙ bytes_shifted s _ _ _ (s.len / 8) refl (omega arith) (length-take-le (s.len / 8) c.args.out.now (omega (arith, c.requires))) (omega arith) c.shift_bytes.ensures.bytes in
    row_whole (s.len / 8) c.shift_bytes.new.out c.args.out.now (omega arith) ∙ whole ∙ ap (λ (k : ℕ). rows k (byte s)) (omega arith) ∙ shifted s (omega arith)
