use Rattle.std.proofs.Common.{◌≡◌, ℕ, ◌+◌, ◌-◌, ◌≤◌, Bool, sym, ap, ap₂, ◌∙◌, arith}
use Rattle.std.proofs.lemmas.Bool.{lt-ltb}
use Rattle.layout.specs.declared.bit.BitSlice.{BitSlice}
use Rattle.layout.specs.Bits.{bit_at, zeros}
use Rattle.layout.specs.BitSlices.{bit_in, bits_in, IsPart}
use Rattle.layout.specs.Lists.{rows}
use Rattle.layout.proofs.Lists.{rows_same}
use Rattle.layout.proofs.Words.{zeros_add}
use Rattle.recording.proofs.window.has_zeros.Goals as goal

-- up to the end of a part
zeros_to : (b p : BitSlice) (k n : ℕ) → IsPart b k n p → zeros (rows (k + p.len) (bit_in b)) ≡ zeros (rows k (bit_in b)) + zeros (bits_in p)
zeros_to b p k n (bytes, first, len) =
    let same = ap zeros (rows_same p.len (bit_in p) (λ i. bit_in b (k + i)) (λ i l. ap₂ bit_at bytes (omega (arith, first)))) in
    zeros_add k p.len (bit_in b) ∙ ap (λ (x : ℕ). zeros (rows k (bit_in b)) + x) (sym same)

-- the first of them have no more than all
zeros_most : (k n : ℕ) (f : ℕ → Bool) → k ≤ n → zeros (rows k f) ≤ zeros (rows n f)
zeros_most k n f l = let all : k + (n - k) ≡ n = omega arith in omega (arith, zeros_add k (n - k) f, ap (λ (m : ℕ). zeros (rows m f)) all)

pub loop-from-preserved : goal.loop-from-preserved
loop-from-preserved c =
    let b = c.args.bits.now in
    let p = c.part-block in
    record {
      within = omega arith;
      none = omega (arith, zeros_to b p.result c.loop-from.from c.min.result p.ensures);
    }

pub returns-then-count_zeros-gt0 : goal.returns-then-count_zeros-gt0
returns-then-count_zeros-gt0 c =
    let b = c.args.bits.now in
    let p = c.part-block in
    let to = zeros_to b p.result c.loop-from.from c.min.result p.ensures in
    let most = zeros_most (c.loop-from.from + p.result.len) b.len (bit_in b) (omega arith) in
    sym (lt-ltb 0 (zeros (bits_in b)) (omega arith))
