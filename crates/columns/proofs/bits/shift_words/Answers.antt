use Rattle.std.proofs.Common.{◌≡◌, ℕ, ◌+◌, ◌-◌, ◌*◌, ◌/◌, ◌%◌, ◌^◌, ◌≤◌, length, take, refl, sym, ap, ap₂, ◌∙◌, arith}
use Rattle.layout.specs.Lists.{rows}
use Rattle.layout.specs.Numbers.{le_all}
use Rattle.columns.proofs.SentOffsets.{one_written}
use Rattle.columns.proofs.ShiftedWords.{shifted_word, words_shifted, word_read}
use Rattle.columns.proofs.bits.shift_words.Goals as goal

pub loop-i-preserved : goal.loop-i-preserved
loop-i-preserved c =
    let bs = c.args.bytes.now in
    let s = c.args.shift in
    let i = c.loop-i.i in
    let low = word_read bs (i * 8) _ c.read-low.result refl c.read-low.ensures in
    let high = word_read bs (i * 8 + 8) _ c.read-high.result refl c.read-high.ensures in
    let word = ap₂ (λ (x y : ℕ). (x / 2 ^ s + y * 2 ^ (64 - s) % 2 ^ 64) % 2 ^ 64) low high in
    let room : i * 8 + 8 ≤ length c.loop-i.out = omega (arith, c.requires.long, c.loop-i.invariant.long, c.loop-i-test.true) in
    let made = one_written 8 i (shifted_word bs s) c.loop-i.out c.loop-i.invariant.done room _ _ _ _ c.write.new.out refl refl refl c.write.ensures.after word in
    record { long = made.0 ∙ c.loop-i.invariant.long; done = made.1 }

pub returns-clause-value : goal.returns-clause-value
returns-clause-value c =
    let bs = c.args.bytes.now in
    let s = c.args.shift in
    let words = c.saturating_sub-words.result / 8 in
    let end : c.loop-i.i ≡ words = omega arith in
    ap (λ (k : ℕ). take (k * 8) c.loop-i.out) (sym end)
    ∙ c.loop-i.invariant.done
    ∙ ap (λ (k : ℕ). le_all 8 (rows k (shifted_word bs s))) end
    ∙ words_shifted bs s c.requires.few (λ k. omega (arith, c.type_inv.bytes k)) words (omega (arith, c.requires.long))
