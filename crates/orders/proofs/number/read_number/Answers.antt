use Rattle.std.proofs.Common.{◌≡◌, ℕ, ◌+◌, ◌-◌, ◌*◌, ◌^◌, ◌<◌, ◌≤◌, get_or, take, Ok, Err, sym, ap, ◌∙◌, arith, rules}
use Rattle.orders.specs.declared.error.Why.TheVariants.{NumberTooLarge}
use Rattle.std.specs.Str.Parse.{digits_value}
use Rattle.std.proofs.lemmas.List.{take_all}
use Rattle.orders.proofs.Digits.{digit, one_more, too_large, fitting, no_number, back}
use Rattle.orders.proofs.number.read_number.Goals as goal

pub overflow_sub-byte : goal.overflow_sub-byte
overflow_sub-byte c = omega (arith, digit c.args.word.now (sym c.if-not-is_numeral.ensures) c.loop-byte.byte-index c.loop-byte-test.true)

pub returns-then-not-is_numeral : goal.returns-then-not-is_numeral
returns-then-not-is_numeral c =
    let is = no_number c.args.word.now (sym c.if-not-is_numeral.ensures) in
    record { value = is; back = back c.args.word.now _ is }

pub returns : goal.returns
returns c =
    let word = c.args.word.now in
    let all : c.loop-byte.number ≡ digits_value 10 word = c.loop-byte.invariant.0 ∙ ap (digits_value 10) (take_all _ word (omega arith)) in
    let is = ap (λ n. Ok n) all ∙ fitting word (sym c.if-not-is_numeral.ensures) (omega (arith, c.loop-byte.invariant.1)) in
    record { value = is; back = back word _ is }

pub loop-byte-preserved : goal.loop-byte-preserved
loop-byte-preserved c =
    let step = one_more c.args.word.now (sym c.if-not-is_numeral.ensures) c.loop-byte.byte-index c.loop-byte-test.true in
    let next : ℕ = c.loop-byte.number * 10 + (get_or c.args.word.now c.loop-byte.byte-index 0 - 48) in
    let told : (next < 2 ^ 64) × (c.in_ok-number.number ≡ next) = search rules in
    (omega (arith, told.1, c.loop-byte.invariant.0), omega (arith, told.0, told.1))

pub returns-in_err-number : goal.returns-in_err-number
returns-in_err-number c =
    let word = c.args.word.now in
    let i = c.loop-byte.byte-index in
    let h = sym c.if-not-is_numeral.ensures in
    let next : ℕ = c.loop-byte.number * 10 + (get_or word i 0 - 48) in
    let none : next < 2 ^ 64 → ⊥ = search rules in
    let big : 2 ^ 64 ≤ digits_value 10 (take (i + 1) word) = omega (arith, c.loop-byte.invariant.0, none, one_more word h i c.loop-byte-test.true) in
    let why : c.from_residual.result ≡ Err NumberTooLarge = search rules in
    let is = why ∙ too_large word h (i + 1) big in
    record { value = is; back = back word _ is }
