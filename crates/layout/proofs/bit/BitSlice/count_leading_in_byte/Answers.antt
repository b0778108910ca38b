use Rattle.std.proofs.Common.{◌≡◌, ◌+◌, Bool, true, false, not, sym, ap, ◌∙◌, inl, inr, arith}
use Rattle.std.proofs.lemmas.Bool.{cases_eq}
use Rattle.layout.specs.Bits.{bit_of, bit_at}
use Rattle.layout.proofs.Leading.{in_byte}
use Rattle.layout.proofs.bit.BitSlice.count_leading_in_byte.Goals as goal

not_both : (x b : Bool) → x ≡ b → x ≡ not b → ⊥
not_both true true e f = cc
not_both true false e f = cc
not_both false true e f = cc
not_both false false e f = cc

pub returns-clause-some : goal.returns-clause-some
returns-clause-some c =
    let s = c.args.self.now in
    let first = sym (in_byte s.bytes.now (s.first + c.args.from) 0 (omega arith)) ∙ ap (bit_at s.bytes.now) (omega arith) ∙ c.requires.first in
    elim (cases_eq c.count_trailing.result 0) [
      | inl z ↦ absurd (not_both _ _ first (ap (bit_of _) (sym z) ∙ c.count_trailing.ensures.ends (omega arith)))
      | inr some ↦ omega arith
    ]

pub returns-clause-ends : goal.returns-clause-ends
returns-clause-ends c l h =
    let s = c.args.self.now in
    let n : c.min-2.result ≡ c.count_trailing.result = omega arith in
    ap (bit_at s.bytes.now) (omega arith) ∙ in_byte s.bytes.now (s.first + c.args.from) c.count_trailing.result (omega arith) ∙ c.count_trailing.ensures.ends (omega arith)

pub returns-clause-alike : goal.returns-clause-alike
returns-clause-alike c i h =
    let s = c.args.self.now in
    ap (bit_at s.bytes.now) (omega arith) ∙ in_byte s.bytes.now (s.first + c.args.from) i (omega arith) ∙ c.count_trailing.ensures.alike i (omega arith)
