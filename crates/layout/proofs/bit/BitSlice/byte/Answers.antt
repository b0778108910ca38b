use Rattle.std.proofs.Common.{◌≡◌, ℕ, ◌+◌, ◌*◌, ◌/◌, ◌%◌, ◌^◌, pow_mono, ap₂, ◌∙◌, arith}
use Rattle.layout.proofs.Bytes.{byte_read}
use Rattle.layout.proofs.bit.BitSlice.byte.Goals as goal

pub returns : goal.returns
returns c =
    let s = c.args.self.now in
    let n = c.min-count.result in
    let few : 1 * 2 ^ n % 65536 ≡ 2 ^ n = omega (arith, pow_mono {i = n} {j = 8} (omega arith)) in
    ap₂ (λ (x m : ℕ). x / 2 ^ ((s.first + 8 * c.args.i) % 8) % m) c.from_le_bytes.ensures few
    ∙ byte_read s c.args.i c.requires c.byte_at.result c.byte_at-2.result n c.byte_at.type_inv c.byte_at.ensures c.byte_at-2.ensures c.min-count.ensures
