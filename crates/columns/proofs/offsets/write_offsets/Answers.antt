use Rattle.std.proofs.Common.{◌≡◌, ℕ, ◌+◌, ◌-◌, ◌*◌, ◌≤◌, length, ap, ap₂, ◌∙◌, refl, suc-mul, mul-le-mul_right, arith}
use Rattle.layout.specs.Numbers.{wide}
use Rattle.recording.specs.Contents.{offset_in}
use Rattle.columns.proofs.SentOffsets.{offset_small, offset_first, offset_read, one_written}
use Rattle.columns.proofs.offsets.write_offsets.Goals as goal

pub write-requires-clause-fits : goal.write-requires-clause-fits
write-requires-clause-fits g c =
    let bs = c.args.offsets.now in
    let w : ℕ = wide c.WIDTH-width.result in
    let i = c.loop-i.i in
    let read = offset_read bs w w i (i * c.bytes.result) _ c.read-offset.result refl (ap (λ (v : ℕ). i * v) c.bytes.ensures) refl c.read-offset.ensures in
    omega (arith, read, offset_small bs w i (λ k. omega (arith, c.type_inv.offsets k)))

pub loop-i-preserved : goal.loop-i-preserved
loop-i-preserved g c =
    let w : ℕ = wide g.O.OffsetSizeTrait.WIDTH in
    let bs = c.args.offsets.now in
    let i = c.loop-i.i in
    let same : wide c.WIDTH-width.result ≡ w = ap wide c.WIDTH-width.ensures in
    let place : i * c.bytes.result ≡ i * wide c.WIDTH-width.result = ap (λ (v : ℕ). i * v) c.bytes.ensures in
    let next : (i + 1) * w ≤ (c.args.rows + 1) * w = mul-le-mul_right w (omega (arith, c.loop-i-test.true)) in
    let room : i * w + w ≤ length c.loop-i.out = omega (arith, suc-mul i w, c.requires.room, c.loop-i.invariant.long) in
    let read = ap₂ (λ (x y : ℕ). x - y) (offset_read bs _ w i _ _ c.read-offset.result same place refl c.read-offset.ensures) (offset_first bs _ w c.read-first.result same c.read-first.ensures) in
    let made = one_written w i (λ k. offset_in bs w k - offset_in bs w 0) c.loop-i.out c.loop-i.invariant.done room _ _ _ _ c.write.new.out same place refl c.write.ensures.after read in
    record { long = made.0 ∙ c.loop-i.invariant.long; done = made.1 }
