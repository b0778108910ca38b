-- Buffers that are made in work memory.
use Rattle.std.proofs.Common.{◌≡◌, ℕ, ◌+◌, ◌≤◌, List, length, ◌∙◌}
use borrow.Rule.Slice.PartMut.{put_mid}
use Rattle.columns.specs.declared.buffer.Buffer.{Buffer}
use Rattle.columns.specs.declared.record.EncodedBuffer.TheVariants.{Work}
use Rattle.columns.specs.Buffers.{Makes}
use Rattle.columns.proofs.Lists.{over_mid}

-- by a part of the work memory that is written whole
pub makes_part : (at : ℕ) (before after : List ℕ) (b : Buffer) (bs zs : List ℕ) (k : ℕ) → zs ≡ bs → k ≡ length bs → at + length bs ≤ length before
    → after ≡ put_mid at k before zs → b.source ≡ Work at → b.len ≡ length bs → Makes bs at before after b
makes_part at before after b bs zs k e n room memory source long = record {
  memory = memory ∙ over_mid before at k zs bs e room n;
  source = source;
  long = long;
}
