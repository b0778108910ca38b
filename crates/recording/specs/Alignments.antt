-- The alignments that a stream may have.
use Rattle.std.specs.Prelude.{ℕ, Bool, ◌||◌, ◌==◌}
use Rattle.recording.specs.declared.alignment.Alignment.{Alignment}
use Rattle.recording.specs.declared.alignment.Alignment.TheVariants.{Eight, Sixteen, ThirtyTwo, SixtyFour}

abbrev pub is_alignment : ℕ → Bool
is_alignment n = n == 8 || (n == 16 || (n == 32 || n == 64))

abbrev pub alignment_number : Alignment → ℕ
alignment_number Eight = 8
alignment_number Sixteen = 16
alignment_number ThirtyTwo = 32
alignment_number SixtyFour = 64
