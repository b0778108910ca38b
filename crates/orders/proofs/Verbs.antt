-- The word that a line begins with.
use Rattle.std.proofs.Common.{◌≡◌, ℕ, List, length, sym, ap}
use Rattle.std.proofs.lemmas.Slice.Eq.{HasBytesAt, text_from_reads}
use Rattle.orders.specs.Items.{verb_read}

-- a word with the length and the bytes of another is read as it
pub read_as : (w v : List ℕ) → length w ≡ length v → HasBytesAt w 0 v → verb_read v ≡ verb_read w
read_as w v l h = sym (ap verb_read (text_from_reads w v l h))
