-- The sizes that follow the word for a kind of sink.
use Rattle.std.proofs.Common.{◌≡◌, ℕ, List, length, sym, ap, ◌∙◌}
use Rattle.std.proofs.lemmas.Slice.Eq.{HasBytesAt, text_from_reads}
use Rattle.orders.specs.Texts.{IsFirstWord}
use Rattle.orders.specs.Items.{sink_of, sink_read}

module _ {text kind rest : List ℕ} (f : IsFirstWord text kind rest) where
  by_kind : sink_of kind rest ≡ sink_read text
  by_kind = rw (f.some, ← f.word, ← f.rest)

  -- a first word with the length and the bytes of a kind is read as it
  pub sized_as : (v : List ℕ) → length kind ≡ length v → HasBytesAt kind 0 v → sink_of v rest ≡ sink_read text
  sized_as v l h = ap (λ k. sink_of k rest) (sym (text_from_reads kind v l h)) ∙ by_kind
