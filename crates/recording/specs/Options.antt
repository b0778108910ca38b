-- What options set: an alignment by its number, and what is done with dictionaries.
use Rattle.std.specs.Prelude.{◌≡◌, ℕ, Bool}
use Rattle.recording.specs.declared.options.DictionaryHandling.{DictionaryHandling}
use Rattle.recording.specs.declared.options.IpcWriteOptions.{IpcWriteOptions}
use Rattle.recording.specs.Alignments.{alignment_number}

pub record Sets (o : IpcWriteOptions) (a : ℕ) (h : DictionaryHandling) (e : Bool) : Type 0 where
  pub alignment : alignment_number o.alignment ≡ a
  pub handling : o.dictionary_handling ≡ h
  pub errs : o.error_on_replacement ≡ e
