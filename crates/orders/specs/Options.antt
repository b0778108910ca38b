-- The options of a case.
use Rattle.std.specs.Prelude.{ℕ, Bool, false}
use Rattle.recording.specs.declared.options.DictionaryHandling.{DictionaryHandling}
use Rattle.recording.specs.declared.options.DictionaryHandling.TheVariants.{Resend}
use Rattle.orders.specs.declared.options.Options.{Options}

-- where no line sets any
abbrev pub default_options : Options
default_options = record { alignment = 64; dictionary_handling = Resend; error_on_replacement = false }

abbrev pub with_alignment : ℕ → Options → Options
with_alignment n o = record o { alignment = n }

abbrev pub with_dictionary_handling : DictionaryHandling → Options → Options
with_dictionary_handling h o = record o { dictionary_handling = h }

abbrev pub with_error_on_replacement : Bool → Options → Options
with_error_on_replacement e o = record o { error_on_replacement = e }
