-- How a case has its batches framed.
use Rattle.std.specs.Prelude.{ℕ, List, [], ◌∷◌, Some, None, Option}
use Rattle.orders.specs.declared.framing.FormName.{FormName}
use Rattle.orders.specs.declared.framing.FormName.TheVariants.{Numbers, Supplied}
use Rattle.orders.specs.declared.framing.SinkSizes.{SinkSizes}
use Rattle.orders.specs.declared.framing.SinkSizes.TheVariants as sink

-- where no line says
abbrev pub default_sink : SinkSizes
default_sink = sink.Bytes 67108864

-- a case that supplies a header has them supplied
abbrev pub unsaid_form : List (List ℕ) → FormName
unsaid_form [] = Numbers
unsaid_form (header ∷ headers) = Supplied

-- the form that a line says, or else what the headers tell
abbrev pub form_by : Option FormName → List (List ℕ) → FormName
form_by None headers = unsaid_form headers
form_by (Some form) headers = form
