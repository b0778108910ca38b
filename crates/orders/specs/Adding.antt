-- What more a line says of the last case.
use Rattle.std.specs.Prelude.{List, vec_items, string_bytes}
use Rattle.orders.specs.declared.More.{More}
use Rattle.orders.specs.declared.More.TheVariants as more
use Rattle.orders.specs.Options.{with_alignment, with_dictionary_handling, with_error_on_replacement}
use Rattle.orders.specs.Orders.{Spelled, appended, optioned, formed, headed, sunk, sent_to, asked, of_last}

abbrev pub added : More → Spelled → Spelled
added (more.Run part bytes) = appended part bytes.now
added (more.Align n) = optioned (with_alignment n)
added (more.Handling h) = optioned (with_dictionary_handling h)
added (more.ErrorOnReplacement e) = optioned (with_error_on_replacement e)
added (more.Form form) = formed form
added (more.Header header) = headed (vec_items header)
added (more.Sink sizes) = sunk sizes
added (more.Out path) = sent_to (string_bytes path)
added (more.Call call) = asked call

abbrev pub to_last_of : More → List Spelled → List Spelled
to_last_of m cs = of_last (added m) cs
