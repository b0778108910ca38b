use Rattle.std.proofs.Common.{◌≡◌, List, Option, Err, subst, inl, inr, refl, rules}
use Rattle.layout.specs.declared.fault.Fault.{Fault}
use Rattle.dictionaries.specs.declared.update.DictionaryValues.{DictionaryValues}
use Rattle.dictionaries.specs.declared.update.MetDictionary.{MetDictionary}
use Rattle.dictionaries.specs.Batches.{AreMet, updates_of_batch}
use Rattle.columns.specs.Plans.{messages_of}
use Rattle.timing.specs.Framing.{FramesMessages}
use Rattle.timing.proofs.frame.frame_columns.Goals as goal

pub returns-in_err-met : goal.returns-in_err-met
returns-in_err-met c =
    let f : Fault = c.in_err-met.field-0.0 in
    let is : c.from_residual-in_err-met.result ≡ Err f = search rules in
    let options = c.default-options.result in
    let columns = c.in_ok-columns.columns in
    let refused = subst (λ (ks : List (Option DictionaryValues)). updates_of_batch options ks columns ≡ Err f) c.new.ensures c.in_err-met.ensures.met in
    rw is (options, c.default-options.ensures, inr (columns, c.in_ok-columns.ensures, inl (f, refl, refused)))

pub returns : goal.returns
returns c =
    let options = c.default-options.result in
    let columns = c.in_ok-columns.columns in
    let ms = c.in_ok-met.met.items in
    let met = subst (λ (ks : List (Option DictionaryValues)). AreMet options ks columns ms) c.new.ensures c.in_ok-met.ensures.met in
    let framed = subst (λ (xs : List MetDictionary). FramesMessages (messages_of columns xs) c.args.work.now c.args.metadata.now c.args.out.now c.frame_messages.new.out c.frame_messages.result) c.deref.ensures.0
    (c.frame_messages.ensures c.default-options.ensures) in
    (options, c.default-options.ensures, inr (columns, c.in_ok-columns.ensures, inr (ms, met, framed)))
