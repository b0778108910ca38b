use Rattle.std.proofs.Common.{◌≡◌, List, [], ◌∷◌, ◌++◌, None, Option, ◌∙◌, ap, ap₂, subst, refl, inl, inr, rules}
use Rattle.std.specs.Prelude.{Ok, Err, Result, MatchResult}
use Rattle.layout.specs.declared.fault.Fault.{Fault}
use Rattle.dictionaries.specs.declared.tracker.DictionaryTracker.{DictionaryTracker}
use Rattle.dictionaries.specs.declared.update.DictionaryValues.{DictionaryValues}
use Rattle.dictionaries.specs.Batches.{AreMet, updates_of_batch, kept_after}
use Rattle.dictionaries.specs.Tracking.{kept_windows}
use Rattle.timing.specs.Updates.{Collects}
use Rattle.timing.proofs.recollect.Goals as goal
use Rattle.timing.proofs.recollect.Goals.{After-next_dict_id, After-keep}

both : {X E : Type 0} (P Q : X → Type 0) (R S : E → Type 0) (r : Result X E) → ((x : X) → P x → Q x) → ((e : E) → R e → S e) → MatchResult r P R → MatchResult r Q S
both P Q R S (Ok x) f g m = f x m
both P Q R S (Err e) f g m = g e m

-- one id, with nothing kept under it
one : (t u : DictionaryTracker) → kept_windows t ≡ [] → kept_windows u ≡ kept_windows t ++ None ∷ [] → kept_windows u ≡ None ∷ []
one t u e f = f ∙ ap (λ (ks : List (Option DictionaryValues)). ks ++ None ∷ []) e

pub returns-in_err-columns : goal.returns-in_err-columns
returns-in_err-columns c =
    let f : Fault = c.in_err-columns.field-0.0 in
    let e : c.from_residual-in_err-columns.result ≡ Err f = search rules in
    rw e (c.default-options.result, c.default-options.ensures, inl (f, refl, inl c.in_err-columns.ensures))

pub returns-in_err-met : goal.returns-in_err-met
returns-in_err-met c =
    let f : Fault = c.in_err-met.field-0.0 in
    let e : c.from_residual-in_err-met.result ≡ Err f = search rules in
    let none = one c.new-tracker.result c.next_dict_id.new.self c.new-tracker.ensures c.in_ok-next_dict_id.ensures.1 in
    let columns = c.in_ok-columns.field-0 in
    let options = c.default-options.result in
    let refused = subst (λ (ks : List (Option DictionaryValues)). updates_of_batch options ks columns ≡ Err f) none c.in_err-met.ensures.met in
    rw e (options, c.default-options.ensures, inl (f, refl, inr (columns, c.in_ok-columns.ensures, refused)))

-- the first was collected and kept
kept : (c : After-keep) → kept_windows c.keep.new.self ≡ kept_after (None ∷ []) c.in_ok-met.met.items
kept c =
    let none = one c.new-tracker.result c.next_dict_id.new.self c.new-tracker.ensures c.in_ok-next_dict_id.ensures.1 in
    c.keep.ensures ∙ ap₂ kept_after (ap kept_windows c.in_ok-met.ensures.kept ∙ none) c.deref.ensures.0

collected : (c : After-keep) → Collects c.args.recording.now c.default-options.result (None ∷ []) c.args.kept (Ok c.in_ok-met.met.items)
collected c =
    let met = subst (λ (ks : List (Option DictionaryValues)). AreMet c.default-options.result ks c.in_ok-columns.field-0 c.in_ok-met.met.items)
    (one c.new-tracker.result c.next_dict_id.new.self c.new-tracker.ensures c.in_ok-next_dict_id.ensures.1) c.in_ok-met.ensures.met in
    (c.in_ok-columns.field-0, c.in_ok-columns.ensures, met)

pub returns-in_err-columns-2 : goal.returns-in_err-columns-2
returns-in_err-columns-2 c =
    let f : Fault = c.in_err-columns-2.field-0.0 in
    let e : c.from_residual-in_err-columns-2.result ≡ Err f = search rules in
    rw e (c.default-options.result, c.default-options.ensures, inr (c.in_ok-met.met.items, collected c.before.before.before.before.before, inl c.in_err-columns-2.ensures))

pub returns : goal.returns
returns c =
    let options = c.default-options.result in
    let columns = c.in_ok-columns-2.field-0 in
    let k = kept c.before.before.before.before.before.before.before in
    let before = collected c.before.before.before.before.before.before.before in
    both _ _ _ _ c.collect_all_dicts-2.result
    (λ ms m. (options, c.default-options.ensures, inr (c.in_ok-met.met.items, before, (columns, c.in_ok-columns-2.ensures, subst (λ (ks : List (Option DictionaryValues)). AreMet options ks columns ms.items) k m))))
    (λ f m. (options, c.default-options.ensures, inr (c.in_ok-met.met.items, before, inr (columns, c.in_ok-columns-2.ensures, subst (λ (ks : List (Option DictionaryValues)). updates_of_batch options ks columns ≡ Err f) k m))))
    c.collect_all_dicts-2.ensures.met
