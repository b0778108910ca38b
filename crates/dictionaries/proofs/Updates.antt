-- Updates, from what is kept.
use Rattle.std.proofs.Common.{◌≡◌, ℕ, Bool, true, false, cond, List, Some, Option, Result, sym, refl, ap, ◌∙◌}
use Rattle.layout.specs.Shown.{Shown}
use Rattle.layout.specs.Windows.{shown_in, tree_in}
use Rattle.layout.specs.declared.fault.Refusal.{Refusal}
use Rattle.laws.proofs.Says.{counts}
use Rattle.recording.specs.declared.options.IpcWriteOptions.{IpcWriteOptions}
use Rattle.layout.specs.declared.node.Node.{Node}
use Rattle.dictionaries.specs.declared.update.DictionaryUpdate.{DictionaryUpdate}
use Rattle.dictionaries.specs.declared.update.DictionaryValues.{DictionaryValues}
use Rattle.dictionaries.specs.Collecting.{lacking, shows, compared_with, update_by, allowed, update_of}
use Rattle.dictionaries.specs.Tracking.{values_at, has_values, kept_shown}

-- of values that are kept, whether the recording has them or not
pub update_is : (o : IpcWriteOptions) (ns : List Node) (bs : List ℕ) (old : DictionaryValues) (s : Shown)
    → update_of o (kept_shown ns bs (Some old)) s ≡ allowed o.error_on_replacement (update_by o.dictionary_handling old.rows (compared_with (kept_shown ns bs (Some old)) s))
update_is o ns bs old s = by (has_values ns old)
  where
    t : Shown
    t = shown_in (values_at ns bs old)

    by : (b : Bool) → update_of o (cond b (shows t) lacking) s ≡ allowed o.error_on_replacement (update_by o.dictionary_handling old.rows (compared_with (cond b (shows t) lacking) s))
    by true = ap (λ (n : ℕ). allowed o.error_on_replacement (update_by o.dictionary_handling n (compared_with (shows t) s))) (counts bs (tree_in (values_at ns bs old)) 0 old.rows)
    by false = refl

pub update_found : (o : IpcWriteOptions) (ns : List Node) (bs : List ℕ) (kept : Option DictionaryValues) (old : DictionaryValues) (s : Shown) (u : DictionaryUpdate) (r : Result DictionaryUpdate Refusal)
    → kept ≡ Some old → u ≡ update_by o.dictionary_handling old.rows (compared_with (kept_shown ns bs (Some old)) s) → r ≡ allowed o.error_on_replacement u → r ≡ update_of o (kept_shown ns bs kept) s
update_found o ns bs kept old s u r at is e =
    e ∙ ap (allowed o.error_on_replacement) is ∙ sym (update_is o ns bs old s) ∙ ap (λ (k : Option DictionaryValues). update_of o (kept_shown ns bs k) s) (sym at)
