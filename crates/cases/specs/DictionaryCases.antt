-- Updates of dictionaries, worked from the definitions.
use Rattle.std.specs.Prelude.{◌≡◌, ℕ, Bool, true, false, List, [], ◌∷◌, map, Ok, Err, Result}
use Rattle.layout.specs.declared.fault.Fault.{Fault}
use Rattle.layout.specs.declared.fault.Refusal.{Refusal}
use Rattle.layout.specs.declared.fault.Refusal.TheVariants.{DictionaryAboveDictionary, NoId, Replacement}
use Rattle.layout.specs.Faults.{fault_of}
use Rattle.layout.specs.Shown.{Label, Marks, Shown, Showns}
use Rattle.recording.specs.declared.alignment.Alignment.TheVariants.{Eight}
use Rattle.recording.specs.declared.options.DictionaryHandling.{DictionaryHandling}
use Rattle.recording.specs.declared.options.DictionaryHandling.TheVariants.{Resend, Delta}
use Rattle.recording.specs.declared.options.IpcWriteOptions.{IpcWriteOptions}
use Rattle.dictionaries.specs.declared.update.DictionaryUpdate.{DictionaryUpdate}
use Rattle.dictionaries.specs.declared.update.DictionaryUpdate.TheVariants as update
use Rattle.dictionaries.specs.Collecting.{Kept, absent, lacking, shows, update_of, collected, met_columns}

abbrev pub options : DictionaryHandling → Bool → IpcWriteOptions
options handling refuses = record { alignment = Eight; dictionary_handling = handling; error_on_replacement = refuses }

abbrev pub label : ℕ → Label
label span = record { mark = 0; span = span }

-- values of a byte each, none null
abbrev pub letters : List ℕ → Shown
letters bs = Shown.fixed (label 1) 1 Marks.all (map (λ (b : ℕ). b ∷ []) bs)

-- the same with another mark
abbrev pub remarked : List ℕ → Shown
remarked bs = Shown.fixed (record { mark = 1; span = 1 }) 1 Marks.all (map (λ (b : ℕ). b ∷ []) bs)

-- what comes of new letters where a and b are kept
abbrev pub after_ab : DictionaryHandling → Bool → List ℕ → Result DictionaryUpdate Refusal
after_ab handling refuses bs = update_of (options handling refuses) (shows (letters (97 ∷ 98 ∷ []))) (letters bs)

-- a column of one row whose dictionary has these values; below it stand as many nodes as its span says
abbrev pub keyed : ℕ → Shown → Shown
keyed span s = Shown.dictionary (label span) 1 Marks.all ((0 ∷ []) ∷ []) s

-- a Struct of a Null and of a dictionary
abbrev pub paired : Shown → Shown
paired s = Shown.struct (label 4) Marks.all 1 (Showns.more (Shown.nulls (label 1) 1) (Showns.more (keyed 2 s) Showns.none))

abbrev pub side : List Shown → Showns
side [] = Showns.none
side (s ∷ ss) = Showns.more s (side ss)

-- what comes of columns, where this is kept under each id
abbrev pub collect : List Kept → List Shown → Result (List DictionaryUpdate) Fault
collect ks ss = collected (options Delta false) ks (met_columns 0 (side ss))

pub record DictionaryCases : Type 0 where
  pub same : after_ab Delta false (97 ∷ 98 ∷ []) ≡ Ok update.None
  pub changed : after_ab Delta false (97 ∷ 99 ∷ []) ≡ Ok update.Replaced
  pub longer : after_ab Delta false (97 ∷ 98 ∷ 99 ∷ []) ≡ Ok (update.Delta 2)
  pub resent : after_ab Resend false (97 ∷ 98 ∷ 99 ∷ []) ≡ Ok update.Replaced
  pub shorter : after_ab Delta false (97 ∷ []) ≡ Ok update.Replaced
  -- one that is longer, and goes on after other rows, is no delta
  pub other_first : after_ab Delta false (97 ∷ 99 ∷ 98 ∷ []) ≡ Ok update.Replaced
  pub nothing_kept : update_of (options Delta true) absent (letters (97 ∷ [])) ≡ Ok update.New
  pub lost : update_of (options Delta false) lacking (letters (97 ∷ [])) ≡ Ok update.Replaced
  -- marks count without rows too
  pub no_rows : update_of (options Delta false) (shows (letters [])) (letters (97 ∷ 98 ∷ [])) ≡ Ok (update.Delta 0)
  pub other_mark : update_of (options Delta false) (shows (remarked [])) (letters []) ≡ Ok update.Replaced
  -- where a replacement is refused
  pub refused : after_ab Delta true (97 ∷ []) ≡ Err Replacement
  pub refused_resend : after_ab Resend true (97 ∷ 98 ∷ 99 ∷ []) ≡ Err Replacement
  pub longer_still : after_ab Delta true (97 ∷ 98 ∷ 99 ∷ []) ≡ Ok (update.Delta 2)
  -- the j-th dictionary takes the j-th id, and a refusal names its column and its node
  pub in_order : collect (absent ∷ lacking ∷ []) (keyed 2 (letters (97 ∷ [])) ∷ paired (letters (97 ∷ [])) ∷ []) ≡ Ok (update.New ∷ update.Replaced ∷ [])
  pub no_id : collect (absent ∷ []) (keyed 2 (letters (97 ∷ [])) ∷ paired (letters (97 ∷ [])) ∷ []) ≡ Err (fault_of NoId 1 2)
  -- of two dictionaries, one above the other, the upper is refused, with an id left or without
  pub above : collect (absent ∷ absent ∷ []) (paired (keyed 2 (letters (97 ∷ []))) ∷ []) ≡ Err (fault_of DictionaryAboveDictionary 0 2)
  pub above_before_id : collect [] (paired (paired (letters (97 ∷ []))) ∷ []) ≡ Err (fault_of DictionaryAboveDictionary 0 2)
