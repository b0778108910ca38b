-- What is sent of a dictionary by its update.
use Rattle.std.specs.Prelude.{◌≡◌, ℕ, ◌-◌, Bool, true, false, List, codes, Some, None, Option}
use Rattle.dictionaries.specs.declared.update.DictionaryToEncode.{DictionaryToEncode}
use Rattle.dictionaries.specs.declared.update.DictionaryUpdate.{DictionaryUpdate}
use Rattle.dictionaries.specs.declared.update.DictionaryUpdate.TheVariants as update
use Rattle.dictionaries.specs.declared.update.MetDictionary.{MetDictionary}

abbrev pub update_name : DictionaryUpdate → List ℕ
update_name update.None = codes "None"
update_name update.New = codes "New"
update_name update.Replaced = codes "Replaced"
update_name (update.Delta k) = codes "Delta"

-- the rows after the first k of its values
abbrev pub encoded : ℕ → MetDictionary → ℕ → Bool → DictionaryToEncode
encoded id m k delta = record { id = id; node = m.values.node; first = k; rows = m.values.rows - k; is_delta = delta }

-- None sends nothing, New and Replaced the whole, Delta the rows after those that were kept
abbrev pub encoded_by : ℕ → MetDictionary → DictionaryUpdate → Option DictionaryToEncode
encoded_by id m update.None = None
encoded_by id m update.New = Some (encoded id m 0 false)
encoded_by id m update.Replaced = Some (encoded id m 0 false)
encoded_by id m (update.Delta k) = Some (encoded id m k true)

abbrev pub Encodes : ℕ → MetDictionary → Option DictionaryToEncode → Type 0
Encodes id m r = r ≡ encoded_by id m m.update
