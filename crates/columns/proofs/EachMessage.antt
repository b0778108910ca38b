-- What holds of each message of a batch and its dictionaries.
use Rattle.std.proofs.Common.{◌≡◌, ℕ, ◌+◌, Bool, true, false, cond, Some, None, Option, List, [], ◌∷◌, ◌++◌, length, refl}
use Rattle.std.specs.Prelude.{nat_lt}
use Rattle.std.proofs.lemmas.Bool.{ltb-true, leb-true, and_parts}
use Rattle.layout.specs.Windows as layout
use Rattle.layout.specs.Windows.{Inside}
use Rattle.recording.specs.declared.columns.Columns.{Columns}
use Rattle.recording.specs.declared.recording.Recording.{Recording}
use Rattle.recording.specs.View.{nodes_in}
use Rattle.recording.specs.Windows.{window_at}
use Rattle.dictionaries.specs.Sending.{encoded_by}
use Rattle.dictionaries.specs.declared.update.DictionaryToEncode.{DictionaryToEncode}
use Rattle.dictionaries.specs.declared.update.MetDictionary.{MetDictionary}
use Rattle.columns.specs.Plans.{ToSend, has_rows, sent_by, sent_of, all_sent, dictionary_message, batch_message, messages_of}

-- the rows of a dictionary that are sent
abbrev pub window_sent : Recording → DictionaryToEncode → layout.Window
window_sent rec d = window_at rec d.node d.first d.rows

-- it holds of no message, of messages and more of them where it holds of both, and of the message of each dictionary whose rows the recording has
pub record HoldsOfEach (rec : Recording) (P : List ToSend → Type 0) : Type 0 where
  pub none : P []
  pub both : (ms ns : List ToSend) → P ms → P ns → P (ms ++ ns)
  pub one : (d : DictionaryToEncode) → Inside (window_sent rec d) → P (dictionary_message d (window_sent rec d) ∷ [])

module _ (rec : Recording) (P : List ToSend → Type 0) (h : HoldsOfEach rec P) where
  holds_of_one : (id : ℕ) (m : MetDictionary) → P (sent_of rec id m)
  holds_of_one id m = by (encoded_by id m m.update)
    where
      by : (o : Option DictionaryToEncode) → P (sent_by rec o)
      by None = h.none
      by (Some d) = with_test (has_rows rec d) refl
        where
          with_test : (b : Bool) → has_rows rec d ≡ b → P (cond b (dictionary_message d (window_sent rec d) ∷ []) [])
          with_test false e = h.none
          with_test true e =
              let both = and_parts (nat_lt d.node (length (nodes_in rec))) _ e in
              h.one d (record { opened = rec.opened; stands = ltb-true _ _ both.0; within = leb-true _ _ both.1 })

  holds_of_all : (id : ℕ) (ms : List MetDictionary) → P (all_sent rec id ms)
  holds_of_all id [] = h.none
  holds_of_all id (m ∷ ms) = h.both (sent_of rec id m) (all_sent rec (id + 1) ms) (holds_of_one id m) (holds_of_all (id + 1) ms)

-- the dictionaries, and then the batch
pub holds_of_messages : (c : Columns) (ms : List MetDictionary) (P : List ToSend → Type 0) → HoldsOfEach c.recording P → P (batch_message c ∷ []) → P (messages_of c ms)
holds_of_messages c ms P h batch = h.both (all_sent c.recording 0 ms) (batch_message c ∷ []) (holds_of_all c.recording P h 0 ms) batch
