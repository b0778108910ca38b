-- Nothing that is not shown counts.
use Rattle.std.specs.Prelude.{◌≡◌, ℕ, List, map}
use Rattle.layout.specs.Messages.{MessageKind, fields_all, buffers_all, records_of, body_of, message_of, field_entries, buffer_entries, work_bytes}
use Rattle.layout.specs.Windows.{Window, Inside, EachInside, values_in, shown_in, shapes_side, shown_side, dictionary_values, Equal}

-- all that is sent of windows, all that it needs, and all that a reader learns
pub record SameSent (ws vs : List Window) : Type 0 where
  pub fields : fields_all (shown_side ws) ≡ fields_all (shown_side vs)
  pub buffers : buffers_all (shown_side ws) ≡ buffers_all (shown_side vs)
  pub records : (al : ℕ) → records_of al (shown_side ws) ≡ records_of al (shown_side vs)
  pub body : (al : ℕ) → body_of al (shown_side ws) ≡ body_of al (shown_side vs)
  pub message : (kind : MessageKind) (id n al : ℕ) → message_of kind id n al (shown_side ws) ≡ message_of kind id n al (shown_side vs)
  pub field_need : field_entries (shown_side ws) ≡ field_entries (shown_side vs)
  pub buffer_need : buffer_entries (shown_side ws) ≡ buffer_entries (shown_side vs)
  pub work_need : work_bytes (shown_side ws) ≡ work_bytes (shown_side vs)
  pub shapes : shapes_side ws ≡ shapes_side vs
  pub values : map values_in ws ≡ map values_in vs
  pub dictionaries : dictionary_values ws ≡ dictionary_values vs

-- windows, of any opened recordings, that show the same are the same to all of it, and are equal to the same windows
pub record NothingElseCounts : Type 0 where
  pub sent : (ws vs : List Window) → EachInside ws → EachInside vs → shown_side ws ≡ shown_side vs → SameSent ws vs
  pub equal : (w v u : Window) → Inside w → Inside v → Inside u → shown_in w ≡ shown_in v → Equal w u → Equal v u
