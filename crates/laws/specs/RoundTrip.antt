-- What is sent of windows, read by the Arrow rules, is the windows' rows and values.
use Rattle.std.specs.Prelude.{◌≡◌, ℕ, ◌-◌, ◌≤◌, List, [], ◌∷◌, ◌++◌, map, slice_index_or, slice_set}
use Rattle.layout.specs.Shown.{Value, values}
use Rattle.layout.specs.Messages.{MessageKind, message_of, body_of}
use Rattle.layout.specs.Reading.{read, heard}
use Rattle.layout.specs.Windows.{Window, Inside, EachInside, tree_in, values_in, shown_in, shape_in, first_rows, later_rows, met_in, shown_side, shapes_side, dictionary_values}

-- the message of any windows side by side, read with the values of the dictionaries met under the first ids: the windows' values, and no
-- record and no buffer is left over
abbrev pub RoundTrip : Type 0
RoundTrip = (al : ℕ) (kind : MessageKind) (id n : ℕ) (ws : List Window) (rest : List (List Value)) → EachInside ws
    → read (shapes_side ws) (dictionary_values ws ++ rest) (message_of kind id n al (shown_side ws)) (body_of al (shown_side ws))
    ≡ record { columns = map values_in ws; ids = rest; fields = []; buffers = [] }

-- what a window shows is what the recording has in its rows
abbrev pub ShowsValues : Type 0
ShowsValues = (w : Window) → Inside w → values (shown_in w) ≡ values_in w

-- no dictionary is met
abbrev pub Plain : Window → Type 0
Plain w = met_in (tree_in w) ≡ []

-- a dictionary's message sets its id's values; a delta of the later rows, after the first ones, makes them the whole window's
pub record Heard : Type 0 where
  pub whole : (al id : ℕ) (w : Window) (ids : List (List Value)) → Inside w → Plain w
      → heard (shape_in w) ids (message_of MessageKind.a_dictionary id w.rows al (shown_side (w ∷ []))) (body_of al (shown_side (w ∷ []))) ≡ slice_set ids id (values_in w)
  pub delta : (al id k : ℕ) (w : Window) (ids : List (List Value)) → Inside w → Plain w → k ≤ w.rows → slice_index_or ids id [] ≡ values_in (first_rows k w)
      → heard (shape_in w) ids (message_of MessageKind.a_delta id (w.rows - k) al (shown_side (later_rows k w ∷ []))) (body_of al (shown_side (later_rows k w ∷ []))) ≡ slice_set ids id (values_in w)
