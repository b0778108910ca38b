-- Frames worked out from the definitions, at alignment 8.
use Rattle.std.specs.Prelude.{◌≡◌, ℕ, List, [], ◌∷◌, ◌++◌, length}
use Rattle.layout.specs.Messages.{Message, message_of, buffers_all}
use Rattle.layout.specs.Messages.MessageKind.{a_batch}
use Rattle.layout.specs.Numbers.{le_all}
use Rattle.layout.specs.Windows.{shown_side}
use Rattle.columns.specs.Telling.{Told}
use Rattle.frames.specs.Frames.{header, header_length, header_pieces, frame, frame_pieces, end_mark}
use Rattle.frames.specs.Numbers.{numbers_of, number_bytes}
use Rattle.cases.specs.WindowCases.{texts, body_sent}

-- a batch of the two byte strings of specs/WindowCases.antt
abbrev pub texts_message : Message
texts_message = message_of a_batch 0 2 8 (shown_side (texts ∷ []))

abbrev pub texts_told : Told
texts_told = record { message = texts_message; buffers = buffers_all (shown_side (texts ∷ [])) }

-- what they are as numbers: kind, id, rows, body length; one field; three buffers
abbrev pub texts_numbers : List ℕ
texts_numbers = 0 ∷ 0 ∷ 2 ∷ 24 ∷ 1 ∷ 2 ∷ 0 ∷ 3 ∷ 0 ∷ 0 ∷ 0 ∷ 12 ∷ 16 ∷ 4 ∷ []

abbrev pub five : List ℕ
five = 1 ∷ 2 ∷ 3 ∷ 4 ∷ 5 ∷ []

pub record FrameCases : Type 0 where
  pub numbers : numbers_of texts_message ≡ texts_numbers
  pub numbers_long : length (number_bytes texts_message) ≡ 112
  pub header_long : header_length 8 (length (number_bytes texts_message)) ≡ 120
  -- the prefix says 112, no zeros are wanted, and the body follows
  pub texts_frame : frame 8 (number_bytes texts_message) texts_told ≡ (255 ∷ 255 ∷ 255 ∷ 255 ∷ 112 ∷ 0 ∷ 0 ∷ 0 ∷ le_all 8 texts_numbers) ++ body_sent texts
  -- prefix, metadata, no validity, the offsets and their padding, the bytes and theirs
  pub texts_pieces : frame_pieces 8 (number_bytes texts_message) texts_told ≡ 8 ∷ 112 ∷ 0 ∷ 12 ∷ 4 ∷ 4 ∷ 4 ∷ []
  -- metadata of five bytes: three zeros fill it up to 16 with the prefix, which says 8
  pub five_header : header 8 five ≡ 255 ∷ 255 ∷ 255 ∷ 255 ∷ 8 ∷ 0 ∷ 0 ∷ 0 ∷ 1 ∷ 2 ∷ 3 ∷ 4 ∷ 5 ∷ 0 ∷ 0 ∷ 0 ∷ []
  pub five_length : header_length 8 5 ≡ 16
  pub five_pieces : header_pieces 8 5 ≡ 8 ∷ 5 ∷ 3 ∷ []
  pub end : end_mark ≡ 255 ∷ 255 ∷ 255 ∷ 255 ∷ 0 ∷ 0 ∷ 0 ∷ 0 ∷ []
