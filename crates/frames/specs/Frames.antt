-- The bytes of frames, and the pieces that they go out in.
use Rattle.std.specs.Prelude.{◌≡◌, ℕ, ◌+◌, ◌-◌, ℤ, List, [], ◌∷◌, ◌++◌, map, length, replicate, Bool, true, ◌&&◌}
use Rattle.layout.specs.Lists.{lengths}
use Rattle.layout.specs.Messages as sent
use Rattle.layout.specs.Messages.{padding, padded}
use Rattle.layout.specs.Numbers.{le, twos}
use Rattle.columns.specs.declared.reader.Sources.{Sources}
use Rattle.columns.specs.declared.record.BufferEntry.{BufferEntry}
use Rattle.columns.specs.declared.message.Message.{Message}
use Rattle.columns.specs.Telling.{Told, body_told, bytes_named}
use Rattle.frames.specs.declared.frame.MetadataLayout.{MetadataLayout}
use Rattle.frames.specs.Headers.{is_header, header_of, over_front}
use Rattle.frames.specs.Sinks.{piece_unless_empty}

abbrev pub zeros : ℕ → List ℕ
zeros n = replicate n 0

-- ff four times, and a length in 32 bits
abbrev pub prefix : ℕ → List ℕ
prefix n = 255 ∷ 255 ∷ 255 ∷ 255 ∷ le 4 n

-- of a length as a signed number
abbrev pub signed_prefix : ℤ → List ℕ
signed_prefix z = prefix (twos 4 z)

-- the end of a stream, at every alignment
abbrev pub end_mark : List ℕ
end_mark = prefix 0

-- ---- a frame: the prefix and the metadata with their padding, and the body

-- how long prefix and metadata are with their padding
abbrev pub header_length : ℕ → ℕ → ℕ
header_length al n = padded al (8 + n)

-- the prefix tells that length without the prefix itself
abbrev pub header : ℕ → List ℕ → List ℕ
header al md = prefix (header_length al (length md) - 8) ++ (md ++ zeros (padding al (8 + length md)))

pub record IsLayout (al n : ℕ) (l : MetadataLayout) : Type 0 where
  pub header : l.padded_header_len ≡ header_length al n
  pub metadata : l.padded_metadata_len ≡ header_length al n - 8
  pub padding : l.metadata_padding ≡ padding al (8 + n)

abbrev pub frame : ℕ → List ℕ → Told → List ℕ
frame al md t = header al md ++ body_told al t

-- ---- its pieces: prefix, metadata, each buffer, and each padding that is not empty

abbrev pub header_pieces : ℕ → ℕ → List ℕ
header_pieces al n = 8 ∷ (piece_unless_empty n ++ piece_unless_empty (padding al (8 + n)))

abbrev pub body_pieces : ℕ → List ℕ → List ℕ
body_pieces al [] = []
body_pieces al (n ∷ ns) = (n ∷ piece_unless_empty (padding al n)) ++ body_pieces al ns

abbrev pub frame_pieces : ℕ → List ℕ → Told → List ℕ
frame_pieces al md t = header_pieces al (length md) ++ body_pieces al (lengths t.buffers)

-- the bytes of buffers, as their entries name them
abbrev pub named : Sources → List BufferEntry → List (List ℕ)
named s es = map (bytes_named s.recording.now s.work.now) es

-- ---- messages one after another, from an ordinal on, by the bytes that a form has for each

abbrev pub FormBytes : Type 0
FormBytes = ℕ → sent.Message → List ℕ

-- it has a header for each
abbrev pub has_headers : FormBytes → ℕ → List Told → Bool
has_headers form o [] = true
has_headers form o (t ∷ ts) = is_header (form o t.message) && has_headers form (o + 1) ts

abbrev pub frames : ℕ → FormBytes → ℕ → List Told → List ℕ
frames al form o [] = []
frames al form o (t ∷ ts) = frame al (form o t.message) t ++ frames al form (o + 1) ts

abbrev pub pieces : ℕ → FormBytes → ℕ → List Told → List ℕ
pieces al form o [] = []
pieces al form o (t ∷ ts) = frame_pieces al (form o t.message) t ++ pieces al form (o + 1) ts

-- the metadata memory, once each header was put at its front in turn
abbrev pub with_headers : FormBytes → ℕ → List Told → List ℕ → List ℕ
with_headers form o [] memory = memory
with_headers form o (t ∷ ts) memory = with_headers form (o + 1) ts (over_front (header_of (form o t.message)) memory)

-- each message with the length of its header, beside that of its body
abbrev pub framed : ℕ → FormBytes → ℕ → List Told → List Message → List Message
framed al form o [] ms = ms
framed al form o (t ∷ ts) [] = []
framed al form o (t ∷ ts) (m ∷ ms) = record m { lengths = (header_length al (length (form o t.message)), m.lengths.1) } ∷ framed al form (o + 1) ts ms
