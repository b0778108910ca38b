-- Where the buffers of a message stand, and how large its numbers are.
use Rattle.std.specs.Prelude.{◌≡◌, ℕ, suc, ◌+◌, ◌*◌, ◌%◌, ◌^◌, ◌<◌, ◌≤◌, List, [], ◌∷◌, map, length, take, slice_index_or}
use Rattle.layout.specs.declared.node.Node.{Node}
use Rattle.layout.specs.Lists.{total}
use Rattle.layout.specs.Rules.{SideBySide}
use Rattle.layout.specs.Shown.{Showns}
use Rattle.layout.specs.Messages.{FieldRecord, BufferRecord, padded, records, body, fields_all, records_of, body_of, field_entries, buffer_entries, work_bytes}
use Rattle.layout.specs.Windows.{EachInside, columns_of, shown_side}

-- ---- where buffers stand

abbrev pub padded_lengths : ℕ → List BufferRecord → List ℕ
padded_lengths al rs = map (λ (r : BufferRecord). padded al r.length) rs

-- end to end with their padding, none over another, and the last ends with the body
pub record EndToEnd (al : ℕ) (bs : List (List ℕ)) : Type 0 where
  pub lengths : map (λ (r : BufferRecord). r.length) (records al 0 bs) ≡ map length bs
  pub offset : (k : ℕ) (d : BufferRecord) → k < length bs → (slice_index_or (records al 0 bs) k d).offset ≡ total (take k (padded_lengths al (records al 0 bs)))
  pub apart : (k j : ℕ) (d : BufferRecord) → k < j → j < length bs
      → (slice_index_or (records al 0 bs) k d).offset + (slice_index_or (records al 0 bs) k d).length ≤ (slice_index_or (records al 0 bs) j d).offset
  pub last : (k : ℕ) (d : BufferRecord) → suc k ≡ length bs → (slice_index_or (records al 0 bs) k d).offset + padded al (slice_index_or (records al 0 bs) k d).length ≡ length (body al bs)
  pub whole : length (body al bs) ≡ total (padded_lengths al (records al 0 bs))

-- a padded length is the next multiple of the alignment
pub record Padded (al n : ℕ) : Type 0 where
  pub multiple : padded al n % al ≡ 0
  pub long : n ≤ padded al n
  pub least : padded al n < n + al

-- ---- how large its numbers are

abbrev pub FieldsFit : List FieldRecord → Type 0
FieldsFit [] = Unit {0}
FieldsFit (f ∷ fs) = (f.rows ≤ 2147483647) × (f.nulls ≤ f.rows) × FieldsFit fs

-- offset and length, and so both, fit 63 bits
abbrev pub BuffersFit : List BufferRecord → Type 0
BuffersFit [] = Unit {0}
BuffersFit (b ∷ bs) = (b.offset + b.length < 2 ^ 63) × BuffersFit bs

pub record NumbersFit (al : ℕ) (ss : Showns) : Type 0 where
  pub fields : FieldsFit (fields_all ss)
  pub buffers : BuffersFit (records_of al ss)
  pub body : length (body_of al ss) < 2 ^ 63
  pub work : work_bytes ss < 2 ^ 63
  pub field_need : field_entries ss ≤ 65535
  pub buffer_need : buffer_entries ss ≤ 3 * 65535

-- any buffers stand end to end; and the numbers of windows of nodes side by side in one opened recording, as the columns of a batch are, fit
pub record Sizes : Type 0 where
  pub end_to_end : (al : ℕ) (bs : List (List ℕ)) → EndToEnd al bs
  pub padded : (al n : ℕ) → 0 < al → Padded al n
  pub numbers : (al : ℕ) (ns : List Node) (bs : List ℕ) (p e : ℕ) (cs : List ℕ) (a n : ℕ) → 0 < al → al ≤ 64
      → SideBySide ns p cs e → e ≤ length ns → EachInside (columns_of ns bs cs a n) → NumbersFit al (shown_side (columns_of ns bs cs a n))
