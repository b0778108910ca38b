-- What the sinks and the header form of this crate are made of.
use Rattle.std.specs.Prelude.{◌≡◌, ℕ, ◌+◌, ◌-◌, ◌≤◌, ◌<◌, List, [], ◌∷◌, ◌++◌, length, take, drop, Some, None, Ok, Err, Result, min, slice_index_or}
use Rattle.layout.specs.declared.fault.Fault.{Fault}
use Rattle.layout.specs.declared.fault.Refusal.TheVariants as refused
use Rattle.layout.specs.Faults.{fault_of}
use Rattle.frames.specs.declared.buffers.Buffers.{Buffers}
use Rattle.frames.specs.declared.byte_sink.ByteSink.{ByteSink}
use Rattle.frames.specs.Sinks.{SinkMeaning}

-- ---- sinks in lent memory

-- memory whose first bytes a sink holds
abbrev pub byte_sink : List ℕ → ℕ → SinkMeaning
byte_sink memory len = record { held = take len memory; bytes = length memory - len; pieces = 0; lengths = None }

-- and a table whose first places hold the length of each piece
abbrev pub buffers_sink : List ℕ → ℕ → List ℕ → ℕ → SinkMeaning
buffers_sink memory len lengths count = record { held = take len memory; bytes = length memory - len; pieces = length lengths - count; lengths = Some (take count lengths) }

abbrev pub bytes_of : ByteSink → SinkMeaning
bytes_of s = byte_sink s.memory.now s.len

abbrev pub buffers_of : Buffers → SinkMeaning
buffers_of s = buffers_sink s.memory.now s.len s.lengths.now s.count

-- how long each piece so far is
abbrev pub lengths_of : Buffers → List ℕ
lengths_of s = take s.count s.lengths.now

-- the memories that they write to, by their names
abbrev pub bytes_memories : ByteSink → List ℕ
bytes_memories s = s.memory.ghost_name ∷ []

abbrev pub buffers_memories : Buffers → List ℕ
buffers_memories s = s.memory.ghost_name ∷ s.lengths.ghost_name ∷ []

-- memory with these at its front; no other place changes
abbrev pub with_front : List ℕ → List ℕ → List ℕ
with_front xs memory = xs ++ drop (length xs) memory

-- memory with bytes after its first places; no byte after them changes
abbrev pub with_bytes : List ℕ → ℕ → List ℕ → List ℕ
with_bytes memory len bs = take len memory ++ (bs ++ drop (len + length bs) memory)

-- bytes that fit are put after the first, of which there are no more than the memory has places
pub record Appends (memory : List ℕ) (len : ℕ) (bs after : List ℕ) (end : ℕ) : Type 0 where
  pub room : length bs ≤ length memory - len
  pub memory_after : after ≡ with_bytes memory len bs
  pub len_after : end ≡ min len (length memory) + length bs

-- others are refused
pub record LacksRoom (memory : List ℕ) (len : ℕ) (bs after : List ℕ) (f : Fault) : Type 0 where
  pub no_room : length memory - len < length bs
  pub unchanged : after ≡ memory
  pub fault : f ≡ fault_of refused.Sink 0 0

abbrev pub AppendAnswer : List ℕ → ℕ → List ℕ → List ℕ → Result ℕ Fault → Type 0
AppendAnswer memory len bs after (Ok end) = Appends memory len bs after end
AppendAnswer memory len bs after (Err f) = LacksRoom memory len bs after f

-- ---- headers that are supplied

-- the one at an ordinal; past the last there is none
abbrev pub supplied : List (List ℕ) → ℕ → List ℕ
supplied hs n = slice_index_or hs n []
