-- The memories that a call is lent.
use Rattle.std.specs.Prelude.{◌≡◌, min, length, vec_len}
use Rattle.columns.specs.declared.memory.Memory.{Memory}
use Rattle.orders.specs.declared.call.MemorySizes.{MemorySizes}
use Rattle.pack.specs.declared.memory.Memories.{Memories}

-- each is as long as is asked, but no longer than any call needs, or 2 ^ 24 bytes of work memory
pub record AreMade (s : MemorySizes) (m : Memories) : Type 0 where
  pub fields : vec_len m.fields ≡ min s.fields 65536
  pub buffers : vec_len m.buffers ≡ min s.buffers 196608
  pub messages : vec_len m.messages ≡ min s.messages 65
  pub work : vec_len m.work ≡ min s.work 16777216
  pub metadata : vec_len m.metadata ≡ min s.metadata 65536

-- each is lent whole
pub record IsLent (m : Memories) (l : Memory) : Type 0 where
  pub fields : length l.fields.now ≡ vec_len m.fields
  pub buffers : length l.buffers.now ≡ vec_len m.buffers
  pub messages : length l.messages.now ≡ vec_len m.messages
  pub work : length l.work.now ≡ vec_len m.work
  pub metadata : length l.metadata.now ≡ vec_len m.metadata
