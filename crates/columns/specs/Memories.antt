-- The lent memories, and what a plan leaves in them.
use Rattle.std.specs.Prelude.{◌≡◌, ℕ, cond, List, map, length, Some, None, Option, Ok, Err, Result, nat_lt}
use Rattle.layout.specs.declared.fault.Fault.{Fault}
use Rattle.layout.specs.declared.fault.Refusal.TheVariants as refused
use Rattle.layout.specs.Faults.{fault_of}
use Rattle.columns.specs.declared.memory.Memory.{Memory}
use Rattle.columns.specs.Lists.{over}
use Rattle.columns.specs.Pieces.{work_of}
use Rattle.columns.specs.Plans.{ToSend, all_fields, all_pieces, all_entries, message_entry}

-- the first that is too short for so many field records, buffer records, messages and bytes of work; metadata needs 65,536 bytes
abbrev pub short_by : ℕ → ℕ → ℕ → ℕ → Memory → Option ℕ
short_by fields buffers messages work m =
    cond (nat_lt (length m.fields.now) fields) (Some 0)
    (cond (nat_lt (length m.buffers.now) buffers) (Some 1)
    (cond (nat_lt (length m.messages.now) messages) (Some 2)
    (cond (nat_lt (length m.work.now) work) (Some 3)
    (cond (nat_lt (length m.metadata.now) 65536) (Some 4) None))))

abbrev pub ChecksMemory : Option ℕ → Result (Unit {0}) Fault → Type 0
ChecksMemory o (Ok _) = o ≡ None
ChecksMemory o (Err f) = (column : ℕ) × (o ≡ Some column) × (f ≡ fault_of refused.Memory column 0)

-- for messages
abbrev pub short_for : List ToSend → Memory → Option ℕ
short_for ms m = short_by (length (all_fields ms)) (length (all_pieces ms)) (length ms) (length (work_of (all_pieces ms))) m

-- each memory holds what is planned, from its first place on, and what it held after that
pub record Planned (al : ℕ) (ms : List ToSend) (before after : Memory) (n : ℕ) : Type 0 where
  pub room : short_for ms before ≡ None
  pub count : n ≡ length ms
  pub fields : after.fields.now ≡ over before.fields.now 0 (all_fields ms)
  pub buffers : after.buffers.now ≡ over before.buffers.now 0 (all_entries al 0 ms)
  pub messages : after.messages.now ≡ over before.messages.now 0 (map (message_entry al) ms)
  pub work : after.work.now ≡ over before.work.now 0 (work_of (all_pieces ms))
  pub metadata : after.metadata.now ≡ before.metadata.now
  pub same_fields : after.fields.ghost_name ≡ before.fields.ghost_name
  pub same_buffers : after.buffers.ghost_name ≡ before.buffers.ghost_name
  pub same_messages : after.messages.ghost_name ≡ before.messages.ghost_name
  pub same_work : after.work.ghost_name ≡ before.work.ghost_name
  pub same_metadata : after.metadata.ghost_name ≡ before.metadata.ghost_name

-- a memory that is too short is named as the column, and then nothing changes
pub record Refused (ms : List ToSend) (before after : Memory) (f : Fault) : Type 0 where
  pub column : ℕ
  pub short : short_for ms before ≡ Some column
  pub fault : f ≡ fault_of refused.Memory column 0
  pub unchanged : after ≡ before

abbrev pub PlanAnswer : ℕ → List ToSend → Memory → Memory → Result ℕ Fault → Type 0
PlanAnswer al ms before after (Ok n) = Planned al ms before after n
PlanAnswer al ms before after (Err f) = Refused ms before after f
