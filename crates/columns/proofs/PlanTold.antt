-- A plan tells what the definitions send of a batch and its dictionaries.
use Rattle.std.proofs.Common.{◌≡◌, ℕ, ◌≤◌, Bool, true, false, cond, Some, None, Option, List, length, sym, refl}
use Rattle.std.specs.Prelude.{nat_lt}
use Rattle.std.proofs.lemmas.Option.{none-some}
use Rattle.std.proofs.lemmas.Bool.{ltb-false}
use Rattle.recording.specs.declared.columns.Columns.{Columns}
use Rattle.recording.specs.View.{bytes_in}
use Rattle.dictionaries.specs.declared.update.MetDictionary.{MetDictionary}
use Rattle.columns.specs.declared.memory.Memory.{Memory}
use Rattle.columns.specs.Memories.{short_by, Planned}
use Rattle.columns.specs.Plans.{messages_of}
use Rattle.columns.specs.Telling.{Tells}
use Rattle.columns.proofs.Bodies.{columns_all, window_all}
use Rattle.columns.proofs.EachMessage.{HoldsOfEach, holds_of_messages}
use Rattle.columns.proofs.Told.{AllInside, inside_both, told_in, each_gives_back}

-- ---- its windows are windows of the recording

messages_inside : (c : Columns) (ms : List MetDictionary) → AllInside (bytes_in c.recording) (messages_of c ms)
messages_inside c ms =
    let bs = bytes_in c.recording in
    let each : HoldsOfEach c.recording (AllInside bs) = record { none = tt; both = inside_both bs; one = λ d g. (window_all c.recording d.node d.first d.rows g, tt) } in
    holds_of_messages c ms (AllInside bs) each (columns_all c, tt)

-- ---- no memory is too short

pub record Room (fields buffers messages work : ℕ) (m : Memory) : Type 0 where
  pub some_fields : fields ≤ length m.fields.now
  pub some_buffers : buffers ≤ length m.buffers.now
  pub some_messages : messages ≤ length m.messages.now
  pub some_work : work ≤ length m.work.now

not_short : (b : Bool) (k : ℕ) (o : Option ℕ) → cond b (Some k) o ≡ None → (b ≡ false) × (o ≡ None)
not_short false k o e = (refl, e)
not_short true k o e = absurd (none-some k (sym e))

pub room : (fields buffers messages work : ℕ) (m : Memory) → short_by fields buffers messages work m ≡ None → Room fields buffers messages work m
room fields buffers messages work m e =
    let f = not_short (nat_lt (length m.fields.now) fields) 0 _ e in
    let b = not_short (nat_lt (length m.buffers.now) buffers) 1 _ f.1 in
    let n = not_short (nat_lt (length m.messages.now) messages) 2 _ b.1 in
    let w = not_short (nat_lt (length m.work.now) work) 3 _ n.1 in
    record { some_fields = ltb-false _ _ f.0; some_buffers = ltb-false _ _ b.0; some_messages = ltb-false _ _ n.0; some_work = ltb-false _ _ w.0 }

-- ---- what is planned tells it

pub tells : (al : ℕ) (c : Columns) (ms : List MetDictionary) (before after : Memory) (n : ℕ) → Planned al (messages_of c ms) before after n → Tells al (bytes_in c.recording) (messages_of c ms) after n
tells al c ms before after n p =
    let all = messages_of c ms in
    let inside = messages_inside c ms in
    let r = room _ _ _ _ before p.room in
    record {
      told = rw (p.work, p.fields, p.buffers, p.messages, p.count) (told_in al (bytes_in c.recording) all inside before.fields.now before.buffers.now before.messages.now before.work.now r.some_fields r.some_buffers r.some_messages r.some_work);
      given_back = each_gives_back al (bytes_in c.recording) all inside;
    }
