use Rattle.std.proofs.Common.{◌≡◌, ℕ, zero, suc, List, [], ◌∷◌, ◌++◌, length, take, Err, ◌∙◌, ap, ap₂, subst, refl, rules}
use Rattle.layout.specs.declared.fault.Fault.{Fault}
use Rattle.columns.specs.declared.memory.Memory.{Memory}
use Rattle.columns.specs.Plans.{ToSend, messages_of}
use Rattle.frames.specs.Batches.{Unwritten, sent_all}
use Rattle.frames.specs.Frames.{frames, pieces}
use Rattle.frames.specs.Makes.{byte_sink, bytes_of}
use Rattle.frames.specs.Sinks.{SinkMeaning, with_pieces}
use Rattle.timing.specs.Framing.{numbers, defined_frames, FrameRoom, Unframed}
use Rattle.timing.proofs.frame.frame_messages.Goals as goal

-- the same, at alignment 64 and with nothing held
unframed : (al : ℕ) (ms : List ToSend) (ws ds out : List ℕ) (before after : Memory) (sink : SinkMeaning) (f : Fault) → al ≡ 64 → sink ≡ byte_sink out 0 → FrameRoom ws ds before
    → Unwritten 0 al numbers 0 ms before after sink f → Unframed ms ws ds out f
unframed al ms ws ds out before after sink f e s room u =
    (before, room, (after, subst (λ (a : ℕ). Unwritten 0 a numbers 0 ms before after (byte_sink out 0) f) e (subst (λ (m : SinkMeaning). Unwritten 0 al numbers 0 ms before after m f) s u)))

all_held : (al : ℕ) (ms : List ToSend) (out : List ℕ) (before after : SinkMeaning) → al ≡ 64 → before ≡ byte_sink out 0
    → after ≡ with_pieces 0 (frames al numbers 0 (sent_all al ms)) (pieces al numbers 0 (sent_all al ms)) before → after.held ≡ defined_frames ms
all_held al ms out before after e b t =
    ap (λ (s : SinkMeaning). s.held) t
    ∙ ap (λ (s : SinkMeaning). s.held ++ frames al numbers 0 (sent_all al ms)) b
    ∙ ap (λ (a : ℕ). frames a numbers 0 (sent_all a ms)) e

first_again : (len : ℕ) (memory : List ℕ) → take (length (take len memory)) memory ≡ take len memory
first_again zero memory = refl
first_again (suc n) [] = refl
first_again (suc n) (x ∷ xs) = ap (λ (ys : List ℕ). x ∷ ys) (first_again n xs)

-- what a sink held stands first in the memory that it was lent
told : (len : ℕ) (held memory out xs : List ℕ) → held ≡ take len memory → held ≡ xs → out ≡ memory → (length held ≡ length xs) × (take (length held) out ≡ xs)
told len held memory out xs h f o = (ap length f, ap₂ (λ (ys zs : List ℕ). take (length ys) zs) h o ∙ first_again len memory ∙ subst (λ (ys : List ℕ). ys ≡ xs) h f)

pub returns-in_err-write_to_sink : goal.returns-in_err-write_to_sink
returns-in_err-write_to_sink c s =
    let f : Fault = c.in_err-write_to_sink.field-0.0 in
    let is : c.from_residual.result ≡ Err f = search rules in
    rw is (
    unframed _ (messages_of c.args.columns.now c.args.met.now) _ _ c.args.out.now _ _ _ f s.alignment c.new-sink.ensures.meaning
    record { fields = refl; buffers = refl; messages = refl; work = refl; metadata = refl }
    c.in_err-write_to_sink.ensures.answer
    )

pub returns : goal.returns
returns c s =
    let sink = c.write_to_sink.new.sink in
    let held = c.held.ensures ∙ all_held _ (messages_of c.args.columns.now c.args.met.now) c.args.out.now _ (bytes_of sink) s.alignment c.new-sink.ensures.meaning c.in_ok-write_to_sink.ensures.answer.taken in
    told sink.len c.held.result.now sink.memory.now _ _ c.held.ensures held (search rules)
