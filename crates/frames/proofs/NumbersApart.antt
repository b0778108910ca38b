-- Different descriptions have different bytes.
use Rattle.std.proofs.Common.{◌≡◌, ℕ, ◌*◌, ◌^◌, ◌<◌, List, [], ◌∷◌, ◌++◌, length, take, drop, refl, ap, ap₂, sym, ◌∙◌}
use Rattle.std.specs.List.{All}
use Rattle.std.proofs.lemmas.List.{take_at, drop_at}
use Rattle.std.proofs.lemmas.List.Elements.{All-head, All-tail}
use Rattle.layout.specs.Messages.{Message, MessageKind, FieldRecord, BufferRecord}
use Rattle.layout.specs.Messages.MessageKind.{a_batch, a_dictionary, a_delta}
use Rattle.layout.specs.Numbers.{le, le_all, unle}
use Rattle.layout.specs.Spelling.{length-le, unle-le}
use Rattle.frames.specs.Numbers.{kind_number, field_numbers, buffer_numbers, numbers_of, NumbersTell}
use Rattle.frames.proofs.NumberBytes.{length-field_numbers}
use Rattle.frames.proofs.NumbersFit.{IsSmall}

-- ---- lists that begin alike

begin_alike : {X : Type 0} (xs ys us vs : List X) → length xs ≡ length ys → xs ++ us ≡ ys ++ vs → (xs ≡ ys) × (us ≡ vs)
begin_alike {X} xs ys us vs l e = (
  sym (take_at xs us (length xs) refl) ∙ ap (take (length xs)) e ∙ take_at ys vs (length xs) (sym l),
  sym (drop_at xs us (length xs) refl) ∙ ap (drop (length xs)) e ∙ drop_at ys vs (length xs) (sym l),
)

-- ---- bytes tell their numbers

le_same : (m n : ℕ) → m < 2 ^ 64 → n < 2 ^ 64 → le 8 m ≡ le 8 n → m ≡ n
le_same m n h k e = sym (unle-le 8 m h) ∙ ap unle e ∙ unle-le 8 n k

le_all_same : (ms ns : List ℕ) → All IsSmall ms → All IsSmall ns → le_all 8 ms ≡ le_all 8 ns → ms ≡ ns
le_all_same [] [] h k e = refl
le_all_same [] (n ∷ ns) h k e = cc
le_all_same (m ∷ ms) [] h k e = cc
le_all_same (m ∷ ms) (n ∷ ns) h k e =
    let both = begin_alike (le 8 m) (le 8 n) (le_all 8 ms) (le_all 8 ns) (length-le 8 m ∙ sym (length-le 8 n)) e in
    ap₂ (λ (x : ℕ) (xs : List ℕ). x ∷ xs) (le_same m n (All-head IsSmall m ms h) (All-head IsSmall n ns k) both.0) (le_all_same ms ns (All-tail IsSmall m ms h) (All-tail IsSmall n ns k) both.1)

-- ---- numbers tell their message

kind_same : (k j : MessageKind) → kind_number k ≡ kind_number j → k ≡ j
kind_same a_batch a_batch e = refl
kind_same a_batch a_dictionary e = cc
kind_same a_batch a_delta e = cc
kind_same a_dictionary a_batch e = cc
kind_same a_dictionary a_dictionary e = refl
kind_same a_dictionary a_delta e = cc
kind_same a_delta a_batch e = cc
kind_same a_delta a_dictionary e = cc
kind_same a_delta a_delta e = refl

fields_same : (fs gs : List FieldRecord) → field_numbers fs ≡ field_numbers gs → fs ≡ gs
fields_same [] [] e = refl
fields_same [] (g ∷ gs) e = cc
fields_same (f ∷ fs) [] e = cc
fields_same (f ∷ fs) (g ∷ gs) e =
    let rest : field_numbers fs ≡ field_numbers gs = cc in
    let rows : f.rows ≡ g.rows = cc in
    let nulls : f.nulls ≡ g.nulls = cc in
    ap₂ (λ (x : FieldRecord) (xs : List FieldRecord). x ∷ xs) (ap₂ (λ (r n : ℕ). record { rows = r; nulls = n }) rows nulls) (fields_same fs gs rest)

buffers_same : (bs cs : List BufferRecord) → buffer_numbers bs ≡ buffer_numbers cs → bs ≡ cs
buffers_same [] [] e = refl
buffers_same [] (c ∷ cs) e = cc
buffers_same (b ∷ bs) [] e = cc
buffers_same (b ∷ bs) (c ∷ cs) e =
    let rest : buffer_numbers bs ≡ buffer_numbers cs = cc in
    let offset : b.offset ≡ c.offset = cc in
    let long : b.length ≡ c.length = cc in
    ap₂ (λ (x : BufferRecord) (xs : List BufferRecord). x ∷ xs) (ap₂ (λ (o n : ℕ). record { offset = o; length = n }) offset long) (buffers_same bs cs rest)

abbrev message : MessageKind → ℕ → ℕ → ℕ → List FieldRecord → List BufferRecord → Message
message k i r b fs bs = record { kind = k; id = i; rows = r; body_length = b; fields = fs; buffers = bs }

one_message : (k j : MessageKind) (i i' r r' b b' : ℕ) (fs gs : List FieldRecord) (bs cs : List BufferRecord)
    → k ≡ j → i ≡ i' → r ≡ r' → b ≡ b' → fs ≡ gs → bs ≡ cs → message k i r b fs bs ≡ message j i' r' b' gs cs
one_message k j i i' r r' b b' fs gs bs cs ek ei er eb ef ec = cc

numbers_same : (m n : Message) → numbers_of m ≡ numbers_of n → m ≡ n
numbers_same m n e =
    let kind : kind_number m.kind ≡ kind_number n.kind = cc in
    let id : m.id ≡ n.id = cc in
    let rows : m.rows ≡ n.rows = cc in
    let body : m.body_length ≡ n.body_length = cc in
    let many : length m.fields ≡ length n.fields = cc in
    let rest : field_numbers m.fields ++ (length m.buffers ∷ buffer_numbers m.buffers) ≡ field_numbers n.fields ++ (length n.buffers ∷ buffer_numbers n.buffers) = cc in
    let parts = begin_alike (field_numbers m.fields) (field_numbers n.fields) _ _ (length-field_numbers m.fields ∙ ap (λ (k : ℕ). 2 * k) many ∙ sym (length-field_numbers n.fields)) rest in
    let last : buffer_numbers m.buffers ≡ buffer_numbers n.buffers = cc in
    one_message _ _ _ _ _ _ _ _ _ _ _ _ (kind_same m.kind n.kind kind) id rows body (fields_same m.fields n.fields parts.0) (buffers_same m.buffers n.buffers last)

pub numbers_tell : NumbersTell
numbers_tell = record { apart = λ m n h k e. numbers_same m n (le_all_same (numbers_of m) (numbers_of n) h k e) }
