-- What a line of an order says.
use Rattle.std.specs.Prelude.{◌≡◌, ℕ, zero, suc, Bool, true, false, cond, ◌⊎◌, List, [], ◌∷◌, Some, None, Ok, Err, vec_items, string_bytes, codes, IsUtf8, Option, Result, slice_index}
use Rattle.std.specs.Option.{ok_or}
use Rattle.std.specs.Str.{bytes_eq}
use Rattle.layout.specs.declared.node.Node as layout
use Rattle.recording.specs.declared.options.DictionaryHandling.{DictionaryHandling}
use Rattle.recording.specs.declared.options.DictionaryHandling.TheVariants.{Resend, Delta}
use Rattle.orders.specs.declared.call.Batch.{Batch}
use Rattle.orders.specs.declared.call.Call.{Call}
use Rattle.orders.specs.declared.call.Call.TheVariants as call
use Rattle.orders.specs.declared.call.MemorySizes.{MemorySizes}
use Rattle.orders.specs.declared.error.Why.{Why}
use Rattle.orders.specs.declared.error.Why.TheVariants.{UnknownItem, MissingWord, NotText, UnknownWord, Memory}
use Rattle.orders.specs.declared.framing.FormName.{FormName}
use Rattle.orders.specs.declared.framing.FormName.TheVariants.{Numbers, Supplied}
use Rattle.orders.specs.declared.framing.SinkSizes.{SinkSizes}
use Rattle.orders.specs.declared.framing.SinkSizes.TheVariants as sink
use Rattle.orders.specs.declared.item.Item.{Item}
use Rattle.orders.specs.declared.item.Item.TheVariants as item
use Rattle.orders.specs.declared.item.Part.{Part}
use Rattle.orders.specs.declared.item.Part.TheVariants.{Nodes, Bytes, Held}
use Rattle.orders.specs.declared.item.Verb.{Verb}
use Rattle.orders.specs.declared.item.Verb.TheVariants.{Case, Node, Hex, File, Align, Handling, ErrorOnReplacement, Form, Meta, Sink, Out, Show, Id, Collect, Lend, Plan, Frame}
use Rattle.orders.specs.Texts.{is_empty, uncommented, word_in, after_word, at_end, only_word}
use Rattle.orders.specs.Numbers.{number_read}
use Rattle.orders.specs.Hexes.{hex_read}

-- ---- numbers

-- a value before others, where all were read
abbrev pub cons_read : {X : Type 0} → Result X Why → Result (List X) Why → Result (List X) Why
cons_read (Err why) ys = Err why
cons_read (Ok x) (Err why) = Err why
cons_read (Ok x) (Ok ys) = Ok (x ∷ ys)

-- so many numbers, a word each, and no word after them
unfoldable pub numbers_in : ℕ → List ℕ → Result (List ℕ) Why
numbers_in zero text = at_end text []
numbers_in (suc k) text = cond (is_empty (word_in text)) (Err MissingWord) (cons_read (number_read (word_in text)) (numbers_in k (after_word text)))

abbrev pub node_from : List ℕ → layout.Node
node_from ns =
    record {
      kind = slice_index ns 0;
      mark = slice_index ns 1;
      size = slice_index ns 2;
      rows = slice_index ns 3;
      from = slice_index ns 4;
      bitmap = slice_index ns 5;
      slots = slice_index ns 6;
      «data» = slice_index ns 7;
      extent = slice_index ns 8;
      span = slice_index ns 9;
    }

abbrev pub map_ok : {X Y : Type 0} → (X → Y) → Result X Why → Result Y Why
map_ok f (Ok x) = Ok (f x)
map_ok f (Err why) = Err why

abbrev pub node_read : List ℕ → Result layout.Node Why
node_read text = map_ok node_from (numbers_in 10 text)

abbrev pub only_number : List ℕ → Result ℕ Why
only_number text = map_ok (λ ns. slice_index ns 0) (numbers_in 1 text)

abbrev pub batch_from : List ℕ → Batch
batch_from ns = record { first = slice_index ns 0; columns = slice_index ns 1; rows = slice_index ns 2 }

abbrev pub batch_read : List ℕ → Result Batch Why
batch_read text = map_ok batch_from (numbers_in 3 text)

abbrev pub sizes_from : List ℕ → MemorySizes
sizes_from ns =
    record {
      fields = slice_index ns 0;
      buffers = slice_index ns 1;
      messages = slice_index ns 2;
      work = slice_index ns 3;
      metadata = slice_index ns 4;
    }

abbrev pub sizes_read : List ℕ → Result MemorySizes Why
sizes_read text = map_ok sizes_from (numbers_in 5 text)

-- ---- one of some words

-- what a word stands for, where it is one of those that may stand there
abbrev pub chosen : {X : Type 0} → (List ℕ → Option X) → Result (List ℕ) Why → Result X Why
chosen choice (Err why) = Err why
chosen choice (Ok word) = ok_or (choice word) UnknownWord

abbrev pub handling_of : List ℕ → Option DictionaryHandling
handling_of w = cond (bytes_eq w (codes "resend")) (Some Resend) (cond (bytes_eq w (codes "delta")) (Some Delta) None)

abbrev pub handling_read : List ℕ → Result DictionaryHandling Why
handling_read text = chosen handling_of (only_word text)

abbrev pub flag_of : List ℕ → Option Bool
flag_of w = cond (bytes_eq w (codes "0")) (Some false) (cond (bytes_eq w (codes "1")) (Some true) None)

abbrev pub flag_read : List ℕ → Result Bool Why
flag_read text = chosen flag_of (only_word text)

abbrev pub form_of : List ℕ → Option FormName
form_of w = cond (bytes_eq w (codes "numbers")) (Some Numbers) (cond (bytes_eq w (codes "supplied")) (Some Supplied) None)

abbrev pub form_read : List ℕ → Result FormName Why
form_read text = chosen form_of (only_word text)

-- ---- a word and numbers

abbrev pub bytes_from : List ℕ → SinkSizes
bytes_from ns = sink.Bytes (slice_index ns 0)

abbrev pub bytes_sink_read : List ℕ → Result SinkSizes Why
bytes_sink_read text = map_ok bytes_from (numbers_in 1 text)

abbrev pub buffers_from : List ℕ → SinkSizes
buffers_from ns = sink.Buffers (slice_index ns 0) (slice_index ns 1)

abbrev pub buffers_sink_read : List ℕ → Result SinkSizes Why
buffers_sink_read text = map_ok buffers_from (numbers_in 2 text)

-- the sizes that follow the word for a kind of sink
abbrev pub sink_of : List ℕ → List ℕ → Result SinkSizes Why
sink_of kind rest =
    cond (bytes_eq kind (codes "bytes")) (bytes_sink_read rest)
    (cond (bytes_eq kind (codes "buffers")) (buffers_sink_read rest) (Err UnknownWord))

abbrev pub sink_read : List ℕ → Result SinkSizes Why
sink_read text = cond (is_empty (word_in text)) (Err MissingWord) (sink_of (word_in text) (after_word text))

-- ---- no word more

abbrev pub id_read : List ℕ → Result Call Why
id_read text = at_end text call.Id

-- ---- lines

-- the word that a line begins with
abbrev pub verb_of : List ℕ → Option Verb
verb_of w =
    cond (bytes_eq w (codes "case")) (Some Case)
    (cond (bytes_eq w (codes "node")) (Some Node)
    (cond (bytes_eq w (codes "nodes")) (Some (Hex Nodes))
    (cond (bytes_eq w (codes "bytes")) (Some (Hex Bytes))
    (cond (bytes_eq w (codes "nodesfile")) (Some (File Nodes))
    (cond (bytes_eq w (codes "bytesfile")) (Some (File Bytes))
    (cond (bytes_eq w (codes "align")) (Some Align)
    (cond (bytes_eq w (codes "handling")) (Some Handling)
    (cond (bytes_eq w (codes "error_on_replacement")) (Some ErrorOnReplacement)
    (cond (bytes_eq w (codes "form")) (Some Form)
    (cond (bytes_eq w (codes "meta")) (Some Meta)
    (cond (bytes_eq w (codes "sink")) (Some Sink)
    (cond (bytes_eq w (codes "held")) (Some (Hex Held))
    (cond (bytes_eq w (codes "out")) (Some Out)
    (cond (bytes_eq w (codes "show")) (Some Show)
    (cond (bytes_eq w (codes "id")) (Some Id)
    (cond (bytes_eq w (codes "collect")) (Some Collect)
    (cond (bytes_eq w (codes "memory")) (Some Lend)
    (cond (bytes_eq w (codes "plan")) (Some Plan)
    (cond (bytes_eq w (codes "frame")) (Some Frame) None)))))))))))))))))))

abbrev pub verb_read : List ℕ → Result Verb Why
verb_read w = ok_or (verb_of w) UnknownItem

-- what an item says, whatever memory holds it
pub data Saying : Type 0 where
  a_case : List ℕ → Saying
  a_node : layout.Node → Saying
  a_hex : Part → List ℕ → Saying
  a_file : Part → List ℕ → Saying
  an_alignment : ℕ → Saying
  a_handling : DictionaryHandling → Saying
  an_error_on_replacement : Bool → Saying
  a_form : FormName → Saying
  a_meta : List ℕ → Saying
  a_sink : SinkSizes → Saying
  an_out : List ℕ → Saying
  a_call : Call → Saying

abbrev pub said : Item → Saying
said (item.Case name) = a_case (string_bytes name)
said (item.Node node) = a_node node
said (item.Hex part bytes) = a_hex part (vec_items bytes)
said (item.File part path) = a_file part (string_bytes path)
said (item.Align n) = an_alignment n
said (item.Handling h) = a_handling h
said (item.ErrorOnReplacement e) = an_error_on_replacement e
said (item.Form form) = a_form form
said (item.Meta header) = a_meta (vec_items header)
said (item.Sink sizes) = a_sink sizes
said (item.Out path) = an_out (string_bytes path)
said (item.Call call) = a_call call

-- a name or a path is text
abbrev pub IsText : Saying → Type 0
IsText (a_case name) = IsUtf8 name
IsText (a_node node) = Unit {0}
IsText (a_hex part bytes) = Unit {0}
IsText (a_file part path) = IsUtf8 path
IsText (an_alignment n) = Unit {0}
IsText (a_handling h) = Unit {0}
IsText (an_error_on_replacement e) = Unit {0}
IsText (a_form form) = Unit {0}
IsText (a_meta header) = Unit {0}
IsText (a_sink sizes) = Unit {0}
IsText (an_out path) = IsUtf8 path
IsText (a_call call) = Unit {0}

unfoldable pub rest_read : Verb → List ℕ → Result Saying Why
rest_read Case rest = map_ok a_case (only_word rest)
rest_read Node rest = map_ok a_node (node_read rest)
rest_read (Hex part) rest = map_ok (a_hex part) (hex_read rest)
rest_read (File part) rest = map_ok (a_file part) (only_word rest)
rest_read Align rest = map_ok an_alignment (only_number rest)
rest_read Handling rest = map_ok a_handling (handling_read rest)
rest_read ErrorOnReplacement rest = map_ok an_error_on_replacement (flag_read rest)
rest_read Form rest = map_ok a_form (form_read rest)
rest_read Meta rest = map_ok a_meta (hex_read rest)
rest_read Sink rest = map_ok a_sink (sink_read rest)
rest_read Out rest = map_ok an_out (only_word rest)
rest_read Show rest = map_ok (λ batch. a_call (call.Show batch)) (batch_read rest)
rest_read Id rest = map_ok a_call (id_read rest)
rest_read Collect rest = map_ok (λ batch. a_call (call.Collect batch)) (batch_read rest)
rest_read Lend rest = map_ok (λ sizes. a_call (call.Lend sizes)) (sizes_read rest)
rest_read Plan rest = map_ok (λ batch. a_call (call.Plan batch)) (batch_read rest)
rest_read Frame rest = map_ok (λ batch. a_call (call.Frame batch)) (batch_read rest)

abbrev pub item_by : Result Verb Why → List ℕ → Result (Option Saying) Why
item_by (Err why) rest = Err why
item_by (Ok verb) rest = map_ok (λ s. Some s) (rest_read verb rest)

-- a line without a word says nothing
unfoldable pub item_read : List ℕ → Result (Option Saying) Why
item_read line =
    cond (is_empty (word_in (uncommented line))) (Ok None)
    (item_by (verb_read (word_in (uncommented line))) (after_word (uncommented line)))

-- why nothing is given: memory ran out, the reading fails, or a word is no text
abbrev pub Refuses : {Y : Type 0} → (Y → Type 0) → Why → Result Y Why → Type 0
Refuses {Y} text why s = (why ≡ Memory) ⊎ ((s ≡ Err why) ⊎ ((why ≡ NotText) × ((y : Y) × (s ≡ Ok y) × (text y → ⊥))))

-- a reading and what it is to give, which a view of the value read shows
abbrev pub ReadsText : {X Y : Type 0} → (X → Y) → (Y → Type 0) → Result X Why → Result Y Why → Type 0
ReadsText view text (Ok x) s = s ≡ Ok (view x)
ReadsText view text (Err why) s = Refuses text why s

abbrev pub said_by : Option Item → Option Saying
said_by None = None
said_by (Some item) = Some (said item)

abbrev pub IsTextIn : Option Saying → Type 0
IsTextIn None = Unit {0}
IsTextIn (Some s) = IsText s
