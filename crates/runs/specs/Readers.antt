-- The Arrow rules along a stream: what a reader of its messages has.
use Rattle.std.specs.Prelude.{ℕ, zero, suc, ◌+◌, List, [], ◌∷◌, map, Some, None, Option, replicate}
use Rattle.layout.specs.Lists.{cut}
use Rattle.layout.specs.Messages as sent
use Rattle.layout.specs.Messages.MessageKind.{a_batch, a_dictionary, a_delta}
use Rattle.layout.specs.Reading.{read, heard}
use Rattle.layout.specs.Shown.{Shape, Shapes, Value}
use Rattle.layout.specs.Windows.{shapes_side, shape_of, values_in}
use Rattle.runs.specs.Calls.{Call, Answer, Lengths}
use Rattle.runs.specs.Calls.Answer.{refused, given, cleared, finished, accepted}
use Rattle.runs.specs.Looks.{Recorded, column_nodes, column_windows, met_trees}

-- ---- what a reader knows beside the bytes: of each batch the kinds, used sizes and nesting

-- of its columns, and of the values of each dictionary that they meet
pub record Schema : Type 0 where
  pub columns : Shapes
  pub values : List Shape

abbrev pub no_schema : Schema
no_schema = record { columns = Shapes.none; values = [] }

abbrev pub schema_of : Recorded → Call → Schema
schema_of r Call.next_id = no_schema
schema_of r Call.clear = no_schema
schema_of r Call.finish = no_schema
schema_of r (Call.batch first columns n lent) =
    record { columns = shapes_side (column_windows r first columns n); values = map shape_of (met_trees r.nodes (column_nodes r.nodes first columns)) }

-- ---- a reader

-- rows, and the values of each column
pub record Rows : Type 0 where
  pub rows : ℕ
  pub columns : List (List Value)

-- how far it has come in the sink's bytes, the values by id, and the last batch
pub record Reader : Type 0 where
  pub at : ℕ
  pub ids : List (List Value)
  pub batch : Rows

-- at a place of the bytes, with no values
abbrev pub new_reader : ℕ → Reader
new_reader at = record { at = at; ids = replicate 64 []; batch = record { rows = 0; columns = [] } }

-- the shape of the values of an id
abbrev pub shape_at : List Shape → ℕ → Shape
shape_at [] id = Shape.nulls 0
shape_at (s ∷ ss) zero = s
shape_at (s ∷ ss) (suc id) = shape_at ss id

-- a message: its body is cut from the bytes by the answer's lengths. A dictionary sets its id's values, a delta appends to them, and a batch
-- reads them, its j-th dictionary those of the j-th id
abbrev pub hear_by : Schema → sent.Message → List ℕ → ℕ → Reader → sent.MessageKind → Reader
hear_by k m body next r a_batch = record { at = next; ids = r.ids; batch = record { rows = m.rows; columns = (read k.columns r.ids m body).columns } }
hear_by k m body next r a_dictionary = record { at = next; ids = heard (shape_at k.values m.id) r.ids m body; batch = r.batch }
hear_by k m body next r a_delta = record { at = next; ids = heard (shape_at k.values m.id) r.ids m body; batch = r.batch }

abbrev pub hear : Schema → List ℕ → sent.Message → Lengths → Reader → Reader
hear k bytes m l r = hear_by k m (cut (r.at + l.header) l.body bytes) (r.at + l.header + l.body) r m.kind

abbrev pub hear_all : Schema → List ℕ → List sent.Message → List Lengths → Reader → Reader
hear_all k bytes [] ls r = r
hear_all k bytes (m ∷ ms) [] r = r
hear_all k bytes (m ∷ ms) (l ∷ ls) r = hear_all k bytes ms ls (hear k bytes m l r)

-- a call by its answer: only an accepted batch changes the values, and finish takes 8 bytes
abbrev pub after_call : Schema → List ℕ → Answer → Reader → Reader
after_call k bytes (refused f) r = r
after_call k bytes (given n) r = r
after_call k bytes cleared r = r
after_call k bytes finished r = record { at = r.at + 8; ids = r.ids; batch = r.batch }
after_call k bytes (accepted us ms ls) r = hear_all k bytes ms ls r

abbrev pub batch_read : Answer → Reader → Option Rows
batch_read (refused f) r = None
batch_read (given n) r = None
batch_read cleared r = None
batch_read finished r = None
batch_read (accepted us ms ls) r = Some r.batch

-- each accepted batch, rebuilt from the messages up to its own
abbrev pub rebuilt_from : List ℕ → List Schema → List Answer → Reader → List (Option Rows)
rebuilt_from bytes [] ws r = []
rebuilt_from bytes (k ∷ ks) [] r = []
rebuilt_from bytes (k ∷ ks) (a ∷ ws) r = batch_read a (after_call k bytes a r) ∷ rebuilt_from bytes ks ws (after_call k bytes a r)

-- ---- the rows that a recording has under a batch's numbers

abbrev pub rows_of_call : Recorded → Call → Rows
rows_of_call r Call.next_id = record { rows = 0; columns = [] }
rows_of_call r Call.clear = record { rows = 0; columns = [] }
rows_of_call r Call.finish = record { rows = 0; columns = [] }
rows_of_call r (Call.batch first columns n lent) = record { rows = n; columns = map values_in (column_windows r first columns n) }

abbrev pub where_accepted : Answer → Rows → Option Rows
where_accepted (refused f) x = None
where_accepted (given n) x = None
where_accepted cleared x = None
where_accepted finished x = None
where_accepted (accepted us ms ls) x = Some x

abbrev pub accepted_rows : Recorded → List Call → List Answer → List (Option Rows)
accepted_rows r [] ws = []
accepted_rows r (c ∷ cs) [] = []
accepted_rows r (c ∷ cs) (a ∷ ws) = where_accepted a (rows_of_call r c) ∷ accepted_rows r cs ws
