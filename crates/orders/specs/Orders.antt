-- An order: lines that spell cases.
use Rattle.std.specs.Prelude.{◌≡◌, ℕ, ◌+◌, ◌⊎◌, List, [], ◌∷◌, ◌++◌, map, length, Some, None, Ok, Err, vec_items, string_bytes, Option, Result, Vec}
use Rattle.std.specs.Option.{option_map}
use Rattle.std.specs.declared.alloc.Global.{Global}
use Rattle.std.specs.declared.io.Error.{Error}
use Rattle.layout.specs.Nodes.{node_in}
use Rattle.orders.specs.declared.Case.{Case}
use Rattle.orders.specs.declared.call.Call.{Call}
use Rattle.orders.specs.declared.error.OrderError.{OrderError}
use Rattle.orders.specs.declared.error.Why.{Why}
use Rattle.orders.specs.declared.error.Why.TheVariants.{File, Memory}
use Rattle.orders.specs.declared.framing.FormName.{FormName}
use Rattle.orders.specs.declared.framing.SinkSizes.{SinkSizes}
use Rattle.orders.specs.declared.item.Part.{Part}
use Rattle.orders.specs.declared.item.Part.TheVariants.{Nodes, Bytes, Held}
use Rattle.orders.specs.declared.options.Options.{Options}
use Rattle.orders.specs.Options.{default_options, with_alignment, with_dictionary_handling, with_error_on_replacement}
use Rattle.orders.specs.Framing.{default_sink, form_by}
use Rattle.orders.specs.Texts.{lines_in}
use Rattle.orders.specs.Items.{Saying, a_case, a_node, a_hex, a_file, an_alignment, a_handling, an_error_on_replacement, a_form, a_meta, a_sink, an_out, a_call, item_read, IsTextIn, Refuses}

-- ---- cases

-- a case, whatever memory holds it
pub record Spelled : Type 0 where
  pub name : Option (List ℕ)
  pub nodes : List ℕ
  pub bytes : List ℕ
  pub options : Options
  pub form : Option FormName
  pub headers : List (List ℕ)
  pub sink : SinkSizes
  pub held : List ℕ
  pub out : Option (List ℕ)
  pub calls : List Call

abbrev pub spelled : Case → Spelled
spelled c =
    record {
      name = option_map string_bytes c.name;
      nodes = vec_items c.nodes;
      bytes = vec_items c.bytes;
      options = c.options;
      form = c.form;
      headers = map vec_items (vec_items c.headers);
      sink = c.sink;
      held = vec_items c.held;
      out = option_map string_bytes c.out;
      calls = vec_items c.calls;
    }

abbrev pub cases_in : Vec Case Global → List Spelled
cases_in cases = map spelled (vec_items cases)

abbrev pub fresh : Option (List ℕ) → Spelled
fresh name =
    record {
      name = name;
      nodes = [];
      bytes = [];
      options = default_options;
      form = None;
      headers = [];
      sink = default_sink;
      held = [];
      out = None;
      calls = [];
    }

-- one more case, empty so far and with the defaults
abbrev pub started : Option (List ℕ) → List Spelled → List Spelled
started name cs = cs ++ fresh name ∷ []

abbrev pub appended : Part → List ℕ → Spelled → Spelled
appended Nodes more c = record c { nodes = c.nodes ++ more }
appended Bytes more c = record c { bytes = c.bytes ++ more }
appended Held more c = record c { held = c.held ++ more }

abbrev pub optioned : (Options → Options) → Spelled → Spelled
optioned f c = record c { options = f c.options }

abbrev pub formed : FormName → Spelled → Spelled
formed form c = record c { form = Some form }

-- one more header
abbrev pub headed : List ℕ → Spelled → Spelled
headed header c = record c { headers = c.headers ++ header ∷ [] }

-- the form that a case's lines say, or else its headers
abbrev pub header_form : Spelled → FormName
header_form c = form_by c.form c.headers

abbrev pub sunk : SinkSizes → Spelled → Spelled
sunk sizes c = record c { sink = sizes }

abbrev pub sent_to : List ℕ → Spelled → Spelled
sent_to path c = record c { out = Some path }

abbrev pub asked : Call → Spelled → Spelled
asked call c = record c { calls = c.calls ++ call ∷ [] }

-- an unnamed case where there is none yet
abbrev pub begun : List Spelled → List Spelled
begun [] = fresh None ∷ []
begun (c ∷ cs) = c ∷ cs

abbrev pub to_last : (Spelled → Spelled) → List Spelled → List Spelled
to_last f [] = []
to_last f (c ∷ []) = f c ∷ []
to_last f (c ∷ d ∷ cs) = c ∷ to_last f (d ∷ cs)

-- a change of the last case, or of an unnamed one where there is none yet
abbrev pub of_last : (Spelled → Spelled) → List Spelled → List Spelled
of_last f cs = to_last f (begun cs)

-- ---- lines

-- what a line makes of the cases before it; what a file holds is not said
abbrev pub Does : Option Saying → List Spelled → List Spelled → Type 0
Does None cs ds = ds ≡ cs
Does (Some (a_case name)) cs ds = ds ≡ started (Some name) cs
Does (Some (a_node node)) cs ds = (bytes : List ℕ) × (length bytes ≡ 80) × (node_in bytes 0 ≡ node) × (ds ≡ of_last (appended Nodes bytes) cs)
Does (Some (a_hex part bytes)) cs ds = ds ≡ of_last (appended part bytes) cs
Does (Some (a_file part path)) cs ds = (bytes : List ℕ) × (ds ≡ of_last (appended part bytes) cs)
Does (Some (an_alignment n)) cs ds = ds ≡ of_last (optioned (with_alignment n)) cs
Does (Some (a_handling h)) cs ds = ds ≡ of_last (optioned (with_dictionary_handling h)) cs
Does (Some (an_error_on_replacement e)) cs ds = ds ≡ of_last (optioned (with_error_on_replacement e)) cs
Does (Some (a_form form)) cs ds = ds ≡ of_last (formed form) cs
Does (Some (a_meta header)) cs ds = ds ≡ of_last (headed header) cs
Does (Some (a_sink sizes)) cs ds = ds ≡ of_last (sunk sizes) cs
Does (Some (an_out path)) cs ds = ds ≡ of_last (sent_to path) cs
Does (Some (a_call call)) cs ds = ds ≡ of_last (asked call) cs

abbrev pub Followed : List ℕ → List Spelled → List Spelled → Type 0
Followed line cs ds = (s : Option Saying) × (item_read line ≡ Ok s) × Does s cs ds

-- a line that cannot be read, or a file that it names
abbrev pub BadLine : List ℕ → Why → Type 0
BadLine line why =
    Refuses IsTextIn why (item_read line)
    ⊎ ((error : Error) × (part : Part) × (path : List ℕ) × (why ≡ File error) × (item_read line ≡ Ok (Some (a_file part path))))

abbrev pub Follows : List ℕ → List Spelled → Result (Unit {0}) Why → List Spelled → Type 0
Follows line cs (Ok u) ds = Followed line cs ds
Follows line cs (Err why) ds = BadLine line why

-- a fact, unless memory runs out
abbrev pub Makes : Result (Unit {0}) Why → Type 0 → Type 0
Makes (Ok u) fact = fact
Makes (Err why) fact = why ≡ Memory

-- what f makes of the cases so far, unless memory runs out
abbrev pub Turns : (List Spelled → List Spelled) → Vec Case Global → Result (Unit {0}) Why → Vec Case Global → Type 0
Turns f old r new = Makes r (cases_in new ≡ f (cases_in old))

-- ---- whole orders

abbrev pub AllFollowed : List (List ℕ) → List Spelled → List Spelled → Type 0
AllFollowed [] cs es = es ≡ cs
AllFollowed (line ∷ lines) cs es = (ds : List Spelled) × Followed line cs ds × AllFollowed lines ds es

-- the first line that cannot be read, counted from 1
pub record FirstBad (text : List ℕ) (e : OrderError) : Type 0 where
  pub before : List (List ℕ)
  pub bad : List ℕ
  pub after : List (List ℕ)
  pub cases : List Spelled
  pub split : lines_in text ≡ before ++ bad ∷ after
  pub good : AllFollowed before [] cases
  pub line : e.line ≡ length before + 1
  pub why : BadLine bad e.why

abbrev pub OrderRead : List ℕ → Result (Vec Case Global) OrderError → Type 0
OrderRead text (Ok cases) = (cs : List Spelled) × AllFollowed (lines_in text) [] cs × (cases_in cases ≡ begun cs)
OrderRead text (Err e) = FirstBad text e ⊎ (e.why ≡ Memory)
