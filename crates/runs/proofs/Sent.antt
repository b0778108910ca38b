-- What is sent of the dictionaries that a batch meets is what its updates send.
use Rattle.std.proofs.Common.{◌≡◌, ℕ, zero, suc, ◌+◌, ◌-◌, ◌<◌, ◌≤◌, Bool, true, false, cond, List, [], ◌∷◌, ◌++◌, map, length, All, Option, Some, Ok, sym, refl, ap, ap₂, ◌∙◌, subst, append-nil, inl, inr, arith}
use Rattle.std.proofs.lemmas.Bool.{and_from, lt-ltb, le-leb, cases_lt}
use Rattle.std.proofs.lemmas.List.Elements.{All-head, All-rest}
use Rattle.std.specs.Prelude.{nat_lt, nat_le}
use Rattle.layout.specs.declared.fault.Refusal.TheVariants.{KindOrSize, Nesting}
use Rattle.layout.specs.declared.kind.Kind.{Kind}
use Rattle.layout.specs.declared.kind.Kind.TheVariants.{Null, Boolean, Fixed, Bytes32, Bytes64, List32, List64, Struct, Dictionary}
use Rattle.layout.specs.declared.node.Node.{Node}
use Rattle.layout.specs.Columns.{column_node}
use Rattle.layout.specs.Lists.{rows}
use Rattle.layout.specs.Nodes.{node_at, end_of}
use Rattle.layout.specs.Opening.{Kept}
use Rattle.layout.specs.Rules.{Filled, ChildrenFit}
use Rattle.layout.specs.Shown.{Shown, Showns, count}
use Rattle.layout.specs.Trees.{Tree, Forest, none, more, root_of, rows_of, child_of, tree_as, trees_in, tree_at}
use Rattle.layout.specs.Windows.{Window, EachInside, columns_of, shown, shown_all, shown_side, passed_first, passed_count, met_in, met_in_all}
use Rattle.layout.proofs.Kids.{filled_first}
use Rattle.layout.proofs.Opening.{kept_rule}
use Rattle.laws.proofs.Kept.{one_is, tree_rows}
use Rattle.laws.proofs.Lists.{map-append}
use Rattle.laws.proofs.Says.{counts}
use Rattle.laws.proofs.Table.{at_none, at_more, tree_as_lem, root_is}
use Rattle.recording.specs.declared.columns.Columns.{Columns}
use Rattle.recording.specs.declared.options.IpcWriteOptions.{IpcWriteOptions}
use Rattle.recording.specs.declared.recording.Recording.{Recording}
use Rattle.recording.specs.ColumnPlaces.{ColumnsFound}
use Rattle.recording.specs.View.{nodes_in, bytes_in, node_of}
use Rattle.recording.specs.Windows.{window_at}
use Rattle.dictionaries.specs.Batches.{AreMet, IsPlacedIn, column_windows, met_in_batch, kept_in_batch, met_as}
use Rattle.dictionaries.specs.Collecting as dictionary
use Rattle.dictionaries.specs.Collecting.{Met, absent, lacking, shows, label_in, met_from, met_from_all, met_columns, collected}
use Rattle.dictionaries.specs.Sending.{encoded_by, encoded}
use Rattle.dictionaries.specs.Walking.{updates_in}
use Rattle.dictionaries.specs.declared.update.DictionaryToEncode.{DictionaryToEncode}
use Rattle.dictionaries.specs.declared.update.DictionaryUpdate.{DictionaryUpdate}
use Rattle.dictionaries.specs.declared.update.DictionaryUpdate.TheVariants as update
use Rattle.dictionaries.specs.declared.update.DictionaryValues.{DictionaryValues}
use Rattle.dictionaries.specs.declared.update.MetDictionary.{MetDictionary}
use Rattle.columns.specs.declared.message.MessageKind.TheVariants as kind
use Rattle.columns.specs.Plans.{sent_by, sent_of, all_sent, batch_message, messages_of, dictionary_message}
use Rattle.columns.specs.Telling as message
use Rattle.columns.specs.Telling.{Shows}
use Rattle.runs.specs.Layers.{later_in}
use Rattle.runs.specs.Looks.{column_nodes, met_trees, later}
use Rattle.runs.specs.Turns.{sends_by, sends, all_sends}
use Rattle.runs.proofs.Found.{as_asked, inside, windows_are}
use Rattle.runs.proofs.Updates.{Means, no_id, first_met}

-- ---- the values of the dictionaries met stand right after them

label_span : (bs : List ℕ) (t : Tree) (a r : ℕ) → (label_in (shown bs t a r)).span ≡ (root_of t).span
unfolding shown
label_span bs (Tree.nulls n) a r = refl
label_span bs (Tree.bools n) a r = refl
label_span bs (Tree.fixed n) a r = refl
label_span bs (Tree.bytes w n) a r = refl
label_span bs (Tree.lists w n t) a r = refl
label_span bs (Tree.struct n f) a r = refl
label_span bs (Tree.dictionary n t) a r = refl

-- in a column, by what names the tree of a dictionary's values
module _ (ns : List Node) (bs : List ℕ) (kept : Kept ns bs) (at : Met → Tree) (column base : ℕ) (here : (i : ℕ) (s : Shown) → at (record { column = column; node = i; values = s }) ≡ tree_at ns (base + i + 1)) where
  abbrev Names : ℕ → Tree → Type 0
  Names i t = (a r : ℕ) → map at (met_from column i (shown bs t a r)) ≡ met_in t

  abbrev NamesAll : ℕ → Forest → Type 0
  NamesAll i f = (a r : ℕ) → map at (met_from_all column i (shown_all bs f a r)) ≡ met_in_all f

  only : (i : ℕ) (t : Tree) → NamesAll i (more t none) → Names i t
  unfolding met_from met_in shown
  only i t h a r = ap (map at) (sym (append-nil (met_from column i (shown bs t a r)))) ∙ h a r ∙ append-nil (met_in t)

  module _ (p i : ℕ) (same : base + i ≡ p) (n : Node) where
    child : (f : Forest) → f ≡ more (tree_at ns (p + 1)) none → NamesAll (i + 1) f → Names (i + 1) (child_of n f)
    child f e h = subst (λ (g : Forest). Names (i + 1) (child_of n g)) (sym e) (only (i + 1) (tree_at ns (p + 1)) (subst (NamesAll (i + 1)) e h))

    by_kind : (k : Kind) (f : Forest) → (((c : ℕ) → ChildrenFit k c → c ≡ 1) → f ≡ more (tree_at ns (p + 1)) none) → NamesAll (i + 1) f → Names i (tree_as (Some k) n f)
    unfolding met_from met_in shown
    by_kind Null f one h a r = refl
    by_kind Boolean f one h a r = refl
    by_kind Fixed f one h a r = refl
    by_kind Bytes32 f one h a r = refl
    by_kind Bytes64 f one h a r = refl
    by_kind List32 f one h a r = child f (one (λ c q. q)) h (passed_first bs 4 n a r) (passed_count bs 4 n a r)
    by_kind List64 f one h a r = child f (one (λ c q. q)) h (passed_first bs 8 n a r) (passed_count bs 8 n a r)
    by_kind Struct f one h a r = h a r
    by_kind Dictionary f one h a r =
        let next : base + i + 1 ≡ p + 1 = omega arith in
        let its : tree_at ns (p + 1) ≡ child_of n f = sym (ap (child_of n) (one (λ c q. q))) in
        ap (λ (t : Tree). t ∷ []) (here i _ ∙ ap (tree_at ns) next ∙ its)

  named : (p i : ℕ) → base + i ≡ p → p < length ns → NamesAll (i + 1) (trees_in ns (p + 1) (end_of ns p)) → Names i (tree_at ns p)
  named p i same l h =
      let k = kept_rule ns bs kept p l KindOrSize in
      let f = trees_in ns (p + 1) (end_of ns p) in
      subst (Names i) (sym (tree_as_lem (node_at ns p) f k.kind k.is)) (by_kind p i same (node_at ns p) k.kind f (one_is ns bs kept p k.kind l k.is) h)

  no_trees : (i p e : ℕ) → e ≤ p → NamesAll i (trees_in ns p e)
  unfolding met_from met_in shown
  no_trees i p e l = subst (NamesAll i) (sym (at_none ns p e l)) (λ a r. refl)

  first_of : (i : ℕ) (t : Tree) (f : Forest) → Names i t → NamesAll (i + (root_of t).span) f → NamesAll i (more t f)
  unfolding met_from met_in shown
  first_of i t f g h a r =
      map-append at (met_from column i (shown bs t a r)) (met_from_all column (i + (label_in (shown bs t a r)).span) (shown_all bs f a r))
      ∙ ap₂ (λ (x y : List Tree). x ++ y) (g a r) (ap (λ (j : ℕ). map at (met_from_all column (i + j) (shown_all bs f a r))) (label_span bs t a r) ∙ h a r)

  all_named : (k p i e : ℕ) → base + i ≡ p → e - p ≤ k → e ≤ length ns → Filled ns p e → NamesAll i (trees_in ns p e)
  all_named zero p i e same d l g = no_trees i p e (omega arith)
  all_named (suc k) p i e same d l g =
      elim (cases_lt p e) [
        | inl m ↦
            (let s = filled_first ns p e g m in
            let some : 1 ≤ (node_at ns p).span = s.some in
            let high : end_of ns p ≤ e = s.high in
            let nest = kept_rule ns bs kept p (omega arith) Nesting in
            let own = named p i same (omega arith) (all_named k (p + 1) (i + 1) (end_of ns p) (omega arith) (omega arith) nest.within (nest.children, nest.fill)) in
            let span : (root_of (tree_at ns p)).span ≡ (node_at ns p).span = ap (λ (n : Node). n.span) (root_is (node_at ns p) (trees_in ns (p + 1) (end_of ns p))) in
            let others = all_named k (end_of ns p) (i + (root_of (tree_at ns p)).span) e (omega arith) (omega arith) l s.rest in
            subst (NamesAll i) (sym (at_more ns p e m l some high)) (first_of i (tree_at ns p) (trees_in ns (end_of ns p) e) own others))
        | inr m ↦ no_trees i p e m
      ]

  column_named : base < length ns → Names 0 (tree_at ns base)
  column_named l =
      let nest = kept_rule ns bs kept base l Nesting in
      named base 0 (omega arith) l (all_named (end_of ns base) (base + 1) (0 + 1) (end_of ns base) (omega arith) (omega arith) nest.within (nest.children, nest.fill))

-- of all columns
abbrev tree_of_met : List Node → ℕ → Met → Tree
tree_of_met ns first d = tree_at ns (column_node ns first d.column + d.node + 1)

module _ (ns : List Node) (bs : List ℕ) (kept : Kept ns bs) (first n : ℕ) where
  columns_named : (count k : ℕ) (f : ℕ → ℕ) → ((i : ℕ) → f i ≡ column_node ns first (k + i)) → EachInside (columns_of ns bs (rows count f) 0 n)
      → map (tree_of_met ns first) (met_columns k (shown_side (columns_of ns bs (rows count f) 0 n))) ≡ met_trees ns (rows count f)
  columns_named zero k f e g = refl
  columns_named (suc count) k f e g =
      let z : k + 0 ≡ k = omega arith in
      let own : f 0 ≡ column_node ns first k = e 0 ∙ ap (column_node ns first) z in
      let cs = rows count (λ i. f (suc i)) in
      let base = column_node ns first k in
      let one = column_named ns bs kept (tree_of_met ns first) k base (λ i s. refl) (subst (λ (c : ℕ). c < length ns) own g.0.stands) 0 n in
      map-append (tree_of_met ns first) (met_from k 0 (shown bs (tree_at ns (f 0)) 0 n)) (met_columns (k + 1) (shown_side (columns_of ns bs cs 0 n)))
      ∙ ap₂ (λ (x y : List Tree). x ++ y)
      (ap (λ (c : ℕ). map (tree_of_met ns first) (met_from k 0 (shown bs (tree_at ns c) 0 n))) own ∙ one ∙ ap (λ (c : ℕ). met_in (tree_at ns c)) (sym own))
      (columns_named count (k + 1) (λ i. f (suc i)) (λ i. let m : k + suc i ≡ k + 1 + i = omega arith in e (suc i) ∙ ap (column_node ns first) m) g.1)

-- ---- what is sent of one

module _ (c : Columns) where
  abbrev ns : List Node
  ns = nodes_in c.recording

  abbrev bs : List ℕ
  bs = bytes_in c.recording

  abbrev values_tree : MetDictionary → Tree
  values_tree m = tree_at ns m.values.node

  module _ (m : MetDictionary) (p : IsPlacedIn c m) (id : ℕ) where
    abbrev as_sent : ℕ → Bool → DictionaryToEncode
    as_sent k delta = encoded id m k delta

    goes : (k : ℕ) (delta : Bool) → k ≤ m.values.rows → sent_by c.recording (Some (as_sent k delta)) ≡ dictionary_message (as_sent k delta) (window_at c.recording m.values.node k (m.values.rows - k)) ∷ []
    goes k delta l =
        let fits : k + (m.values.rows - k) ≤ (node_of c.recording m.values.node).rows = omega (arith, p.rows) in
        ap (λ (b : Bool). cond b (dictionary_message (as_sent k delta) (window_at c.recording m.values.node k (m.values.rows - k)) ∷ []) [])
        (and_from (nat_lt m.values.node (length ns)) (nat_le (k + (m.values.rows - k)) (node_of c.recording m.values.node).rows) (lt-ltb _ _ p.stands) (le-leb _ _ fits))

    long : count (met_as c m).values ≡ m.values.rows
    long = counts bs (values_tree m) 0 m.values.rows

    whole : map message.shows (sent_by c.recording (Some (as_sent 0 false))) ≡ record { kind = kind.Dictionary; id = id; rows = count (met_as c m).values; shown = Showns.more (met_as c m).values Showns.none } ∷ []
    whole =
        let z : m.values.rows - 0 ≡ m.values.rows = omega arith in
        ap (map message.shows) (goes 0 false (omega arith))
        ∙ ap₂ (λ (r : ℕ) (s : Shown). record { kind = kind.Dictionary; id = id; rows = r; shown = Showns.more s Showns.none } ∷ []) (z ∙ sym long) (ap (shown bs (values_tree m) 0) z)

    module _ (later_rows : ℕ → Shown) (is : (k : ℕ) → later_rows k ≡ shown bs (values_tree m) k (rows_of (values_tree m) - k)) where
      part : (k : ℕ) → k < count (met_as c m).values
          → map message.shows (sent_by c.recording (Some (as_sent k true))) ≡ record { kind = kind.Delta; id = id; rows = count (met_as c m).values - k; shown = Showns.more (later_rows k) Showns.none } ∷ []
      part k l =
          let all : m.values.rows ≡ rows_of (values_tree m) = p.rows ∙ sym (tree_rows ns m.values.node) in
          ap (map message.shows) (goes k true (omega (arith, long)))
          ∙ ap₂ (λ (r : ℕ) (s : Shown). record { kind = kind.Delta; id = id; rows = r; shown = Showns.more s Showns.none } ∷ [])
          (ap (λ (r : ℕ). r - k) (sym long)) (ap (λ (r : ℕ). shown bs (values_tree m) k (r - k)) all ∙ sym (is k))

      one_sent : (x : dictionary.Kept) (u : DictionaryUpdate) → Means x (met_as c m).values u → map message.shows (sent_by c.recording (encoded_by id m u)) ≡ sends_by later_rows id (met_as c m) u
      one_sent x update.None h = refl
      one_sent x update.New h = whole
      one_sent x update.Replaced h = whole
      one_sent absent (update.Delta k) h = absurd h
      one_sent lacking (update.Delta k) h = absurd h
      one_sent (shows s) (update.Delta k) h = part k h.0

  -- ---- of all

  module _ (o : IpcWriteOptions) (later_by : ℕ → ℕ → Shown) where
    each_sent : (ms : List MetDictionary) (ks : List dictionary.Kept) (id : ℕ) → All (IsPlacedIn c) ms → collected o ks (map (met_as c) ms) ≡ Ok (updates_in ms)
        → ((j k : ℕ) → later_by (id + j) k ≡ later bs (map values_tree ms) j k) → map message.shows (all_sent c.recording id ms) ≡ sends later_by id (map (met_as c) ms) (updates_in ms)
    each_sent [] ks id p q l = refl
    each_sent (m ∷ ms) [] id p q l = absurd (no_id o (met_as c m) (map (met_as c) ms) (updates_in (m ∷ ms)) q)
    each_sent (m ∷ ms) (x ∷ ks) id p q l =
        let f = first_met o (met_as c m) (map (met_as c) ms) (updates_in (m ∷ ms)) x ks q in
        let f_is = f.is in
        let own : f.update ≡ m.update = cc in
        let others : f.others ≡ updates_in ms = cc in
        let z : id + 0 ≡ id = omega arith in
        let here = one_sent m (All-head (IsPlacedIn c) m ms p) id (later_by id) (λ k. ap (λ (j : ℕ). later_by j k) (sym z) ∙ l 0 k) x m.update (subst (Means x (met_as c m).values) own f.means) in
        let rest = each_sent ms ks (id + 1) (All-rest (IsPlacedIn c) m ms _ refl p) (f.rest ∙ ap (λ (us : List DictionaryUpdate). Ok us) others)
        (λ j k. let n : id + 1 + j ≡ id + suc j = omega arith in ap (λ (i : ℕ). later_by i k) n ∙ l (suc j) k) in
        map-append message.shows (sent_of c.recording id m) (all_sent c.recording (id + 1) ms) ∙ ap₂ (λ (x y : List Shows). x ++ y) here rest

  module _ (count : ℕ) (h : ColumnsFound c.recording c.first count c.rows (Ok c)) (o : IpcWriteOptions) (ks : List (Option DictionaryValues)) (ms : List MetDictionary) (met : AreMet o ks c ms) where
    placed_trees : (xs : List MetDictionary) → All (IsPlacedIn c) xs → map values_tree xs ≡ map (tree_of_met ns c.first) (map (met_as c) xs)
    placed_trees [] p = refl
    placed_trees (x ∷ xs) p =
        ap₂ {C = List Tree} (λ (t : Tree) (ts : List Tree). t ∷ ts) (ap (tree_at ns) (All-head (IsPlacedIn c) x xs p).node) (placed_trees xs (All-rest (IsPlacedIn c) x xs _ refl p))

    trees_are : map values_tree ms ≡ met_trees ns (column_nodes ns c.first count)
    trees_are =
        placed_trees ms met.placed
        ∙ ap (map (tree_of_met ns c.first)) (met.met ∙ ap (λ (ws : List Window). met_columns 0 (shown_side ws)) (windows_are c count h))
        ∙ columns_named ns bs c.recording.opened c.first c.rows count 0 (column_node ns c.first) (λ i. let z : i ≡ 0 + i = omega arith in ap (column_node ns c.first) z) (inside c count h)

    all_are : map message.shows (messages_of c ms) ≡ all_sends (later_in c.recording c.first count) (met_in_batch c) (updates_in ms) c.rows (shown_side (column_windows c))
    all_are =
        let by = later_in c.recording c.first count in
        let own : Shows = message.shows (batch_message c) in
        let given = ap (collected o (kept_in_batch c ks)) met.met ∙ met.updates in
        let each = each_sent o by ms (kept_in_batch c ks) 0 met.placed given (λ j k. let z : 0 + j ≡ j = omega arith in ap (λ (i : ℕ). by i k) z ∙ ap (λ (ts : List Tree). later bs ts j k) (sym trees_are)) in
        map-append message.shows (all_sent c.recording 0 ms) (batch_message c ∷ [])
        ∙ ap (λ (ss : List Shows). ss ++ own ∷ []) (each ∙ ap (λ (ds : List Met). sends by 0 ds (updates_in ms)) met.met)

pub sent : (rec : Recording) (first count n : ℕ) (c : Columns) (o : IpcWriteOptions) (ks : List (Option DictionaryValues)) (ms : List MetDictionary) → ColumnsFound rec first count n (Ok c) → AreMet o ks c ms
    → map message.shows (messages_of c ms) ≡ all_sends (later_in rec first count) (met_in_batch c) (updates_in ms) n (shown_side (column_windows c))
sent rec first count n c o ks ms h met =
    as_asked rec first count n c (λ (r : Recording) (f m : ℕ). map message.shows (messages_of c ms) ≡ all_sends (later_in r f count) (met_in_batch c) (updates_in ms) m (shown_side (column_windows c))) h
    (λ g. all_are c count g o ks ms met)
