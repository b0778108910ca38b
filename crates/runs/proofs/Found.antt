-- The columns that are found in a recording are those that it shows.
use Rattle.std.proofs.Common.{◌≡◌, ℕ, zero, suc, ◌+◌, ◌<◌, ◌≤◌, Bool, true, false, cond, List, [], ◌∷◌, map, length, Some, None, Ok, Err, sym, refl, ap, ◌∙◌, subst, inl, inr, arith}
use Rattle.std.proofs.lemmas.Bool.{and_parts, and_from, ltb-true, eqb-true, lt-ltb, eq-eqb, cases_Bool, cases_eq}
use Rattle.std.specs.Prelude.{nat_lt, ◌==◌}
use Rattle.layout.specs.declared.fault.Fault.{Fault}
use Rattle.layout.specs.declared.fault.Refusal.TheVariants as refused
use Rattle.layout.specs.declared.fault.Refusal.TheVariants.{Nesting}
use Rattle.layout.specs.declared.node.Node.{Node}
use Rattle.layout.specs.Columns.{column_node, ColumnFits}
use Rattle.layout.specs.Faults.{fault_of}
use Rattle.layout.specs.Lists.{rows}
use Rattle.layout.specs.Nodes.{node_at, end_of}
use Rattle.layout.specs.Rules.{SideBySide}
use Rattle.layout.specs.Windows.{Window, EachInside, columns_of, shown_side}
use Rattle.layout.proofs.Opening.{kept_rule}
use Rattle.recording.specs.declared.columns.Columns.{Columns}
use Rattle.recording.specs.declared.recording.Recording.{Recording}
use Rattle.recording.specs.ColumnPlaces.{ColumnsFound, column_places}
use Rattle.recording.specs.Passing.{rows_of_places}
use Rattle.recording.specs.Places.{places_between}
use Rattle.recording.specs.View.{nodes_in, bytes_in}
use Rattle.recording.specs.Windows.{window_at}
use Rattle.recording.proofs.Below.{sides_are}
use Rattle.dictionaries.specs.Batches as batch
use Rattle.runs.specs.Layers.{recorded, later_in}
use Rattle.runs.specs.Looks.{Look, fits, first_unfit, column_nodes, look_by, look}
use Rattle.runs.specs.Looks as look
use Rattle.runs.proofs.Columns.{each_inside}

-- ---- the first that does not fit

module _ (ns : List Node) (first n : ℕ) where
  fit : (k : ℕ) → ColumnFits ns first n k → fits ns first n k ≡ true
  fit k h = and_from (nat_lt (column_node ns first k) (length ns)) ((node_at ns (column_node ns first k)).rows == n) (lt-ltb _ _ h.stands) (eq-eqb _ _ h.agrees)

  unfit : (k : ℕ) → (ColumnFits ns first n k → ⊥) → fits ns first n k ≡ false
  unfit k h =
      elim (cases_Bool (fits ns first n k)) [
        | inl t ↦
            (let two = and_parts (nat_lt (column_node ns first k) (length ns)) ((node_at ns (column_node ns first k)).rows == n) t in
            absurd (h (record { stands = ltb-true _ _ two.0; agrees = eqb-true _ _ two.1 })))
        | inr f ↦ f
      ]

  all_fit : (count k : ℕ) → ((j : ℕ) → j < count → ColumnFits ns first n (k + j)) → first_unfit ns first n k count ≡ None
  all_fit zero k h = refl
  all_fit (suc count) k h =
      let here : ColumnFits ns first n k = subst (ColumnFits ns first n) (omega arith) (h 0 (omega arith)) in
      ap (λ (b : Bool). cond b (first_unfit ns first n (k + 1) count) (Some k)) (fit k here)
      ∙ all_fit count (k + 1) (λ j l. let m : k + suc j ≡ k + 1 + j = omega arith in subst (ColumnFits ns first n) m (h (suc j) (omega arith)))

  one_unfit : (count k j : ℕ) → j < count → (ColumnFits ns first n (k + j) → ⊥) → ((i : ℕ) → i < j → ColumnFits ns first n (k + i)) → first_unfit ns first n k count ≡ Some (k + j)
  one_unfit zero k j l not before = absurd (omega arith)
  one_unfit (suc count) k zero l not before =
      let z : k + 0 ≡ k = omega arith in
      ap (λ (b : Bool). cond b (first_unfit ns first n (k + 1) count) (Some k)) (unfit k (λ h. not (subst (ColumnFits ns first n) (sym z) h))) ∙ ap (λ (i : ℕ). Some i) (sym z)
  one_unfit (suc count) k (suc j) l not before =
      let here : ColumnFits ns first n k = subst (ColumnFits ns first n) (omega arith) (before 0 (omega arith)) in
      let next : (i : ℕ) → k + suc i ≡ k + 1 + i = λ i. omega arith in
      ap (λ (b : Bool). cond b (first_unfit ns first n (k + 1) count) (Some k)) (fit k here)
      ∙ one_unfit count (k + 1) j (omega arith) (λ h. not (subst (ColumnFits ns first n) (sym (next j)) h)) (λ i m. subst (ColumnFits ns first n) (next i) (before (suc i) (omega arith)))
      ∙ ap (λ (i : ℕ). Some i) (sym (next j))

-- ---- columns side by side

column_shift : (ns : List Node) (p k : ℕ) → column_node ns (end_of ns p) k ≡ column_node ns p (suc k)
column_shift ns p zero = refl
column_shift ns p (suc k) = ap (end_of ns) (column_shift ns p k)

beside : (ns : List Node) (count p : ℕ) (f : ℕ → ℕ) → ((i : ℕ) → f i ≡ column_node ns p i) → ((i : ℕ) → i < count → 1 ≤ (node_at ns (column_node ns p i)).span) → SideBySide ns p (rows count f) (column_node ns p count)
beside ns zero p f e some = refl
beside ns (suc count) p f e some =
    let rest = beside ns count (end_of ns p) (λ i. f (suc i)) (λ i. e (suc i) ∙ sym (column_shift ns p i))
    (λ i l. subst (λ (c : ℕ). 1 ≤ (node_at ns c).span) (sym (column_shift ns p i)) (some (suc i) (omega arith))) in
    (e 0, some 0 (omega arith), subst (SideBySide ns (end_of ns p) (rows count (λ i. f (suc i)))) (column_shift ns p count) rest)

windows_of : (rec : Recording) (n : ℕ) (cs : List ℕ) → rows_of_places 0 n (map (λ (i : ℕ). (rec, i)) cs) ≡ columns_of (nodes_in rec) (bytes_in rec) cs 0 n
windows_of rec n [] = refl
windows_of rec n (c ∷ cs) = ap (λ (ws : List Window). window_at rec c 0 n ∷ ws) (windows_of rec n cs)

-- ---- columns that are found

module _ (c : Columns) (count : ℕ) (h : ColumnsFound c.recording c.first count c.rows (Ok c)) where
  abbrev ns : List Node
  ns = nodes_in c.recording

  pub none_unfit : first_unfit ns c.first c.rows 0 count ≡ None
  none_unfit = all_fit ns c.first c.rows count 0 (λ j l. let z : j ≡ 0 + j = omega arith in subst (ColumnFits ns c.first c.rows) z (h.0.1 j l))

  side : SideBySide ns c.first (column_nodes ns c.first count) (column_node ns c.first count)
  side = beside ns count c.first (column_node ns c.first) (λ i. refl) (λ i l. (kept_rule ns (bytes_in c.recording) c.recording.opened (column_node ns c.first i) (h.0.1 i l).stands Nesting).some)

  places_are : column_places c ≡ map (λ (i : ℕ). (c.recording, i)) (column_nodes ns c.first count)
  places_are =
      elim (cases_eq count 0) [
        | inl z ↦ h.5 z ∙ ap (λ (m : ℕ). map (λ (i : ℕ). (c.recording, i)) (column_nodes ns c.first m)) (sym z)
        | inr ne ↦ ap (places_between c.recording c.first) (h.4 (omega arith)) ∙ sides_are c.recording (column_nodes ns c.first count) c.first (column_node ns c.first count) side
      ]

  pub windows_are : batch.column_windows c ≡ look.column_windows (recorded c.recording) c.first count c.rows
  windows_are = ap (rows_of_places 0 c.rows) places_are ∙ windows_of c.recording c.rows (column_nodes ns c.first count)

  pub inside : EachInside (look.column_windows (recorded c.recording) c.first count c.rows)
  inside = each_inside ns (bytes_in c.recording) c.recording.opened c.first c.rows count 0 (column_node ns c.first) (λ i. let z : i ≡ 0 + i = omega arith in ap (column_node ns c.first) z) none_unfit

  looked : look (recorded c.recording) c.first count c.rows ≡ look.shows (shown_side (batch.column_windows c)) (later_in c.recording c.first count)
  looked =
      ap (look_by (recorded c.recording) c.first count c.rows) none_unfit
      ∙ ap (λ (ws : List Window). look.shows (shown_side ws) (later_in c.recording c.first count)) (sym windows_are)

-- what holds of columns as they are found holds of them as they were asked for
pub as_asked : (rec : Recording) (first count n : ℕ) (c : Columns) (P : Recording → ℕ → ℕ → Type 0) → ColumnsFound rec first count n (Ok c)
    → (ColumnsFound c.recording c.first count c.rows (Ok c) → P c.recording c.first c.rows) → P rec first n
as_asked rec first count n c P h p =
    subst (λ (r : Recording). ColumnsFound r first count n (Ok c) → P r first n) h.1
    (subst (λ (f : ℕ). ColumnsFound c.recording f count n (Ok c) → P c.recording f n) h.2
    (subst (λ (m : ℕ). ColumnsFound c.recording c.first count m (Ok c) → P c.recording c.first m) h.3 p)) h

pub found : (rec : Recording) (first count n : ℕ) (c : Columns) → ColumnsFound rec first count n (Ok c)
    → look (recorded rec) first count n ≡ look.shows (shown_side (batch.column_windows c)) (later_in rec first count)
found rec first count n c h =
    as_asked rec first count n c (λ (r : Recording) (f m : ℕ). look (recorded r) f count m ≡ look.shows (shown_side (batch.column_windows c)) (later_in r f count)) h (looked c count)

-- ---- columns that are not

pub lacked : (rec : Recording) (first count n : ℕ) (f : Fault) → n ≤ 2147483647 → ColumnsFound rec first count n (Err f)
    → (k : ℕ) × (look (recorded rec) first count n ≡ look.lacks k) × (f ≡ fault_of refused.Column k 0)
lacked rec first count n f few (inl h) = absurd (omega (arith, h.1))
lacked rec first count n f few (inr u) =
    let ns = nodes_in rec in
    let from : (j : ℕ) → j ≡ 0 + j = λ j. omega arith in
    let one = one_unfit ns first n count 0 u.column u.below (λ h. u.unfit (subst (ColumnFits ns first n) (sym (from u.column)) h)) (λ i l. subst (ColumnFits ns first n) (from i) (u.before i l)) in
    let at : first_unfit ns first n 0 count ≡ Some u.column = one ∙ ap (λ (i : ℕ). Some i) (sym (from u.column)) in
    (u.column, ap (look_by (recorded rec) first count n) at, u.named)
