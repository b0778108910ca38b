-- The columns of a batch that lacks none, and the dictionaries that they meet.
use Rattle.std.proofs.Common.{◌≡◌, ℕ, zero, suc, ◌+◌, ◌<◌, Bool, true, false, cond, List, [], ◌∷◌, ◌++◌, map, length, Some, None, sym, refl, ap, ap₂, ◌∙◌, subst, arith}
use Rattle.std.proofs.lemmas.Bool.{and_parts, ltb-true, eqb-true}
use Rattle.std.proofs.lemmas.Simd.{map-map}
use Rattle.std.specs.Prelude.{nat_lt, ◌==◌}
use Rattle.layout.specs.declared.node.Node.{Node}
use Rattle.layout.specs.Columns.{column_node}
use Rattle.layout.specs.Lists.{rows}
use Rattle.layout.specs.Nodes.{node_at}
use Rattle.layout.specs.Opening.{Kept}
use Rattle.layout.specs.Shown.{Shown, Value, values}
use Rattle.layout.specs.Trees.{Tree, Forest, tree_at}
use Rattle.layout.specs.Windows.{Window, EachInside, columns_of, shown_in, shown_side, met_in, met_in_all, dictionary_values}
use Rattle.laws.proofs.Kept.{opened_at}
use Rattle.laws.proofs.Lists.{map-append}
use Rattle.laws.proofs.Opened.{Opened, OpenedAll}
use Rattle.laws.proofs.Says.{meets, ids_are}
use Rattle.dictionaries.specs.Collecting.{Met, met_from, met_columns}
use Rattle.dictionaries.proofs.Meeting.{met_values}
use Rattle.runs.specs.Looks.{fits, first_unfit, met_trees}
use Rattle.runs.proofs.Values.{whole, AllOpened}

-- ---- each is inside a node

module _ (ns : List Node) (bs : List ℕ) (kept : Kept ns bs) (first n : ℕ) where
  pub each_inside : (count k : ℕ) (f : ℕ → ℕ) → ((i : ℕ) → f i ≡ column_node ns first (k + i)) → first_unfit ns first n k count ≡ None → EachInside (columns_of ns bs (rows count f) 0 n)
  each_inside zero k f e h = tt
  each_inside (suc count) k f e h =
      by (fits ns first n k) refl h (each_inside count (k + 1) (λ i. f (suc i)) (λ i. let m : k + suc i ≡ k + 1 + i = omega arith in e (suc i) ∙ ap (column_node ns first) m))
    where
      by : (b : Bool) → fits ns first n k ≡ b → cond b (first_unfit ns first n (k + 1) count) (Some k) ≡ None
          → (first_unfit ns first n (k + 1) count ≡ None → EachInside (columns_of ns bs (rows count (λ i. f (suc i))) 0 n)) → EachInside (columns_of ns bs (rows (suc count) f) 0 n)
      by false p q others = cc
      by true p q others =
          let two = and_parts (nat_lt (column_node ns first k) (length ns)) ((node_at ns (column_node ns first k)).rows == n) p in
          let z : k + 0 ≡ k = omega arith in
          let here : f 0 ≡ column_node ns first k = e 0 ∙ ap (column_node ns first) z in
          let stands : column_node ns first k < length ns = ltb-true _ _ two.0 in
          let same : (node_at ns (column_node ns first k)).rows ≡ n = eqb-true _ _ two.1 in
          let there : f 0 < length ns = subst (λ (c : ℕ). c < length ns) (sym here) stands in
          let long : (node_at ns (f 0)).rows ≡ n = ap (λ (c : ℕ). (node_at ns c).rows) here ∙ same in (
            record { opened = kept; stands = there; within = omega (arith, long) },
            others q,
          )

-- ---- the dictionaries met

both_opened : (bs : List ℕ) (ts us : List Tree) → AllOpened bs ts → AllOpened bs us → AllOpened bs (ts ++ us)
both_opened bs [] us g h = h
both_opened bs (t ∷ ts) us g h = (g.0, both_opened bs ts us g.1 h)

mutual
  unfolding met_in

  opened_met : (bs : List ℕ) (t : Tree) → Opened bs t → AllOpened bs (met_in t)
  opened_met bs (Tree.nulls n) g = tt
  opened_met bs (Tree.bools n) g = tt
  opened_met bs (Tree.fixed n) g = tt
  opened_met bs (Tree.bytes w n) g = tt
  opened_met bs (Tree.lists w n t) g = opened_met bs t g.1
  opened_met bs (Tree.struct n f) g = opened_met_all bs f g.1
  opened_met bs (Tree.dictionary n t) g = (g.1, tt)

  opened_met_all : (bs : List ℕ) (f : Forest) → OpenedAll bs f → AllOpened bs (met_in_all f)
  opened_met_all bs Forest.none g = tt
  opened_met_all bs (Forest.more t f) g = both_opened bs (met_in t) (met_in_all f) (opened_met bs t g.0) (opened_met_all bs f g.1)

module _ (ns : List Node) (bs : List ℕ) (n : ℕ) where
  abbrev column : ℕ → Window
  column c = record { nodes = ns; bytes = bs; node = c; first = 0; rows = n }

  pub all_opened : (cs : List ℕ) → EachInside (columns_of ns bs cs 0 n) → AllOpened bs (met_trees ns cs)
  all_opened [] g = tt
  all_opened (c ∷ cs) g = both_opened bs (met_in (tree_at ns c)) (met_trees ns cs) (opened_met bs (tree_at ns c) (opened_at ns bs g.0.opened c g.0.stands)) (all_opened cs g.1)

  -- what they show is all rows of their trees
  met_here : (k c : ℕ) → map (λ (d : Met). d.values) (met_from k 0 (shown_in (column c))) ≡ map (whole bs) (met_in (tree_at ns c))
  met_here k c = met_values k 0 (shown_in (column c)) ∙ meets bs (tree_at ns c) 0 n

  pub met_are : (k : ℕ) (cs : List ℕ) → map (λ (d : Met). d.values) (met_columns k (shown_side (columns_of ns bs cs 0 n))) ≡ map (whole bs) (met_trees ns cs)
  met_are k [] = refl
  met_are k (c ∷ cs) =
      map-append (λ (d : Met). d.values) (met_from k 0 (shown_in (column c))) (met_columns (k + 1) (shown_side (columns_of ns bs cs 0 n)))
      ∙ ap₂ (λ (x y : List Shown). x ++ y) (met_here k c) (met_are (k + 1) cs)
      ∙ sym (map-append (whole bs) (met_in (tree_at ns c)) (met_trees ns cs))

  -- and has their values
  whole_are : (cs : List ℕ) → EachInside (columns_of ns bs cs 0 n) → map values (map (whole bs) (met_trees ns cs)) ≡ dictionary_values (columns_of ns bs cs 0 n)
  whole_are [] g = refl
  whole_are (c ∷ cs) g =
      ap (map values) (map-append (whole bs) (met_in (tree_at ns c)) (met_trees ns cs))
      ∙ map-append values (map (whole bs) (met_in (tree_at ns c))) (map (whole bs) (met_trees ns cs))
      ∙ ap₂ (λ (x y : List (List Value)). x ++ y) (ids_are bs (tree_at ns c) (opened_at ns bs g.0.opened c g.0.stands)) (whole_are cs g.1)

  pub values_are : (cs : List ℕ) → EachInside (columns_of ns bs cs 0 n) → map (λ (d : Met). values d.values) (met_columns 0 (shown_side (columns_of ns bs cs 0 n))) ≡ dictionary_values (columns_of ns bs cs 0 n)
  values_are cs g =
      sym (map-map values (λ (d : Met). d.values) (met_columns 0 (shown_side (columns_of ns bs cs 0 n)))) ∙ ap (map values) (met_are 0 cs) ∙ whole_are cs g
