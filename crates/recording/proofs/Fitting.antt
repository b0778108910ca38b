-- One column more, and the first that does not fit.
use Rattle.std.proofs.Common.{◌≡◌, ℕ, ◌+◌, ◌<◌, ◌≤◌, List, [], ◌∷◌, ◌++◌, All, map, length, refl, sym, ap₂, ◌∙◌, subst, inl, inr, add-one, arith}
use Rattle.std.proofs.lemmas.Bool.{cases_eq}
use Rattle.std.proofs.lemmas.List.Elements.{All-nil, All-cons}
use Rattle.layout.specs.declared.fault.Refusal.TheVariants.{Nesting}
use Rattle.layout.specs.declared.node.Node.{Node}
use Rattle.layout.specs.Rules.{SideBySide, AllRows}
use Rattle.layout.proofs.Opening.{kept_rule}
use Rattle.layout.specs.Columns.{column_node, ColumnFits}
use Rattle.layout.specs.Nodes.{node_at, end_of}
use Rattle.recording.specs.declared.node.NodeRef.{NodeRef}
use Rattle.recording.specs.declared.recording.Recording.{Recording}
use Rattle.recording.specs.NodeRefs.{table_of, numbers_of}
use Rattle.recording.specs.Places.{Place, place_of, places_between, trees_of, rows_at}
use Rattle.recording.specs.View.{nodes_in, bytes_in}
use Rattle.recording.proofs.SideBySide.{places_none, none_left, first_left}
use Rattle.recording.proofs.Below.{sides_are, side_more}

module _ (rec : Recording) (first rows k : ℕ) where
  abbrev p : ℕ
  p = column_node (nodes_in rec) first k

  abbrev e : ℕ
  e = length (nodes_in rec)

  -- no node is left
  pub column_missing : trees_of rec p ≡ [] → ColumnFits (nodes_in rec) first rows k → ⊥
  column_missing none fits = absurd (omega (arith, none_left rec p e (omega arith) none, fits.stands))

  -- a node with other rows comes next
  pub column_differs : (n : NodeRef) (rest : List Place) → trees_of rec p ≡ place_of n ∷ rest → ((numbers_of n).rows ≡ rows → ⊥) → ColumnFits (nodes_in rec) first rows k → ⊥
  column_differs n rest left ne fits =
      let l = first_left rec p e (omega arith) n rest left in
      ne (ap₂ (λ (rec : Recording) (i : ℕ). (node_at (nodes_in rec) i).rows) l.here.0 l.here.1 ∙ fits.agrees)

  -- the node that comes next ends where the next column begins
  pub column_ends : (n : NodeRef) (rest : List Place) (q : ℕ) → trees_of rec p ≡ place_of n ∷ rest → q ≡ end_of (table_of n) n.index → q ≡ column_node (nodes_in rec) first (k + 1)
  column_ends n rest q left ends =
      let l = first_left rec p e (omega arith) n rest left in
      rw (add-one k) (ends ∙ ap₂ (λ (rec : Recording) (i : ℕ). end_of (nodes_in rec) i) l.here.0 l.here.1)

  pub column_within : (n : NodeRef) (rest : List Place) (q : ℕ) → trees_of rec p ≡ place_of n ∷ rest → q ≤ length (table_of n) → q ≤ length (nodes_in rec)
  column_within n rest q left h =
      let l = first_left rec p e (omega arith) n rest left in
      subst (λ (rec : Recording). q ≤ length (nodes_in rec)) l.here.0 h

  -- a node with these rows comes next
  pub column_next : (n : NodeRef) (rest : List Place) → trees_of rec p ≡ place_of n ∷ rest → (numbers_of n).rows ≡ rows → ((j : ℕ) → j < k → ColumnFits (nodes_in rec) first rows j)
      → (rest ≡ trees_of rec (column_node (nodes_in rec) first (k + 1))) × ((j : ℕ) → j < k + 1 → ColumnFits (nodes_in rec) first rows j)
  column_next n rest left same before =
      let l = first_left rec p e (omega arith) n rest left in
      let agrees = sym (ap₂ (λ (rec : Recording) (i : ℕ). (node_at (nodes_in rec) i).rows) l.here.0 l.here.1) ∙ same in (
        rw (add-one k) l.others,
        λ j h.
            elim (cases_eq j k) [
              | inl q ↦ subst (λ (i : ℕ). ColumnFits (nodes_in rec) first rows i) (sym q) (record { stands = l.stands; agrees = agrees })
              | inr ne ↦ before j (omega arith)
            ],
      )

-- ---- the nodes of the columns so far

rows_more : (ns : List Node) (cs : List ℕ) (e rows : ℕ) → AllRows ns cs rows → (node_at ns e).rows ≡ rows → AllRows ns (cs ++ e ∷ []) rows
rows_more ns [] e rows a same = (same, tt)
rows_more ns (c ∷ cs) e rows a same = (a.0, rows_more ns cs e rows a.1 same)

-- they fill the nodes from the first on, and have the rows asked for
pub record SoFar (rec : Recording) (first rows k : ℕ) : Type 0 where
  pub nodes : List ℕ
  pub beside : SideBySide (nodes_in rec) first nodes (column_node (nodes_in rec) first k)
  pub alike : AllRows (nodes_in rec) nodes rows

pub so_far_none : (rec : Recording) (first rows : ℕ) → SoFar rec first rows 0
so_far_none rec first rows = record { nodes = []; beside = refl; alike = tt }

pub so_far_more : (rec : Recording) (first rows k : ℕ) → SoFar rec first rows k → ColumnFits (nodes_in rec) first rows k → SoFar rec first rows (k + 1)
so_far_more rec first rows k s fits =
    let ns = nodes_in rec in
    let q : ℕ = column_node ns first k in
    let some : 1 ≤ (node_at ns q).span = (kept_rule ns (bytes_in rec) rec.opened q fits.stands Nesting).some in
    record {
      nodes = s.nodes ++ q ∷ [];
      beside = rw (add-one k) (side_more ns s.nodes first q s.beside some);
      alike = rows_more ns s.nodes q rows s.alike fits.agrees;
    }

-- so each of the nodes between has these rows
pub alike_between : (rec : Recording) (first rows k end : ℕ) → SoFar rec first rows k → (0 < k → end ≡ column_node (nodes_in rec) first k) → (k ≡ 0 → end ≤ first)
    → All (λ p. rows_at p ≡ rows) (places_between rec first end)
alike_between rec first rows k end s last none =
    elim (cases_eq k 0) [
      | inl z ↦ subst (All (λ p. rows_at p ≡ rows)) (sym (places_none rec first end (none z))) (All-nil (λ p. rows_at p ≡ rows))
      | inr ne ↦
          (let e = last (omega arith) in
          rw e (subst (All (λ p. rows_at p ≡ rows)) (sym (sides_are rec s.nodes first (column_node (nodes_in rec) first k) s.beside)) (each s.nodes s.alike)))
    ]
  where
    each : (cs : List ℕ) → AllRows (nodes_in rec) cs rows → All (λ p. rows_at p ≡ rows) (map (λ (i : ℕ). (rec, i)) cs)
    each [] h = All-nil (λ p. rows_at p ≡ rows)
    each (c ∷ cs) h = All-cons (λ p. rows_at p ≡ rows) (rec, c) (map (λ (i : ℕ). (rec, i)) cs) h.0 (each cs h.1)
