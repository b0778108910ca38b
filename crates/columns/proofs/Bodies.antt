-- The windows of a message lie in one recording, and 63 bits hold the length of its body.
use Rattle.std.proofs.Common.{◌≡◌, ℕ, zero, suc, ◌-◌, ◌^◌, ◌<◌, ◌≤◌, List, [], ◌∷◌, map, length, All, sym, refl, ap, ◌∙◌, subst, inl, inr, arith}
use Rattle.std.proofs.lemmas.Bool.{cases_lt}
use Rattle.std.proofs.lemmas.List.Elements.{All-head, All-rest}
use Rattle.layout.specs.declared.fault.Refusal.TheVariants.{Nesting}
use Rattle.layout.specs.declared.node.Node.{Node}
use Rattle.layout.specs.Messages.{body_of}
use Rattle.layout.specs.Nodes.{end_of}
use Rattle.layout.specs.Rules.{SideBySide, Nested}
use Rattle.layout.specs.Tests.{kids}
use Rattle.layout.specs.Windows as layout
use Rattle.layout.specs.Windows.{Inside, EachInside, columns_of, shown_side}
use Rattle.layout.proofs.Kids.{kids_step, kids_end, side_le}
use Rattle.layout.proofs.Opening.{kept_rule}
use Rattle.laws.proofs.Fits.{sizes}
use Rattle.recording.specs.declared.columns.Columns.{Columns}
use Rattle.recording.specs.declared.recording.Recording.{Recording}
use Rattle.recording.specs.Passing.{rows_of_places}
use Rattle.recording.specs.Places.{Place, rows_at}
use Rattle.recording.specs.View.{nodes_in, bytes_in}
use Rattle.recording.specs.Windows.{window_at}
use Rattle.dictionaries.specs.Batches.{column_windows}
use Rattle.columns.specs.Pieces.{body_size, pieces_side}
use Rattle.columns.proofs.PieceBytes.{AllOf, body_told}

module _ (rec : Recording) where
  abbrev ns : List Node
  ns = nodes_in rec

  abbrev bs : List ℕ
  bs = bytes_in rec

  nest : (i : ℕ) → i < length ns → Nested ns i
  nest i l = kept_rule ns bs rec.opened i l Nesting

  -- ---- trees side by side, up to the end of the last

  record Tiles (p : ℕ) (cs : List ℕ) : Type 0 where
    last : ℕ
    side : SideBySide ns p cs last
    within : last ≤ length ns

  tiles : (f p e : ℕ) → p < e → e ≤ length ns → e - p ≤ f → Tiles p (kids f ns p e)
  tiles zero p e l m d = absurd (omega arith)
  tiles (suc f) p e l m d =
      let n = nest p (omega arith) in
      let step = kids_step ns f p e l n.some in
      elim (cases_lt (end_of ns p) e) [
        | inl h ↦
            (let rest = tiles f (end_of ns p) e h m (omega (arith, n.some)) in
            subst (Tiles p) (sym step) (record { last = rest.last; side = (refl, n.some, rest.side); within = rest.within }))
        | inr h ↦
            subst (Tiles p) (sym (step ∙ ap (λ (cs : List ℕ). p ∷ cs) (kids_end ns f (end_of ns p) e h)))
            (record { last = end_of ns p; side = (refl, n.some, refl); within = n.within })
      ]

  -- ---- the windows of such trees

  module _ (n : ℕ) where
    windows_are : (cs : List ℕ) → rows_of_places 0 n (map (λ (i : ℕ). (rec, i)) cs) ≡ columns_of ns bs cs 0 n
    windows_are [] = refl
    windows_are (c ∷ cs) = ap (λ (ws : List layout.Window). window_at rec c 0 n ∷ ws) (windows_are cs)

    each_in : (cs : List ℕ) (p e : ℕ) → SideBySide ns p cs e → e ≤ length ns → All (λ (q : Place). rows_at q ≡ n) (map (λ (i : ℕ). (rec, i)) cs) → EachInside (columns_of ns bs cs 0 n)
    each_in [] p e s l a = tt
    each_in (c ∷ cs) p e s l a =
        let here : rows_at (rec, c) ≡ n = All-head (λ (q : Place). rows_at q ≡ n) (rec, c) (map (λ (i : ℕ). (rec, i)) cs) a in (
          record { opened = rec.opened; stands = omega (arith, s.0, s.1, side_le ns cs (end_of ns p) e s.2); within = omega (arith, here) },
          each_in cs (end_of ns p) e s.2 l (All-rest (λ (q : Place). rows_at q ≡ n) (rec, c) (map (λ (i : ℕ). (rec, i)) cs) _ refl a),
        )

    all_of : (cs : List ℕ) → EachInside (columns_of ns bs cs 0 n) → AllOf bs (columns_of ns bs cs 0 n)
    all_of [] h = tt
    all_of (c ∷ cs) h = (h.0, refl, all_of cs h.1)

-- ---- columns

module _ (c : Columns) where
  abbrev rec : Recording
  rec = c.recording

  abbrev cs : List ℕ
  cs = kids (c.end - c.first) (nodes_in rec) c.first c.end

  same : column_windows c ≡ columns_of (nodes_in rec) (bytes_in rec) cs 0 c.rows
  same = windows_are rec c.rows cs

  -- no column, or trees side by side
  tiled : (c.first < c.end → Tiles rec c.first cs) × (c.end ≤ c.first → cs ≡ [])
  tiled = (λ l. tiles rec (c.end - c.first) c.first c.end l c.within (omega arith), λ l. kids_end (nodes_in rec) (c.end - c.first) c.first c.end l)

  each : (t : Tiles rec c.first cs) → EachInside (columns_of (nodes_in rec) (bytes_in rec) cs 0 c.rows)
  each t = each_in rec c.rows cs c.first t.last t.side t.within c.alike

  columns_inside : EachInside (columns_of (nodes_in rec) (bytes_in rec) cs 0 c.rows)
  columns_inside = elim (cases_lt c.first c.end) [
    | inl l ↦ each (tiled.0 l)
    | inr l ↦ subst (λ (cs : List ℕ). EachInside (columns_of (nodes_in rec) (bytes_in rec) cs 0 c.rows)) (sym (tiled.1 l)) tt
  ]

  pub columns_all : AllOf (bytes_in rec) (column_windows c)
  columns_all = subst (AllOf (bytes_in rec)) (sym same) (all_of rec c.rows cs columns_inside)

  pub columns_body : (al : ℕ) → 0 < al → al ≤ 64 → body_size al (pieces_side (column_windows c)) < 2 ^ 63
  columns_body al some few = elim (cases_lt c.first c.end) [
    | inl l ↦
        (let t = tiled.0 l in
        let fit = (sizes.numbers al (nodes_in rec) (bytes_in rec) c.first t.last cs 0 c.rows some few t.side t.within (each t)).body in
        let told = body_told al (bytes_in rec) (column_windows c) columns_all ∙ ap (λ (ws : List layout.Window). length (body_of al (shown_side ws))) same in
        omega (arith, fit, told))
    | inr l ↦
        (let none = same ∙ ap (λ (cs : List ℕ). columns_of (nodes_in rec) (bytes_in rec) cs 0 c.rows) (tiled.1 l) in
        omega (arith, ap (λ (ws : List layout.Window). body_size al (pieces_side ws)) none))
  ]

-- ---- a dictionary

module _ (rec : Recording) (i a n : ℕ) (g : Inside (window_at rec i a n)) where
  abbrev w : layout.Window
  w = window_at rec i a n

  pub window_all : AllOf (bytes_in rec) (w ∷ [])
  window_all = (g, refl, tt)

  pub window_body : (al : ℕ) → 0 < al → al ≤ 64 → body_size al (pieces_side (w ∷ [])) < 2 ^ 63
  window_body al some few =
      let t = nest rec i g.stands in
      let fit = (sizes.numbers al (nodes_in rec) (bytes_in rec) i (end_of (nodes_in rec) i) (i ∷ []) a n some few (refl, t.some, refl) t.within (g, tt)).body in
      omega (arith, fit, body_told al (bytes_in rec) (w ∷ []) window_all)
