-- The field records of a window.
use Rattle.std.proofs.Common.{◌≡◌, ◌≤◌, List, [], ◌∷◌, refl, ◌∙◌, arith}
use Rattle.layout.specs.Messages.{FieldRecord, own_field, fields, fields_all}
use Rattle.layout.specs.Shown.{Shown, nulls, bools, fixed, bytes, lists, struct, dictionary, count}
use Rattle.layout.specs.Windows as layout
use Rattle.layout.specs.Windows.{Inside, tree_in, shown_in}
use Rattle.laws.specs.Sizes.{FieldsFit}
use Rattle.laws.proofs.Fits.{fields_fit}
use Rattle.laws.proofs.Kept.{opened_at, tree_rows}
use Rattle.laws.proofs.Says.{counts}

-- what is asked of a field's numbers
pub record FieldFits (f : FieldRecord) : Type 0 where
  pub rows : f.rows ≤ 2147483647
  pub nulls : f.nulls ≤ f.rows

first_fits : (f : FieldRecord) (fs : List FieldRecord) → FieldsFit (f ∷ fs) → FieldFits f
first_fits f fs h = record { rows = h.0; nulls = h.1 }

own_fits : (s : Shown) → FieldsFit (fields s) → FieldFits (own_field s)
unfolding fields
own_fits (nulls l n) h = first_fits (own_field (nulls l n)) [] h
own_fits (bools l m b) h = first_fits (own_field (bools l m b)) [] h
own_fits (fixed l w m vs) h = first_fits (own_field (fixed l w m vs)) [] h
own_fits (bytes l w m vs) h = first_fits (own_field (bytes l w m vs)) [] h
own_fits (lists l w m cs s) h = first_fits (own_field (lists l w m cs s)) (fields s) h
own_fits (struct l m n ss) h = first_fits (own_field (struct l m n ss)) (fields_all ss) h
own_fits (dictionary l w m ks s) h = first_fits (own_field (dictionary l w m ks s)) [] h

own_rows : (s : Shown) → (own_field s).rows ≡ count s
own_rows (nulls l n) = refl
own_rows (bools l m b) = refl
own_rows (fixed l w m vs) = refl
own_rows (bytes l w m vs) = refl
own_rows (lists l w m cs s) = refl
own_rows (struct l m n ss) = refl
own_rows (dictionary l w m ks s) = refl

pub field_rows : (w : layout.Window) → (own_field (shown_in w)).rows ≡ w.rows
field_rows w = own_rows (shown_in w) ∙ counts w.bytes (tree_in w) w.first w.rows

pub field_fits : (w : layout.Window) → Inside w → FieldFits (own_field (shown_in w))
field_fits w g =
    own_fits (shown_in w)
    (fields_fit w.bytes (tree_in w) w.first w.rows (opened_at w.nodes w.bytes g.opened w.node g.stands) (omega (arith, g.within, tree_rows w.nodes w.node)))
