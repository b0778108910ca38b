-- The rules of an opening as tests: each is true exactly if its rule holds (Laws, Tested).
use Rattle.std.specs.Prelude.{ℕ, zero, suc, ◌+◌, Bool, true, false, cond, not, ◌&&◌, leb, List, [], ◌∷◌, length, Some, None, Option, ◌==◌, nat_eq, nat_le, nat_lt}
use Rattle.layout.specs.declared.fault.Refusal.{Refusal}
use Rattle.layout.specs.declared.fault.Refusal.TheVariants.{Alignment, NodeBytes, TooLarge, KindOrSize, Nesting, Place, Offset, Key, Ended, Column, DictionaryAboveDictionary, NoId, Replacement, Memory, Rows, Header, Sink, Ids}
use Rattle.layout.specs.declared.kind.Kind.{Kind}
use Rattle.layout.specs.declared.kind.Kind.TheVariants.{Struct, Dictionary}
use Rattle.layout.specs.declared.node.Node.{Node}
use Rattle.layout.specs.Lists.{every, all, sum_of}
use Rattle.layout.specs.Numbers.{wide, unle, natural}
use Rattle.layout.specs.Bits.{bytes_for}
use Rattle.layout.specs.Kinds.{kind_of, size_fits, children_fit, offset_width, slot_bytes, same, has_data, has_bitmap}
use Rattle.layout.specs.Nodes.{node_at, end_of, depth_of, bitmap_of}
use Rattle.layout.specs.Rows.{mark_at, slot_at, key_at}
use Rattle.layout.specs.Rules.{reach}

-- a test of what may be absent passes where it is
abbrev pub passes : {X : Type 0} → Option X → (X → Bool) → Bool
passes None p = true
passes (Some x) p = p x

-- ---- KindOrSize

abbrev pub tabled_as : Kind → Node → Bool
tabled_as k n = size_fits k n.size && nat_le (n.from + n.rows) 2147483647

abbrev pub tabled_by : Option Kind → Node → Bool
tabled_by None n = false
tabled_by (Some k) n = tabled_as k n

-- ---- Nesting

-- the nodes from p up to e that stand side by side, each a span after the one before; none comes after one of span 0
unfoldable pub kids : ℕ → List Node → ℕ → ℕ → List ℕ
kids zero ns p e = []
kids (suc f) ns p e = cond (nat_lt p e) (p ∷ cond ((node_at ns p).span == 0) [] (kids f ns (end_of ns p) e)) []

-- there are fewer of them than the span
abbrev pub kids_of : List Node → ℕ → List ℕ
kids_of ns i = kids (node_at ns i).span ns (i + 1) (end_of ns i)

-- a tree has a span, and lies within so many nodes
abbrev pub spans_within : Node → ℕ → Bool
spans_within n room = not (n.span == 0) && nat_le n.span room

-- a child has the rows that its parent asks for: a Struct has its own in each
abbrev pub rows_agree : Kind → Node → Node → Bool
rows_agree k parent child = cond (same k Struct) (child.rows == parent.rows) true

-- as many as the kind has, and under a Struct all with its rows
abbrev pub kids_fit : Kind → List Node → ℕ → Bool
kids_fit k ns i =
    children_fit k (length (kids_of ns i))
    && cond (same k Struct) (all (kids_of ns i) (λ c. nat_eq (node_at ns c).rows (node_at ns i).rows)) true

unfoldable pub shaped_as : Option Kind → List Node → ℕ → Bool
shaped_as k ns i =
    not ((node_at ns i).span == 0)
    && (nat_le (end_of ns i) (length ns)
    && (all (kids_of ns i) (λ c. not ((node_at ns c).span == 0))
    && (1 + sum_of (kids_of ns i) (λ c. (node_at ns c).span) == (node_at ns i).span
    && passes k (λ k. kids_fit k ns i))))

-- ---- Place

abbrev pub lies : List ℕ → ℕ → ℕ → Bool
lies bs place need = nat_le (place + need) (length bs)

abbrev pub slots_lie : Kind → Node → List ℕ → Bool
slots_lie k n bs = passes (slot_bytes k n.size (n.from + n.rows)) (λ need. lies bs n.slots need)

abbrev pub bitmap_lies : Kind → Node → List ℕ → Bool
bitmap_lies k n bs = cond (has_bitmap k) (passes (bitmap_of n) (λ place. lies bs place (bytes_for (n.from + n.rows)))) true

abbrev pub data_lies : Kind → Node → List ℕ → Bool
data_lies k n bs = cond (has_data k) (lies bs n.«data» n.extent) true

unfoldable pub placed_as : Kind → Node → List ℕ → Bool
placed_as k n bs = slots_lie k n bs && (bitmap_lies k n bs && data_lies k n bs)

-- ---- Offset

unfoldable pub rises_to : List ℕ → ℕ → Node → ℕ → Bool
rises_to bs w n most =
    cond (n.rows == 0) true
    (every (n.rows + 1) (λ r. natural (slot_at bs w n r) && nat_le (unle (slot_at bs w n r)) most)
    && every n.rows (λ r. leb (unle (slot_at bs w n r)) (unle (slot_at bs w n (r + 1)))))

abbrev pub offsets_as : Kind → List Node → List ℕ → ℕ → Bool
offsets_as k ns bs i = passes (offset_width k) (λ w. rises_to bs (wide w) (node_at ns i) (reach k ns i))

-- ---- Key

abbrev pub key_passes : List ℕ → Node → ℕ → ℕ → Bool
key_passes bs n below r = cond (mark_at bs n r) (natural (key_at bs n r) && nat_lt (unle (key_at bs n r)) below) true

unfoldable pub keyed_below : List ℕ → Node → ℕ → Bool
keyed_below bs n below = every n.rows (key_passes bs n below)

abbrev pub keys_as : Kind → List Node → List ℕ → ℕ → Bool
keys_as k ns bs i = cond (same k Dictionary) (keyed_below bs (node_at ns i) (node_at ns (i + 1)).rows) true

-- ---- each by its refusal

abbrev pub kind_at : List Node → ℕ → Option Kind
kind_at ns i = kind_of (node_at ns i).kind

unfoldable pub holds : Refusal → List Node → List ℕ → ℕ → Bool
holds Alignment ns bs i = true
holds NodeBytes ns bs i = true
holds TooLarge ns bs i = true
holds KindOrSize ns bs i = tabled_by (kind_at ns i) (node_at ns i)
holds Nesting ns bs i = shaped_as (kind_at ns i) ns i && nat_le (depth_of ns i) 64
holds Place ns bs i = passes (kind_at ns i) (λ k. placed_as k (node_at ns i) bs)
holds Offset ns bs i = passes (kind_at ns i) (λ k. offsets_as k ns bs i)
holds Key ns bs i = passes (kind_at ns i) (λ k. keys_as k ns bs i)
holds Ended ns bs i = true
holds Column ns bs i = true
holds DictionaryAboveDictionary ns bs i = true
holds NoId ns bs i = true
holds Replacement ns bs i = true
holds Memory ns bs i = true
holds Rows ns bs i = true
holds Header ns bs i = true
holds Sink ns bs i = true
holds Ids ns bs i = true

-- every rule of node i
unfoldable pub sound : List Node → List ℕ → ℕ → Bool
sound ns bs i =
    holds KindOrSize ns bs i && (holds Nesting ns bs i && (holds Place ns bs i && (holds Offset ns bs i && holds Key ns bs i)))
