-- What comparing windows of recordings tells.
use Rattle.std.specs.Prelude.{◌≡◌, ℕ, ◌+◌, ◌-◌, ◌*◌, Bool, true, ◌↔◌, List, map, ◌==◌}
use Rattle.layout.specs.declared.bit.BitSlice.{BitSlice}
use Rattle.layout.specs.Bits.{byte_of}
use Rattle.layout.specs.BitSlices.{bits_in}
use Rattle.layout.specs.declared.kind.Kind.TheVariants.{Struct}
use Rattle.layout.specs.declared.number.Width.{Width}
use Rattle.layout.specs.Lists.{cut}
use Rattle.layout.specs.Numbers.{wide}
use Rattle.layout.specs.Rules.{HasOffsets}
use Rattle.layout.specs.Windows.{passed_to}
use Rattle.recording.specs.declared.window.Window.{Window}
use Rattle.recording.specs.Contents.{offset_in}
use Rattle.recording.specs.NodeRefs.{numbers_of}
use Rattle.recording.specs.Places.{Place, children_of}
use Rattle.recording.specs.Windows.{window_in}
use Rattle.dictionaries.specs.Rows.{SameRows, SameCounts, Pairwise}

-- the parts of the rows of two Structs have the same values, child by child
abbrev pub SameParts : Window → Window → Type 0
SameParts one other =
    Pairwise SameRows (map (λ (p : Place). passed_to Struct (window_in one) p.1) (children_of one.node)) (map (λ (p : Place). passed_to Struct (window_in other) p.1) (children_of other.node))

-- how many row r has by a list of offsets of x bytes
abbrev pub count_in : List ℕ → ℕ → ℕ → ℕ
count_in bs x r = offset_in bs x (r + 1) - offset_in bs x r

-- each row has as many bytes or elements as the same row of the other
abbrev pub TellsCounts : Bool → Window → Window → Type 0
TellsCounts b one other =
    (w : Width) → HasOffsets (numbers_of one.node) w → HasOffsets (numbers_of other.node) w → (b ≡ true) ↔ SameCounts (wide w) (window_in one) (window_in other)

-- eight bits of two slices are the same
abbrev pub same_byte : BitSlice → BitSlice → ℕ → Bool
same_byte a b i = byte_of (cut (8 * i) 8 (bits_in a)) == byte_of (cut (8 * i) 8 (bits_in b))
