-- What is sent, by the places of the recording's bytes.
use Rattle.std.specs.Prelude.{◌≡◌, ℕ, suc, ◌+◌, ◌-◌, ◌*◌, ◌/◌, ◌%◌, ◌<◌, ◌≤◌, false, List, [], ◌∷◌, length}
use Rattle.layout.specs.declared.node.Node.{Node}
use Rattle.layout.specs.Lists.{rows, cut, join_all}
use Rattle.layout.specs.Bits.{bit_at, bytes_for}
use Rattle.layout.specs.Rows.{slot_at, offset_at, count_at, string_at}
use Rattle.layout.specs.Rules.{Rising}
use Rattle.layout.specs.Messages.{bit_bytes, offsets}
use Rattle.layout.specs.Windows.{bits_at}

abbrev pub Below : ℕ → List ℕ → Type 0
Below k [] = Unit {0}
Below k (b ∷ bs) = (b < k) × Below k bs

-- c bits from bit a on fill c / 8 bytes, rounded up: unchanged if they start on a byte, else shifted down with spare bits 0
pub record BitsMade (bs : List ℕ) (a c : ℕ) : Type 0 where
  pub size : length (bit_bytes (bits_at bs a c)) ≡ bytes_for c
  pub bit : (r : ℕ) → r < c → bit_at (bit_bytes (bits_at bs a c)) r ≡ bit_at bs (a + r)
  pub clear : 0 < a % 8 → (r : ℕ) → c ≤ r → bit_at (bit_bytes (bits_at bs a c)) r ≡ false
  pub unchanged : a % 8 ≡ 0 → Below 256 (cut (a / 8) (bytes_for c) bs) → a / 8 + bytes_for c ≤ length bs → bit_bytes (bits_at bs a c) ≡ cut (a / 8) (bytes_for c) bs

-- rows a .. a + c - 1 of a node: values and keys are one part of the bytes, offsets are the old ones each less the first, and the byte strings
-- are the data between the first offset and the last
pub record Copied (bs : List ℕ) (w : ℕ) (n : Node) (a c : ℕ) : Type 0 where
  pub slots : join_all (rows c (λ r. slot_at bs w n (a + r))) ≡ cut (n.slots + (n.from + a) * w) (c * w) bs
  pub offsets : (most : ℕ) → Rising bs w n most → a + c ≤ n.rows → offsets 0 (rows c (λ r. count_at bs w n (a + r))) ≡ rows (suc c) (λ i. offset_at bs w n (a + i) - offset_at bs w n a)
  pub strings : (most : ℕ) → Rising bs w n most → a + c ≤ n.rows
      → join_all (rows c (λ r. string_at bs w n (a + r))) ≡ cut (n.«data» + offset_at bs w n a) (offset_at bs w n (a + c) - offset_at bs w n a) bs

pub record Places : Type 0 where
  pub bits : (bs : List ℕ) (a c : ℕ) → BitsMade bs a c
  pub copied : (bs : List ℕ) (w : ℕ) (n : Node) (a c : ℕ) → Copied bs w n a c
