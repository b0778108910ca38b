-- What a window shows, and the values of its rows. All that is written of a window is defined of this alone.
use Rattle.std.specs.Prelude.{◌≡◌, ℕ, ◌<◌, Bool, true, false, cond, List, [], ◌∷◌, ◌++◌, length, take, replicate, slice_index, slice_index_or}
use Rattle.layout.specs.Lists.{rows, cut, total}
use Rattle.layout.specs.Numbers.{unle, natural}

-- ---- what a window shows

pub record Label : Type 0 where
  pub mark : ℕ
  pub span : ℕ

-- bits, and the spare bits of their last byte; these are shown only where the bits start on a byte
pub record Bits : Type 0 where
  pub bits : List Bool
  pub spare : List Bool

-- validity: no bitmap, or its bits
pub data Marks : Type 0 where
  all : Marks
  some : Bits → Marks

-- null rows included: Null (rows), Boolean (bits), Fixed (size, values), Bytes (width of offsets, byte strings),
-- List (width of offsets, element counts, the child's window), Struct (rows, the children's windows),
-- Dictionary (size of keys, keys, the whole child)
mutual
  pub data Shown : Type 0 where
    nulls : Label → ℕ → Shown
    bools : Label → Marks → Bits → Shown
    fixed : Label → ℕ → Marks → List (List ℕ) → Shown
    bytes : Label → ℕ → Marks → List (List ℕ) → Shown
    lists : Label → ℕ → Marks → List ℕ → Shown → Shown
    struct : Label → Marks → ℕ → Showns → Shown
    dictionary : Label → ℕ → Marks → List (List ℕ) → Shown → Shown

  pub data Showns : Type 0 where
    none : Showns
    more : Shown → Showns → Showns

-- how many rows
abbrev pub count : Shown → ℕ
count (nulls l n) = n
count (bools l m b) = length b.bits
count (fixed l w m vs) = length vs
count (bytes l w m vs) = length vs
count (lists l w m cs s) = length cs
count (struct l m n ss) = n
count (dictionary l w m ks s) = length ks

-- what it shows of the windows that it passes
abbrev pub below : Shown → Showns
below (nulls l n) = none
below (bools l m b) = none
below (fixed l w m vs) = none
below (bytes l w m vs) = none
below (lists l w m cs s) = more s none
below (struct l m n ss) = ss
below (dictionary l w m ks s) = more s none

-- ---- the values of its rows

mutual
  pub data Value : Type 0 where
    null : Value
    bit : Bool → Value
    bytes : List ℕ → Value
    list : Values → Value
    struct : Values → Value
    deriving Discrete as Value-discrete

  pub data Values : Type 0 where
    none : Values
    more : Value → Values → Values
    deriving Discrete as Values-discrete

abbrev pub held : List Value → Values
held [] = none
held (v ∷ vs) = more v (held vs)

abbrev pub marked : Marks → ℕ → Bool
marked all r = true
marked (some b) r = slice_index_or b.bits r false

-- n rows, null where m does not mark one
abbrev pub column : ℕ → (ℕ → Bool) → (ℕ → Value) → List Value
column n m f = rows n (λ r. cond (m r) (f r) null)

-- row r of columns side by side
abbrev pub across : ℕ → List (List Value) → List Value
across r [] = []
across r (vs ∷ vss) = slice_index_or vs r null ∷ across r vss

-- the value that a key names; keys are signed, and one below 0 names none
abbrev pub named : List Value → List ℕ → Value
named vs k = cond (natural k) (slice_index_or vs (unle k) null) null

-- a row is null where its bit is 0, and in every Null row
unfoldable mutual
  pub values : Shown → List Value
  values (nulls l n) = replicate n null
  values (bools l m b) = column (length b.bits) (marked m) (λ r. bit (slice_index_or b.bits r false))
  values (fixed l w m vs) = column (length vs) (marked m) (λ r. bytes (slice_index_or vs r []))
  values (bytes l w m vs) = column (length vs) (marked m) (λ r. bytes (slice_index_or vs r []))
  values (lists l w m cs s) = column (length cs) (marked m) (λ r. list (held (cut (total (take r cs)) (slice_index cs r) (values s))))
  values (struct l m n ss) = column n (marked m) (λ r. struct (held (across r (values_all ss))))
  values (dictionary l w m ks s) = column (length ks) (marked m) (λ r. named (values s) (slice_index_or ks r []))

  pub values_all : Showns → List (List Value)
  values_all none = []
  values_all (more s ss) = values s ∷ values_all ss

-- the dictionaries met, each node before its children; below a dictionary none is met (a batch refuses one there)
unfoldable mutual
  pub met : Shown → List Shown
  met (nulls l n) = []
  met (bools l m b) = []
  met (fixed l w m vs) = []
  met (bytes l w m vs) = []
  met (lists l w m cs s) = met s
  met (struct l m n ss) = met_all ss
  met (dictionary l w m ks s) = s ∷ []

  pub met_all : Showns → List Shown
  met_all none = []
  met_all (more s ss) = met s ++ met_all ss

-- ---- kinds, marks, used sizes and nesting

mutual
  pub data Shape : Type 0 where
    nulls bools : ℕ → Shape
    fixed bytes : ℕ → ℕ → Shape
    lists : ℕ → ℕ → Shape → Shape
    struct : ℕ → Shapes → Shape
    dictionary : ℕ → ℕ → Shape → Shape
    deriving Discrete as Shape-discrete

  pub data Shapes : Type 0 where
    none : Shapes
    more : Shape → Shapes → Shapes
    deriving Discrete as Shapes-discrete

unfoldable mutual
  pub shape : Shown → Shape
  shape (nulls l n) = nulls l.mark
  shape (bools l m b) = bools l.mark
  shape (fixed l w m vs) = fixed l.mark w
  shape (bytes l w m vs) = bytes l.mark w
  shape (lists l w m cs s) = lists l.mark w (shape s)
  shape (struct l m n ss) = struct l.mark (shapes ss)
  shape (dictionary l w m ks s) = dictionary l.mark w (shape s)

  pub shapes : Showns → Shapes
  shapes none = none
  shapes (more s ss) = more (shape s) (shapes ss)

-- ---- equality of what is shown: what lies under a null does not count

pub record Same (s t : Shown) : Type 0 where
  pub shapes : shape s ≡ shape t
  pub counts : count s ≡ count t
  pub values : values s ≡ values t

-- t is longer, and its first rows equal those of s
pub record Front (s t : Shown) : Type 0 where
  pub shapes : shape s ≡ shape t
  pub longer : count s < count t
  pub values : values s ≡ take (count s) (values t)
