-- What is asked of what is shown, so that it reads back; every window of an opened recording has it.
use Rattle.std.proofs.Common.{◌≡◌, ℕ, ◌*◌, ◌^◌, ◌<◌, ◌≤◌, List, [], ◌∷◌, length}
use Rattle.layout.specs.Lists.{total, lengths}
use Rattle.layout.specs.Shown.{Marks, all, some, Shown, Showns, nulls, bools, fixed, bytes, lists, struct, dictionary, none, more}

abbrev pub Marked : Marks → ℕ → Type 0
Marked all n = Unit {0}
Marked (some b) n = length b.bits ≡ n

abbrev pub Each : ℕ → List (List ℕ) → Type 0
Each w [] = Unit {0}
Each w (v ∷ vs) = (length v ≡ w) × Each w vs

-- a bit for each row where there is a bitmap, items of the size said, and offsets that w signed bytes hold
abbrev mutual
  pub Good : Shown → Type 0
  Good (nulls l n) = Unit {0}
  Good (bools l m b) = Marked m (length b.bits)
  Good (fixed l w m vs) = Marked m (length vs) × Each w vs
  Good (bytes l w m vs) = Marked m (length vs) × (2 * total (lengths vs) < 256 ^ w)
  Good (lists l w m cs s) = Marked m (length cs) × (2 * total cs < 256 ^ w) × Good s
  Good (struct l m n ss) = Marked m n × GoodAll ss
  Good (dictionary l w m ks s) = Marked m (length ks) × Each w ks × Good s

  pub GoodAll : Showns → Type 0
  GoodAll none = Unit {0}
  GoodAll (more s ss) = Good s × GoodAll ss

-- no buffer is longer
abbrev pub AtMost : ℕ → List (List ℕ) → Type 0
AtMost k [] = Unit {0}
AtMost k (b ∷ bs) = (length b ≤ k) × AtMost k bs
