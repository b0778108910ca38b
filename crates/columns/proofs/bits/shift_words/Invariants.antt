use Rattle.std.proofs.Common.{◌≡◌, ◌*◌, length, take}
use Rattle.layout.specs.Lists.{rows}
use Rattle.layout.specs.Numbers.{le_all}
use Rattle.columns.proofs.ShiftedWords.{shifted_word}
use Rattle.columns.proofs.bits.shift_words.Given as goal

-- the words so far are written
abbrev pub invariant-loop-i : goal.invariant-loop-i
invariant-loop-i l =
    record {
      long : length l.out ≡ length l.fn.out;
      done : take (l.i * 8) l.out ≡ le_all 8 (rows l.i (shifted_word l.fn.bytes l.shift));
    }
