use Rattle.std.proofs.Common.{sym, ◌∙◌}
use Rattle.layout.proofs.Words.{zeros_word, unle_8}
use Rattle.layout.proofs.bit.count_zeros_in_word.Goals as goal

pub returns : goal.returns
returns c =
    let word = c.args.word.now in
    let x = c.from_le_bytes.ensures ∙ sym (unle_8 word c.told-word) in
    c.count_zeros.ensures.value ∙ zeros_word word c.from_le_bytes.result c.told-word c.fits-word x
