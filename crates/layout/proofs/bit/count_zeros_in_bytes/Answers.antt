use Rattle.std.proofs.Common.{arith}
use Rattle.layout.proofs.Words.{words_and_rest}
use Rattle.layout.proofs.bit.count_zeros_in_bytes.Goals as goal

pub count_zeros_in_words-requires : goal.count_zeros_in_words-requires
count_zeros_in_words-requires c =
    let h = words_and_rest c.args.bytes.now c.as_chunks.result.0.now c.as_chunks.result.1.now c.as_chunks.ensures.front c.as_chunks.ensures.back in
    omega arith

pub count_zeros_byte_by_byte-requires : goal.count_zeros_byte_by_byte-requires
count_zeros_byte_by_byte-requires c =
    let h = words_and_rest c.args.bytes.now c.as_chunks.result.0.now c.as_chunks.result.1.now c.as_chunks.ensures.front c.as_chunks.ensures.back in
    omega arith

pub overflow_add-result : goal.overflow_add-result
overflow_add-result c =
    let h = words_and_rest c.args.bytes.now c.as_chunks.result.0.now c.as_chunks.result.1.now c.as_chunks.ensures.front c.as_chunks.ensures.back in
    record { fits = omega (arith, c.count_zeros_byte_by_byte.ensures, c.count_zeros_in_words.ensures) }

pub returns : goal.returns
returns c =
    let h = words_and_rest c.args.bytes.now c.as_chunks.result.0.now c.as_chunks.result.1.now c.as_chunks.ensures.front c.as_chunks.ensures.back in
    record {
      count = omega (arith, c.count_zeros_byte_by_byte.ensures, c.count_zeros_in_words.ensures);
      most = omega (arith, c.count_zeros_byte_by_byte.ensures, c.count_zeros_in_words.ensures);
    }
