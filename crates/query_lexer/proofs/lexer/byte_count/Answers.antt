-- The bytes of one more letter.
use Rattle.std.proofs.Common.{◌+◌, arith}
use Rattle.query_lexer.proofs.Places.{one_more, bytes_of_first-le}
use Rattle.query_lexer.proofs.lexer.byte_count.Goals as goal

pub overflow_add-count : goal.overflow_add-count
overflow_add-count c =
    omega (
      arith,
      c.loop-letter.invariant,
      c.len_utf8-count.ensures.value,
      one_more c.args.letters.now c.loop-letter.letter-index c.letter-item.result c.loop-letter-test.true c.letter-item.is,
      bytes_of_first-le (c.loop-letter.letter-index + 1) c.args.letters.now,
    )

pub loop-letter-preserved : goal.loop-letter-preserved
loop-letter-preserved c =
    omega (arith, c.loop-letter.invariant, c.len_utf8-count.ensures.value, one_more c.args.letters.now c.loop-letter.letter-index c.letter-item.result c.loop-letter-test.true c.letter-item.is)
