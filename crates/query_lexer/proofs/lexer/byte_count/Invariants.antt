-- The bytes of the first letters.
use Rattle.std.proofs.Common.{◌≡◌}
use Rattle.query_lexer.specs.Symbols.{bytes_of_first}
use Rattle.query_lexer.proofs.lexer.byte_count.Given as goal

abbrev pub invariant-loop-letter : goal.invariant-loop-letter
invariant-loop-letter l = l.count ≡ bytes_of_first l.letter-index l.letters
