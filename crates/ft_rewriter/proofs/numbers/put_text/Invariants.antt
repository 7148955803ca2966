-- The numbers of the bytes so far, and those of the others, are all.
use Rattle.std.proofs.Common.{◌≡◌, ◌++◌, drop}
use Rattle.ft_rewriter.specs.Code.{numbers, text_code}
use Rattle.ft_rewriter.proofs.numbers.put_text.Given as goal

abbrev pub invariant-loop-byte : goal.invariant-loop-byte
invariant-loop-byte l = l.out ++ numbers (text_code (drop l.byte-index l.byte-items)) ≡ l.initial.out ++ numbers (text_code l.byte-items)
