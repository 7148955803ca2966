-- The numbers of the terms so far, and those of the others, are all.
use Rattle.std.proofs.Common.{◌≡◌, ◌++◌, drop}
use Rattle.ft_rewriter.specs.Code.{list_code, numbers, term_code}
use Rattle.ft_rewriter.proofs.option_numbers.put_terms.Given as goal

abbrev pub invariant-loop-term : goal.invariant-loop-term
invariant-loop-term l = l.out ++ numbers (list_code term_code (drop l.term-index l.term-items)) ≡ l.initial.out ++ numbers (list_code term_code l.term-items)
