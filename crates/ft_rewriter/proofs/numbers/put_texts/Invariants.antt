-- The numbers of the texts so far, and those of the others, are all.
use Rattle.std.proofs.Common.{◌≡◌, ◌++◌, drop}
use Rattle.ft_rewriter.specs.Code.{list_code, numbers, text_code}
use Rattle.ft_rewriter.proofs.numbers.put_texts.Given as goal

abbrev pub invariant-loop-text : goal.invariant-loop-text
invariant-loop-text l = l.out ++ numbers (list_code text_code (drop l.text-index l.text-items)) ≡ l.initial.out ++ numbers (list_code text_code l.text-items)
