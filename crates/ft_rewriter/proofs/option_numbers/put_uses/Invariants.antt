-- The numbers of the choices so far, and those of the others, are all.
use Rattle.std.proofs.Common.{◌≡◌, ◌++◌, drop}
use Rattle.ft_rewriter.specs.Code.{list_code, numbers, use_code}
use Rattle.ft_rewriter.proofs.option_numbers.put_uses.Given as goal

abbrev pub invariant-loop-choice : goal.invariant-loop-choice
invariant-loop-choice l = l.out ++ numbers (list_code use_code (drop l.choice-index l.choice-items)) ≡ l.initial.out ++ numbers (list_code use_code l.choice-items)
