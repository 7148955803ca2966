-- The copies so far are those of the first items.
use Rattle.std.proofs.Common.{◌≡◌, take}
use Rattle.ft_syntax.proofs.option_copying.copy_terms.Given as goal

abbrev pub invariant-loop-term : goal.invariant-loop-term
invariant-loop-term l = l.copies ≡ take l.term-index l.term-items
