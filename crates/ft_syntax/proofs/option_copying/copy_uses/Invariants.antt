-- The copies so far are those of the first items.
use Rattle.std.proofs.Common.{◌≡◌, take}
use Rattle.ft_syntax.proofs.option_copying.copy_uses.Given as goal

abbrev pub invariant-loop-choice : goal.invariant-loop-choice
invariant-loop-choice l = l.copies ≡ take l.choice-index l.choice-items
