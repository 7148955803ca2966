-- The copies so far are those of the first items.
use Rattle.std.proofs.Common.{◌≡◌, take}
use Rattle.ft_syntax.proofs.option_copying.copy_lines.Given as goal

abbrev pub invariant-loop-line : goal.invariant-loop-line
invariant-loop-line l = l.copies ≡ take l.line-index l.line-items
