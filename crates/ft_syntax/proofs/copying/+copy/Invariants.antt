-- The copies so far stand for what the first parts stand for.
use Rattle.std.proofs.Common.{◌≡◌, take, map}
use Rattle.ft_syntax.specs.View.{form}
use Rattle.ft_syntax.proofs.copying.+copy.Given as goal

abbrev pub invariant-copy_selections-loop-part : goal.invariant-copy_selections-loop-part
invariant-copy_selections-loop-part l = map form l.copies ≡ map form (take l.part-index l.part-items)
