-- The children that were copied.
use Rattle.std.proofs.Common.{◌≡◌, map, take}
use Rattle.plain_tree.specs.View.{node}
use Rattle.plain_tree.proofs.copying.+copying.Given as goal

abbrev pub invariant-copy_kids-loop-kid : goal.invariant-copy_kids-loop-kid
invariant-copy_kids-loop-kid l = map node l.copies ≡ map node (take l.kid-index l.kids)
