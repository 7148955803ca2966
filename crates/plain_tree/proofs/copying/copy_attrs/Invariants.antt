-- The attributes that were copied.
use Rattle.std.proofs.Common.{◌≡◌, take}
use Rattle.plain_tree.proofs.copying.copy_attrs.Given as goal

abbrev pub invariant-loop-attr : goal.invariant-loop-attr
invariant-loop-attr l = l.copies ≡ take l.attr-index l.attr-items
