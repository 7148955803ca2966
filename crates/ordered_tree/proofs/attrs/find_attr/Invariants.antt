-- The attributes from the next one on have the same value for the name as all of them.
use Rattle.std.proofs.Common.{◌≡◌, drop}
use Rattle.ordered_tree.specs.Numbered.{attribute}
use Rattle.ordered_tree.proofs.attrs.find_attr.Given as goal

abbrev pub invariant-loop-attr : goal.invariant-loop-attr
invariant-loop-attr l = attribute l.name (drop l.attr-index l.attr-items) ≡ attribute l.name l.attr-items
