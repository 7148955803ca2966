-- Those of the first items that pass were kept.
use Rattle.std.proofs.Common.{◌≡◌, All, filter, map, take}
use Rattle.path_meaning.specs.Meaning.{is_named}
use Rattle.path_nodes.specs.References.{IsElement, element_of}
use Rattle.path_nodes.proofs.names.named.Given as goal

abbrev pub invariant-loop-item : goal.invariant-loop-item
invariant-loop-item l = record {
  done : map (element_of l.tree.root) l.kept ≡ filter (λ e. is_named l.test e.node) (map (element_of l.tree.root) (take l.item-index l.item-items));
  there : All (IsElement l.tree.root) l.kept;
}
