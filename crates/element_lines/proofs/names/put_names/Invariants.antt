-- The lines of the elements so far, then those of the elements that are left, are all; those that were there stay first.
use Rattle.std.proofs.Common.{◌≡◌, ◌++◌, ℕ, List, drop, map}
use Rattle.ordered_tree.specs.Numbered.{plain}
use Rattle.path_nodes.specs.References.{element_of}
use Rattle.element_lines.specs.Lines.{element_line}
use Rattle.element_lines.specs.steps.Known.{IsKnown}
use Rattle.element_lines.proofs.names.put_names.Given as goal

abbrev pub invariant-loop-node : goal.invariant-loop-node
invariant-loop-node l = record {
  known : IsKnown l.document l.tree.root l.known;
  lines : l.lines ++ map (λ r. element_line l.document (plain l.tree.root) (element_of l.tree.root r)) (drop l.node-index l.nodes)
      ≡ l.initial.lines ++ map (λ r. element_line l.document (plain l.tree.root) (element_of l.tree.root r)) l.nodes;
  kept : (more : List (List ℕ)) × (l.lines ≡ l.initial.lines ++ more);
}
