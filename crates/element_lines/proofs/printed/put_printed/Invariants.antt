-- The lines of the elements so far, then those of the elements that are left, are all; those that were there stay first.
use Rattle.std.proofs.Common.{◌≡◌, ◌++◌, ℕ, List, drop, map}
use Rattle.path_nodes.specs.References.{element_of}
use Rattle.element_lines.specs.Lines.{printed_line}
use Rattle.element_lines.proofs.printed.put_printed.Given as goal

abbrev pub invariant-loop-node : goal.invariant-loop-node
invariant-loop-node l = record {
  lines : l.lines ++ map (λ r. printed_line (element_of l.tree.root r).node) (drop l.node-index l.nodes)
      ≡ l.initial.lines ++ map (λ r. printed_line (element_of l.tree.root r).node) l.nodes;
  kept : (more : List (List ℕ)) × (l.lines ≡ l.initial.lines ++ more);
}
