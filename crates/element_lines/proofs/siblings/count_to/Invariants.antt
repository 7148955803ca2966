-- The children of the name before the link are counted.
use Rattle.std.proofs.Common.{◌≡◌}
use Rattle.element_lines.specs.steps.Children.{IsCounting}
use Rattle.element_lines.proofs.siblings.count_to.Given as goal

abbrev pub invariant-loop : goal.invariant-loop
invariant-loop l = record {
  counting : IsCounting l.tree.root l.counting;
  parent : l.counting.parent ≡ l.initial.counting.parent;
  name : l.counting.name ≡ l.initial.counting.name;
}
