-- The leaves so far and those of the texts that are left are all.
use Rattle.std.proofs.Common.{◌≡◌, ◌++◌, not, drop, filter, map}
use Rattle.ordered_tree.specs.Leaves.{leaf_of, text_of}
use Rattle.tree_edits.specs.steps.TextTable.{is_held}
use Rattle.tree_edits.proofs.changing.gone.Given as goal

abbrev pub invariant-loop-text : goal.invariant-loop-text
invariant-loop-text l =
    l.leaves ++ map (λ t. leaf_of t.0) (filter (λ t. not (is_held l.others.items t)) (map text_of (drop l.text-index l.texts)))
    ≡ map (λ t. leaf_of t.0) (filter (λ t. not (is_held l.others.items t)) (map text_of l.texts))
