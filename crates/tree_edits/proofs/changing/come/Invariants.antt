-- The leaves so far and those of the texts that are left are all.
use Rattle.std.proofs.Common.{◌≡◌, ◌++◌, None, drop, map}
use Rattle.ordered_tree.specs.Leaves.{text_of}
use Rattle.tree_edits.specs.Changed.{put_by}
use Rattle.tree_edits.specs.steps.TextTable.{is_held}
use Rattle.tree_edits.proofs.changing.come.Given as goal

abbrev pub invariant-loop-text : goal.invariant-loop-text
invariant-loop-text l =
    l.leaves ++ put_by (is_held l.others.items) l.last (map text_of (drop l.text-index l.texts)) ≡ put_by (is_held l.others.items) None (map text_of l.texts)
