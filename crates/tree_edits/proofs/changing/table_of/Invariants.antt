-- The table has the texts so far.
use Rattle.std.proofs.Common.{◌≡◌, length, map, take}
use Rattle.ordered_tree.specs.Leaves.{text_of}
use Rattle.tree_edits.specs.Changed.{Text, stays}
use Rattle.tree_edits.specs.steps.TextTable.{is_held}
use Rattle.tree_edits.proofs.changing.table_of.Given as goal

abbrev pub invariant-loop-text : goal.invariant-loop-text
invariant-loop-text l = record {
  size : length l.table.items ≡ l.size;
  held : (t : Text) → is_held l.table.items t ≡ stays (map text_of (take l.text-index l.texts)) t;
}
