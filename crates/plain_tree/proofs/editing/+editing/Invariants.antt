-- Each child named costs a number of the place.
use Rattle.std.proofs.Common.{◌+◌, ◌*◌, length}
use Rattle.plain_tree.proofs.editing.+editing.Given as goal

abbrev pub decreases-edit_tree : goal.decreases-edit_tree
decreases-edit_tree l = 3 * length l.place.now + 2

abbrev pub decreases-edit_row : goal.decreases-edit_row
decreases-edit_row l = 3 * length l.place.now + 1

abbrev pub decreases-edit_below : goal.decreases-edit_below
decreases-edit_below l = 3 * length l.place.now
