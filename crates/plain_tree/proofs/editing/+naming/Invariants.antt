-- Each child named costs a number of the place.
use Rattle.std.proofs.Common.{◌+◌, ◌*◌, length}
use Rattle.plain_tree.proofs.editing.+naming.Given as goal

abbrev pub decreases-names_element : goal.decreases-names_element
decreases-names_element l = 2 * length l.place.now + 1

abbrev pub decreases-names_below : goal.decreases-names_below
decreases-names_below l = 2 * length l.place.now
