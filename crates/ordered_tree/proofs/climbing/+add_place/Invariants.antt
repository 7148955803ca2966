-- Each call is for one level fewer.
use Rattle.ordered_tree.proofs.climbing.+add_place.Given as goal

abbrev pub decreases-add_place : goal.decreases-add_place
decreases-add_place l = l.levels
