-- Each call goes into an operand, or helps at the same tree.
use Rattle.std.proofs.Common.{◌+◌, ◌*◌}
use Rattle.phrase_merges.specs.NearTrees.{passage_of}
use Rattle.phrase_merges.specs.steps.Passing.{weight}
use Rattle.phrase_merges.proofs.near_aiming.+aim.Given as goal

abbrev pub decreases-aim : goal.decreases-aim
decreases-aim g l = 2 * weight (passage_of g.P.PhraseHits.state l.tree.now)

abbrev pub decreases-aim_pair : goal.decreases-aim_pair
decreases-aim_pair g l = 2 * (weight (passage_of g.P.PhraseHits.state l.pair.now.left) + weight (passage_of g.P.PhraseHits.state l.pair.now.right)) + 1

abbrev pub decreases-aim_window : goal.decreases-aim_window
decreases-aim_window g l = 2 * weight (passage_of g.P.PhraseHits.state l.window.now.operand) + 1
