-- The version follows the tree under the abbreviations of before, and the one that was made of it under the others.
use Rattle.index_tests.proofs.updates.turns.Goals as goal

pub rebreak-requires : goal.rebreak-requires
rebreak-requires c = (c.args.none.now, c.requires)

pub rebreak-again-requires : goal.rebreak-again-requires
rebreak-again-requires c = (c.args.titles.now, c.in_ok-spared.ensures.follows)
