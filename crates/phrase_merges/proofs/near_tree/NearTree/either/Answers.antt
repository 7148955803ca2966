-- What was put into the box is what the tree has inside.
use Rattle.std.proofs.Common.{ap, ◌∙◌}
use Rattle.phrase_merges.specs.NearTrees.{aims_at, all_lists}
use Rattle.phrase_merges.proofs.PassageLemmas.{either_passage, view_Either}
use Rattle.phrase_merges.proofs.near_tree.NearTree.either.Goals as goal

pub returns-in-Ok-clause-aims : goal.returns-in-Ok-clause-aims
unfolding aims_at
returns-in-Ok-clause-aims g c = ap aims_at (view_Either g.P.PhraseHits.state c.in-Ok.pair ∙ ap (either_passage g.P.PhraseHits.state) c.in-Ok.ensures.ok)

pub returns-in-Ok-clause-lists : goal.returns-in-Ok-clause-lists
unfolding all_lists
returns-in-Ok-clause-lists g c = ap all_lists (view_Either g.P.PhraseHits.state c.in-Ok.pair ∙ ap (either_passage g.P.PhraseHits.state) c.in-Ok.ensures.ok)
