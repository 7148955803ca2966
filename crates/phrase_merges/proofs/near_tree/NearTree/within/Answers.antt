-- What was put into the box is what the tree has inside.
use Rattle.std.proofs.Common.{ap, ◌∙◌}
use Rattle.all_matches.specs.Ways.{through_filter}
use Rattle.ft_operators.specs.Standing.{one_aims}
use Rattle.phrase_merges.specs.NearTrees.{aims_at, all_lists, near_aims}
use Rattle.phrase_merges.proofs.PassageLemmas.{window_passage, view_Within}
use Rattle.phrase_merges.proofs.near_tree.NearTree.within.Goals as goal

pub returns-in-Ok-clause-aims : goal.returns-in-Ok-clause-aims
unfolding aims_at
returns-in-Ok-clause-aims g c =
    ap aims_at (view_Within g.P.PhraseHits.state c.in-Ok.window ∙ ap (window_passage g.P.PhraseHits.state) c.in-Ok.ensures.ok)
    ∙ ap (λ filter. one_aims (λ operator. through_filter operator filter) (near_aims g.P.PhraseHits.state c.args.operand)) c.field_of.ensures

pub returns-in-Ok-clause-lists : goal.returns-in-Ok-clause-lists
unfolding all_lists
returns-in-Ok-clause-lists g c = ap all_lists (view_Within g.P.PhraseHits.state c.in-Ok.window ∙ ap (window_passage g.P.PhraseHits.state) c.in-Ok.ensures.ok)
