-- A phrase is aimed as its lists are.
use Rattle.std.proofs.Common.{ap, ◌∙◌}
use Rattle.ft_operators.specs.Phrases.{PhraseState}
use Rattle.phrase_merges.specs.NearTrees.{aims_at, all_lists, lists_aims}
use Rattle.phrase_merges.proofs.PassageLemmas.{map_map, view_Phrase}
use Rattle.phrase_merges.proofs.near_tree.NearTree.phrase.Goals as goal

pub returns-clause-aims : goal.returns-clause-aims
unfolding aims_at
returns-clause-aims g c = ap aims_at (view_Phrase g.P.PhraseHits.state _) ∙ ap lists_aims (map_map (λ (s : PhraseState). s.aims) g.P.PhraseHits.state c.args.lists.items)

pub returns-clause-lists : goal.returns-clause-lists
unfolding all_lists
returns-clause-lists g c = ap all_lists (view_Phrase g.P.PhraseHits.state _) ∙ map_map (λ (s : PhraseState). s.aims) g.P.PhraseHits.state c.args.lists.items
