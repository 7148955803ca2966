-- The run of a term has its rows, and their places ascend.
use Rattle.std.proofs.Common.{ap, ◌∙◌}
use Rattle.ft_base.specs.Places.{is_ascending}
use Rattle.index_document.specs.Terms.{TermDocument, places_of, words_of}
use Rattle.index_document.proofs.PlaceLemmas.{places-ascending}
use Rattle.index_document.proofs.index_document.DocIndex.places.Goals as goal

pub run_of-run-requires : goal.run_of-run-requires
run_of-run-requires c = c.self.invariant

pub new-requires : goal.new-requires
new-requires c = c.run_of-run.ensures.run

pub returns-clause-places : goal.returns-clause-places
returns-clause-places c = c.new.ensures ∙ ap (λ t. places_of t c.self.inside.parts.leaves.leaves) c.run_of-run.ensures.term ∙ ap (λ (d : TermDocument). places_of c.args.term d.leaves) c.self.view_is

pub returns-clause-ascending : goal.returns-clause-ascending
returns-clause-ascending c = ap is_ascending c.new.ensures ∙ places-ascending c.run_of-run.result.term 1 (words_of c.self.inside.parts.leaves.leaves)
