-- There are as many places as rows in the run.
use Rattle.std.proofs.Common.{length, ap, sym, ◌∙◌}
use Rattle.ft_base.specs.Places.{is_ascending}
use Rattle.index_document.specs.Terms.{words_of}
use Rattle.index_document.proofs.PlaceLemmas.{run-length, places-ascending}
use Rattle.index_document.proofs.term_places.TermPlaces.len.Goals as goal

pub overflow_sub-result : goal.overflow_sub-result
overflow_sub-result c = c.self.invariant.0.order

pub returns-clause-len : goal.returns-clause-len
returns-clause-len c =
    let inside = c.self.inside in run-length inside.leaves.now inside.rows.now inside.run.term inside.run.first inside.run.end c.self.invariant.0 ∙ ap length c.self.view_is

pub returns-clause-ascending : goal.returns-clause-ascending
returns-clause-ascending c = ap is_ascending (sym c.self.view_is) ∙ places-ascending c.self.inside.run.term 1 (words_of c.self.inside.leaves.now.leaves)
