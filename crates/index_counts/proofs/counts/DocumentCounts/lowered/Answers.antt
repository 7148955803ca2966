-- The fallen terms are those of the document whose count is 0.
use Rattle.std.proofs.Common.{ap, ◌++◌, ◌∙◌}
use Rattle.index_document.specs.Terms.{words_of}
use Rattle.index_counts.specs.Counts.{fallen}
use Rattle.index_counts.proofs.CountLemmas.{fallen-members}
use Rattle.index_counts.proofs.counts.DocumentCounts.lowered.Goals as goal

pub returns-clause-members : goal.returns-clause-members
returns-clause-members c =
    let counts = c.lower_all.new.counts in
    let words = words_of c.args.index.now.leaves in
    fallen-members counts words c.lower_all.new.gone.items (c.in_ok-lower_all.ensures.gone ∙ ap (λ items. items ++ fallen counts words) c.new-fallen.ensures.items)
