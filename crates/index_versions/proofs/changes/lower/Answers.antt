-- A document that goes is counted no longer, and its ids that no document has are those that fall.
use Rattle.std.proofs.Common.{ap, ◌∙◌}
use Rattle.index_document.specs.Terms.{are_distinct, words_of}
use Rattle.index_versions.proofs.ChangeLemmas.{fallen_distinct}
use Rattle.index_versions.proofs.changes.lower.Goals as goal

pub returns-in_ok-after-in-Some-clause-distinct : goal.returns-in_ok-after-in-Some-clause-distinct
returns-in_ok-after-in-Some-clause-distinct c =
    ap are_distinct c.in_ok-after-in-Some.ensures.fallen ∙ fallen_distinct c.in_ok-after-in-Some.after (words_of c.index.result.now.leaves)
