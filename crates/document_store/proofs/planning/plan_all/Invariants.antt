-- What is planned for the documents so far, and what is for the others, are all.
use Rattle.std.proofs.Common.{drop}
use Rattle.ft_base.specs.Lists.{is_empty}
use Rattle.tree_edits.specs.Acts.{stays}
use Rattle.document_store.specs.Targets.{edit_of}
use Rattle.document_store.proofs.PlanLemmas.{Planning}
use Rattle.document_store.proofs.planning.plan_all.Given as goal

abbrev pub invariant-loop-at : goal.invariant-loop-at
invariant-loop-at l =
    Planning (edit_of l.how l.content) l.documents l.targets (stays l.how) (is_empty l.content) l.at l.planned.items (drop l.at l.documents) (drop l.at l.targets)
