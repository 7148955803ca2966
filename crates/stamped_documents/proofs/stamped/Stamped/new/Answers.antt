-- No stamps, of no documents.
use Rattle.std.proofs.Common.{length, sym, subst}
use Rattle.document_store.specs.Indexed.{Indexed}
use Rattle.stamped_documents.specs.Stamps.{AreStamps}
use Rattle.stamped_documents.proofs.StampLemmas.{no-stamps}
use Rattle.stamped_documents.proofs.stamped.Stamped.new.Goals as goal

pub invariant_of-result : goal.invariant_of-result
invariant_of-result c =
    subst (λ (i : Indexed). AreStamps (length i.documents) 0 c.new-2.result.items) (sym c.new.ensures) (subst (AreStamps 0 0) (sym c.new-2.ensures.items) no-stamps)
