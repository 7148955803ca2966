-- As many stamps as before, all of them new.
use Rattle.std.proofs.Common.{◌∙◌, ◌+◌, length, map, ap, sym, subst, [], ◌∷◌}
use Rattle.stamped_documents.specs.Stamped.{StampedDocuments}
use Rattle.stamped_documents.specs.Stamps.{AreStamps}
use Rattle.stamped_documents.proofs.StampLemmas.{stamps-changed}
use Rattle.stamped_documents.proofs.stamped.Stamped.renew.Goals as goal

pub invariant_of-self : goal.invariant_of-self
invariant_of-self c =
    let inside = c.self.inside in
    let documents = inside.collection.documents in
    subst (AreStamps (length documents) c.args.renewal.next) (sym c.renew.ensures)
    (stamps-changed (length documents) inside.next c.args.renewal.next (map (λ s. s ∷ []) inside.stamps.items) inside.stamps.items
    (c.requires ∙ sym (ap (λ (s : StampedDocuments). s.next + length s.stamps) c.self.view_is)) c.self.invariant)
