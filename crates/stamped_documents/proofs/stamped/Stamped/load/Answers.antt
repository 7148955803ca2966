-- The new stamp is that of the new document.
use Rattle.std.proofs.Common.{◌≡◌, ◌++◌, ◌∷◌, [], ◌+◌, ℕ, length, sym, subst, rules}
use Rattle.document_store.specs.Documents.{loadable}
use Rattle.stamped_documents.specs.Stamps.{AreStamps}
use Rattle.stamped_documents.proofs.DocumentLemmas.{loaded-count}
use Rattle.stamped_documents.proofs.StampLemmas.{stamps-more}
use Rattle.stamped_documents.proofs.stamped.Stamped.load.Goals as goal

pub invariant_of-self-in-Ok-Ok : goal.invariant_of-self-in-Ok-Ok
invariant_of-self-in-Ok-Ok g c =
    let inside = c.self.inside in
    let documents = inside.collection.documents in
    let count : length c.load.new.self.documents ≡ length documents + 1 =
    loaded-count documents c.load.new.self.documents c.args.name.now (loadable c.args.block.now) c.in-Ok-Ok.field-0-0 (search rules) in
    let next : c.in-Some.next ≡ inside.next + 1 = search rules in
    let items : c.push_reserved.new.self.items ≡ inside.stamps.items ++ inside.next ∷ [] = search rules in
    subst (λ (n : ℕ). AreStamps n c.in-Some.next c.push_reserved.new.self.items) (sym count)
    (subst (λ (n : ℕ). AreStamps (length documents + 1) n c.push_reserved.new.self.items) (sym next)
    (subst (AreStamps (length documents + 1) (inside.next + 1)) (sym items) (stamps-more (length documents) inside.next inside.stamps.items c.self.invariant)))
