-- The stamp that goes is that of the document.
use Rattle.std.proofs.Common.{◌≡◌, ◌∙◌, length, ap, sym, subst, rules, true, arith}
use Rattle.std.specs.List.{remove}
use Rattle.document_store.specs.Documents.{has_name}
use Rattle.stamped_documents.specs.Stamped.{StampedDocuments}
use Rattle.stamped_documents.specs.Stamps.{AreStamps, without_stamp}
use Rattle.stamped_documents.proofs.DocumentLemmas.{dropped-count, dropped-there, place-less, without-place}
use Rattle.stamped_documents.proofs.StampLemmas.{stamps-fewer}
use Rattle.stamped_documents.proofs.stamped.Stamped.remove.Goals as goal

pub remove-requires-in-Ok-Ok : goal.remove-requires-in-Ok-Ok
remove-requires-in-Ok-Ok g c =
    let documents = c.self.inside.collection.documents in
    let name = c.args.name.now in
    let there : has_name name documents ≡ true = dropped-there documents c.remove.new.self.documents name c.in-Ok-Ok.field-0-0 (search rules) in
    omega (arith, place-less name documents there, c.place_of-place.ensures, c.self.invariant.as_many)

pub invariant_of-self : goal.invariant_of-self
invariant_of-self g c =
    let inside = c.self.inside in
    let documents = inside.collection.documents in
    let name = c.args.name.now in
    let count : length (without_stamp name documents inside.stamps.items) ≡ length c.remove.new.self.documents =
    dropped-count documents c.remove.new.self.documents name inside.stamps.items c.in-Ok-Ok.field-0-0 (search rules) c.self.invariant.as_many in
    let items : c.remove-in-Ok-Ok.new.self.items ≡ without_stamp name documents inside.stamps.items =
    c.remove-in-Ok-Ok.ensures.items ∙ (ap (remove inside.stamps.items) c.place_of-place.ensures ∙ without-place name documents inside.stamps.items c.self.invariant.as_many) in
    subst (AreStamps (length c.remove.new.self.documents) inside.next) (sym items)
    (stamps-fewer name documents (length c.remove.new.self.documents) inside.next inside.stamps.items c.self.invariant count)

pub returns-in-Ok-Ok-clause-stamps : goal.returns-in-Ok-Ok-clause-stamps
returns-in-Ok-Ok-clause-stamps g c =
    let inside = c.self.inside in
    let documents = inside.collection.documents in
    let name = c.args.name.now in
    c.remove-in-Ok-Ok.ensures.items
    ∙ (ap (remove inside.stamps.items) c.place_of-place.ensures ∙ without-place name documents inside.stamps.items c.self.invariant.as_many)
    ∙ ap (λ (s : StampedDocuments). without_stamp name s.indexed.documents s.stamps) c.self.view_is
