-- The documents that change get new stamps, and each other keeps its own.
use Rattle.std.proofs.Common.{◌≡◌, ◌∙◌, ◌+◌, ℕ, length, ap, sym, subst, rules}
use Rattle.document_store.specs.Targets.{edit_of, places_of_targets}
use Rattle.stamped_documents.specs.Stamped.{StampedDocuments}
use Rattle.stamped_documents.specs.Stamps.{AreStamps, restamped}
use Rattle.stamped_documents.proofs.DocumentLemmas.{edited-count, restamped-places}
use Rattle.stamped_documents.proofs.StampLemmas.{stamps-changed}
use Rattle.stamped_documents.proofs.stamped.Stamped.edit.Goals as goal

pub invariant_of-self : goal.invariant_of-self
invariant_of-self g c =
    let inside = c.self.inside in
    let documents = inside.collection.documents in
    let targets = c.args.targets.now in
    let next : c.in_ok-renewal.renewal.next ≡ inside.next + length inside.stamps.items = search rules in
    let count : length c.edit.new.self.documents ≡ length documents =
    edited-count (edit_of c.args.how c.args.content.now) (places_of_targets inside.collection.trees targets) documents c.edit.new.self.documents c.in-Ok-Ok.field-0-0 (search rules) in
    subst (λ (n : ℕ). AreStamps n c.in_ok-renewal.renewal.next c.restamp.new.stamps.items) (sym count)
    (subst (AreStamps (length documents) c.in_ok-renewal.renewal.next) (sym c.restamp.ensures)
    (stamps-changed (length documents) inside.next c.in_ok-renewal.renewal.next targets inside.stamps.items next c.self.invariant))

pub returns-in-Ok-Ok-clause-stamps : goal.returns-in-Ok-Ok-clause-stamps
returns-in-Ok-Ok-clause-stamps g c =
    let targets = c.args.targets.now in
    c.restamp.ensures
    ∙ ap (λ (s : StampedDocuments). restamped s.next targets s.stamps) c.self.view_is
    ∙ restamped-places c.args.self.now.next c.args.self.now.indexed.trees targets c.args.self.now.stamps c.requires.there
