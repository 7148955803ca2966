-- The documents after the edit, unless one would exceed a limit.
use Rattle.std.proofs.Common.{◌≡◌, ◌∙◌, subst, sym, ap, ℕ, List, map, None, Some}
use Rattle.std.specs.Prelude.{Ok, Err}
use Rattle.document_store.specs.Documents.{edited_within, limit_of}
use Rattle.document_store.specs.Indexed.{Indexed}
use Rattle.document_store.specs.Loaded.{to_document, trees_of}
use Rattle.document_store.specs.Targets.{edit_of, places_of_targets}
use Rattle.document_store.specs.steps.Numbering.{IsNumbered}
use Rattle.document_store.specs.steps.Planning.{root_after}
use Rattle.document_store.proofs.ApplyLemmas.{roots-planned}
use Rattle.document_store.proofs.EditLemmas.{edited-all, edited-limited}
use Rattle.document_store.proofs.collection.Collection.edit.Goals as goal

pub returns-in-Some-clause-edited : goal.returns-in-Some-clause-edited
returns-in-Some-clause-edited g c =
    let entries = c.self.inside.documents in
    let edit = edit_of c.args.how c.args.content.now in
    let places = places_of_targets (trees_of entries) c.args.targets.now in
    let ps = c.in_ok-planned.planned.items in
    let roots = roots-planned edit 0 entries c.args.targets.now ps c.in_ok-planned.ensures in
    let found : limit_of (map root_after ps) ≡ Some c.in-Some.why =
    ap (λ qs. limit_of (map root_after qs)) (sym c.as_slice.ensures.value) ∙ (sym c.exceeded.ensures ∙ c.in-Some.is) in
    subst (λ (i : Indexed). (i.documents, Err c.in-Some.why) ≡ edited_within edit (places_of_targets i.trees c.args.targets.now) i.documents) c.self.view_is
    (edited-limited edit places (map to_document entries) c.in-Some.why (sym (ap limit_of roots) ∙ found))

pub apply_all-requires-clause-numbered : goal.apply_all-requires-clause-numbered
apply_all-requires-clause-numbered g c =
    let inside = c.self.inside in (
      inside.next,
      subst (λ (keys : List (List ℕ)). IsNumbered keys inside.documents inside.version inside.next) (sym c.as_set.ensures) c.self.invariant.numbered,
    )

pub apply_all-requires-clause-plans : goal.apply_all-requires-clause-plans
apply_all-requires-clause-plans g c = (edit_of c.args.how c.args.content.now, (c.args.targets.now, c.in_ok-planned.ensures))

pub returns-clause-edited : goal.returns-clause-edited
returns-clause-edited g c =
    let entries = c.self.inside.documents in
    let edit = edit_of c.args.how c.args.content.now in
    let places = places_of_targets (trees_of entries) c.args.targets.now in
    let ps = c.in_ok-planned.planned.items in
    let roots = roots-planned edit 0 entries c.args.targets.now ps c.in_ok-planned.ensures in
    let none : limit_of (map root_after ps) ≡ None =
    ap (λ qs. limit_of (map root_after qs)) (sym c.as_slice.ensures.value) ∙ (sym c.exceeded.ensures ∙ c.in_default.is) in
    let moved : map to_document c.replace.new.dest ≡ map to_document c.in_ok-documents.field-0.documents = ap (map to_document) c.replace.ensures.after in
    let after = moved ∙ c.in_ok-documents.ensures.documents edit c.args.targets.now c.in_ok-planned.ensures in
    subst (λ (i : Indexed). (map to_document c.replace.new.dest, Ok tt) ≡ edited_within edit (places_of_targets i.trees c.args.targets.now) i.documents) c.self.view_is
    (edited-all edit places (map to_document entries) (map to_document c.replace.new.dest) (sym (ap limit_of roots) ∙ none) after)
