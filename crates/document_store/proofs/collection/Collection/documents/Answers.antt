-- The version is the index of the documents, and follows each.
use Rattle.std.proofs.Common.{ap, subst}
use Rattle.document_store.specs.Indexed.{FollowsEach, Indexed, IsIndexOf}
use Rattle.document_store.proofs.NumberingLemmas.{follows-each, is-index}
use Rattle.document_store.proofs.collection.Collection.documents.Goals as goal

pub returns-clause-documents : goal.returns-clause-documents
returns-clause-documents c = ap (λ (i : Indexed). i.documents) c.self.view_is

pub returns-clause-trees : goal.returns-clause-trees
returns-clause-trees c = ap (λ (i : Indexed). i.trees) c.self.view_is

pub returns-clause-indexed : goal.returns-clause-indexed
returns-clause-indexed c =
    let inside = c.self.inside in
    subst (λ (i : Indexed). IsIndexOf i.abbreviations i.documents i.version) c.self.view_is (is-index inside.abbreviations c.tokens_law.ensures inside.documents inside.version inside.next c.self.invariant.numbered)

pub returns-clause-followed : goal.returns-clause-followed
returns-clause-followed c =
    let inside = c.self.inside in
    subst (λ (i : Indexed). FollowsEach i.abbreviations i.version i.trees) c.self.view_is
    (follows-each inside.abbreviations inside.documents inside.version inside.next c.self.invariant.numbered)
