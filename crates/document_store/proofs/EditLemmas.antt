-- What an edit makes: the documents after it, unless one would exceed a limit.
use Rattle.std.proofs.Common.{◌≡◌, ◌∙◌, sym, ap, ℕ, List, Some, None}
use Rattle.std.specs.Prelude.{Ok, Err}
use Rattle.path_meaning.specs.Collection.{Named}
use Rattle.document_store.specs.declared.fault.NotEdited.{NotEdited}
use Rattle.document_store.specs.Documents.{Edit, changed_roots, edited_documents, edited_within, limit_of, or_limited}

module _ (edit : Edit) (places : List (List (List ℕ))) (documents : List Named) where
  pub edited-limited : (why : NotEdited) → limit_of (changed_roots edit places documents) ≡ Some why → (documents, Err why) ≡ edited_within edit places documents
  unfolding edited_within
  edited-limited why is = sym (ap (λ l. or_limited documents l (edited_documents edit places documents)) is)

  pub edited-all : (after : List Named) → limit_of (changed_roots edit places documents) ≡ None → after ≡ edited_documents edit places documents
      → (after, Ok tt) ≡ edited_within edit places documents
  unfolding edited_within
  edited-all after is made = ap (λ ds. or_limited documents None ds) made ∙ sym (ap (λ l. or_limited documents l (edited_documents edit places documents)) is)
