-- What always holds of a version, and what its parts mean.
use Rattle.std.specs.Prelude.{◌≡◌, ◌||◌, ℕ, true, nat_lt, List, []}
use Rattle.std.specs.List.{All}
use Rattle.ft_base.specs.Places.{is_ascending}
use Rattle.index_document.specs.Terms.{has}
use Rattle.index_meaning.specs.Dictionaries.{ids}
use Rattle.index_meaning.specs.Documents.{Numbered}
use Rattle.index_counts.specs.Counts.{count_of}
use Rattle.index_groups.specs.Groups.{may_be}
use Rattle.index_versions.specs.declared.parts.Parts.{Parts}
use Rattle.index_versions.specs.steps.Held.{Held, held_ids, documents_under, documents_with, numbers}
use Rattle.index_versions.specs.steps.Naming.{are_keyed}

-- the documents
abbrev pub meaning : Parts → List Numbered
meaning parts = documents_under parts.dictionary.given parts.documents

-- each id of a document may stand in the document's group
abbrev pub IsGrouped : List ℕ → Held → Type 0
IsGrouped groups held = (id : ℕ) → has id (held_ids held) ≡ true → may_be groups id held.index.doc ≡ true

-- the documents ascend; the dictionary has the ids that a document uses, and those with which one is to come; it is counted how
-- many documents have an id; an id may stand in the group of each document that has it; entries have the keys of their words
pub record IsSoundFor (coming : List ℕ) (parts : Parts) : Type 0 where
  pub ascending : is_ascending (numbers parts.documents) ≡ true
  pub used : (id : ℕ) → has id (ids parts.dictionary.terms) ≡ (has id coming || nat_lt 0 (documents_with id parts.documents))
  pub counted : (id : ℕ) → count_of parts.counts id ≡ documents_with id parts.documents
  pub grouped : All (IsGrouped parts.groups) parts.documents
  pub keyed : are_keyed parts.dictionary.given ≡ true

-- none is to come
abbrev pub IsSound : Parts → Type 0
IsSound parts = IsSoundFor [] parts
