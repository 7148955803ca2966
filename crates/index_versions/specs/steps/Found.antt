-- What was looked up for a term.
use Rattle.std.specs.Prelude.{◌≡◌, ⊤, ℕ, false, [], List, Option, Some, None}
use Rattle.ft_base.specs.Hits.{HitPlace, hit_place}
use Rattle.index_meaning.specs.Documents.{Numbered, breaks_of, document_at}
use Rattle.index_meaning.specs.Postings.{places}
use Rattle.index_groups.specs.Groups.{in_group}
use Rattle.index_versions.specs.Versions.{stands_in, term_at}
use Rattle.index_versions.specs.declared.term_source.FoundTerm.{FoundTerm}

-- a document of the version as it is held, the places of the term there, and whether it has any
pub record IsFoundTerm (version : List Numbered) (term : ℕ) (found : FoundTerm) : Type 0 where
  pub places : found.places ≡ places (term_at term version).word (document_at found.doc.0 version)
  pub breaks : found.held.now.breaks ≡ breaks_of (document_at found.doc.0 version)
  pub stands : found.stands ≡ stands_in term found.doc.0 version

-- nothing, as long as no document was asked
abbrev pub IsFound : List Numbered → ℕ → Option FoundTerm → Type 0
IsFound version term None = ⊤
IsFound version term (Some found) = IsFoundTerm version term found

-- in a document of another group the term doesn't stand
abbrev pub AreGroupsOf : List Numbered → ℕ → ℕ → Type 0
AreGroupsOf version term groups = (doc : ℕ) → in_group groups doc ≡ false → stands_in term doc version ≡ false

-- what was looked up last is the document of that number
abbrev pub IsKept : ℕ → Option FoundTerm → Type 0
IsKept id None = ⊥
IsKept id (Some found) = found.doc.0 ≡ id

-- where a cursor stands that may not have been aimed: before that in an empty list
abbrev pub place_of : Option HitPlace → HitPlace
place_of None = hit_place [] 0
place_of (Some place) = place
