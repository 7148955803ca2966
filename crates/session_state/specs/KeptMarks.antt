-- Marks as the code holds them: names, each with the collection that is kept under it.
use Rattle.std.specs.Prelude.{ℕ, List, map}
use Rattle.std.specs.Coded.{Coded, coded×, coded_list, coded_ℕ}
use Rattle.document_store.specs.Indexed.{Indexed, IsIndexOf}
use Rattle.document_store.specs.StoredIndexed.{indexed_code}
use Rattle.index_meaning.specs.Documents.{Numbered}
use Rattle.session_state.specs.State.{Mark}

abbrev pub to_mark : List ℕ × Indexed → Mark
to_mark e = record { name = e.0; documents = e.1.documents; abbreviations = e.1.abbreviations }

abbrev pub marks_of : List (List ℕ × Indexed) → List Mark
marks_of entries = map to_mark entries

abbrev pub versions_of : List (List ℕ × Indexed) → List (List Numbered)
versions_of entries = map (λ e. e.1.version) entries

-- What is kept under a name has a version that is the index of its documents under its abbreviations.
abbrev pub IsOwnIndex : List ℕ × Indexed → Type 0
IsOwnIndex e = IsIndexOf e.1.abbreviations e.1.documents e.1.version

abbrev pub marks_code : Coded (List (List ℕ × Indexed))
marks_code = coded_list (coded× (coded_list coded_ℕ) indexed_code)
