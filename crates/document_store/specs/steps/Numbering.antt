-- The numbers of the documents of a collection, and the version of its index.
use Rattle.std.specs.Prelude.{◌≡◌, ◌≤◌, ℕ, ◌+◌, List, [], ◌∷◌, map}
use Rattle.index_meaning.specs.Documents.{Numbered}
use Rattle.index_updates.specs.Follows.{under_tree}
use Rattle.document_store.specs.Documents.{token_total}
use Rattle.document_store.specs.Loaded.{LoadedTree, to_document, trees_of}

-- Numbers ascend, from the first one or a greater one on, up to the second.
abbrev pub Ascend : ℕ → List (List ℕ × LoadedTree) → ℕ → Type 0
Ascend from [] to = from ≤ to
Ascend from ((name, loaded) ∷ rest) to = (from ≤ loaded.doc.0) × Ascend (loaded.doc.0 + 1) rest to

-- The version follows the documents under the abbreviations, in their order, under numbers below the next one.
pub record IsNumbered (abbreviations : List (List ℕ)) (entries : List (List ℕ × LoadedTree)) (version : List Numbered) (next : ℕ) : Type 0 where
  pub ascend : Ascend 0 entries next
  pub follows : version ≡ map (under_tree abbreviations) (trees_of entries)

-- The same, and the tokens of the documents are as many.
pub record IsKept (abbreviations : List (List ℕ)) (entries : List (List ℕ × LoadedTree)) (version : List Numbered) (next words : ℕ) : Type 0 where
  pub numbered : IsNumbered abbreviations entries version next
  pub counted : words ≡ token_total (map to_document entries)
