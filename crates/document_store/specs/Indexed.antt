-- Documents with the version that is their index under a set of abbreviations.
use Rattle.std.specs.Prelude.{◌≡◌, ℕ, List, [], ◌∷◌, length, IsTrue}
use Rattle.std.specs.List.{AllByRecursion}
use Rattle.ft_base.specs.Places.{is_ascending}
use Rattle.index_meaning.specs.Documents.{Numbered, numbered}
use Rattle.index_meaning.specs.Index.{index}
use Rattle.index_updates.specs.Follows.{Follows, token_document}
use Rattle.ordered_tree.specs.Numbered as tree
use Rattle.path_meaning.specs.Collection.{Named}
use Rattle.text_forms.specs.Forms.{key_of}

-- documents by their names, the keys of the abbreviations, the number in the index and the tree of each document, and what a version means
pub record Indexed : Type 0 where
  pub documents : List Named
  pub abbreviations : List (List ℕ)
  pub trees : List (ℕ × tree.Numbered)
  pub version : List Numbered

-- no documents
abbrev pub nothing_indexed : Indexed
nothing_indexed = record { documents = []; abbreviations = []; trees = []; version = [] }

-- the documents under these numbers, each as its tokens
abbrev pub under : List (List ℕ) → List ℕ → List Named → List Numbered
under abbreviations [] documents = []
under abbreviations (id ∷ ids) [] = []
under abbreviations (id ∷ ids) (d ∷ ds) = numbered id (token_document abbreviations d.root) ∷ under abbreviations ids ds

-- The version is the index of the documents: of their tokens under the abbreviations, and under numbers that ascend.
pub record IsIndexOf (abbreviations : List (List ℕ)) (documents : List Named) (version : List Numbered) : Type 0 where
  pub ids : List ℕ
  pub as_many : length ids ≡ length documents
  pub ascending : IsTrue (is_ascending ids)
  pub index : index key_of version ≡ index key_of (under abbreviations ids documents)

-- The version follows each tree under its number and the abbreviations.
abbrev pub FollowsEach : List (List ℕ) → List Numbered → List (ℕ × tree.Numbered) → Type 0
FollowsEach abbreviations version trees = AllByRecursion (λ t. Follows abbreviations version t.0 t.1) trees
