-- The keys of the version's terms are the different keys of the tokens of its documents.
use Rattle.std.proofs.Common.{◌≡◌, ◌∙◌, ap, ap₂, refl, ℕ, List, [], ◌∷◌, ◌++◌, map, flat_map}
use Rattle.std.specs.Set.{distinct_count}
use Rattle.std.specs.Str.{bytes_eq}
use Rattle.index_meaning.specs.Documents.{Numbered, words_of}
use Rattle.index_meaning.specs.Entries.{key_count}
use Rattle.index_meaning.specs.Index.{terms}
use Rattle.index_updates.specs.Follows.{tree_document, under_tree}
use Rattle.index_versions.specs.Versions.{terms_of}
use Rattle.ordered_tree.specs.Numbered as tree
use Rattle.text_forms.specs.Forms.{key_of}
use Rattle.tokenizer.specs.Tokens.{words_in}
use Rattle.document_store.specs.Documents.{key_total}
use Rattle.document_store.specs.Loaded.{LoadedTree, to_document, trees_of}
use Rattle.document_store.specs.steps.Numbering.{IsKept}

abbrev Entries : Type 0
Entries = List (List ℕ × LoadedTree)

-- by the laws of the keys of terms, and of the words of a tree's leaves
module _ (abbreviations : List (List ℕ))
    (counted : (key : List ℕ → List ℕ) (documents : List Numbered)
    → key_count (terms key documents) ≡ distinct_count bytes_eq (map key (flat_map (λ d. words_of d.document) documents)))
    (words-tree : (abbreviations : List (List ℕ)) (root : tree.Numbered) → words_of (tree_document abbreviations root) ≡ words_in (tree.plain root)) where
  words-of-documents : (es : Entries) → flat_map (λ d. words_of d.document) (map (under_tree abbreviations) (trees_of es)) ≡ flat_map (λ d. words_in d.root) (map to_document es)
  words-of-documents [] = refl
  words-of-documents (e ∷ es) = ap₂ (λ a b. a ++ b) (words-tree abbreviations e.1.tree.root) (words-of-documents es)

  pub keys-total : (es : Entries) (version : List Numbered) (next words : ℕ) → IsKept abbreviations es version next words → key_count (terms_of version) ≡ key_total (map to_document es)
  keys-total es version next words held =
      ap (λ v. key_count (terms_of v)) held.numbered.follows
      ∙ (counted key_of (map (under_tree abbreviations) (trees_of es)) ∙ ap (λ ws. distinct_count bytes_eq (map key_of ws)) (words-of-documents es))
