-- An index has of a document what it has of every other one with the same words and breaks.
use Rattle.std.proofs.Common.{◌≡◌, ◌∙◌, sym, ap, ap₂, refl, ℕ, List, [], ◌∷◌, ◌++◌, map, flat_map, length}
use Rattle.index_meaning.specs.Documents.{Numbered, words_of}
use Rattle.index_meaning.specs.Index.{Counted, Index, IndexRow, counted, index, rows_from, sorted_rows}
use Rattle.ordered_tree.specs.Numbered as tree
use Rattle.ordered_tree.specs.Numbered.{plain}
use Rattle.index_updates.specs.Follows.{token_document, tree_document, under_tokens, under_tree}
use Rattle.index_updates.proofs.WordsLemmas.{words-document, words-tree}

module _ (abbreviations : List (List ℕ)) where
  -- the breaks of both documents are those of the tokens
  sentences-same : (root : tree.Numbered) → (tree_document abbreviations root).sentences ≡ (token_document abbreviations (plain root)).sentences
  unfolding tree_document token_document
  sentences-same root = refl

  paragraphs-same : (root : tree.Numbered) → (tree_document abbreviations root).paragraphs ≡ (token_document abbreviations (plain root)).paragraphs
  unfolding tree_document token_document
  paragraphs-same root = refl

  words-same : (root : tree.Numbered) → words_of (tree_document abbreviations root) ≡ words_of (token_document abbreviations (plain root))
  words-same root = words-tree abbreviations root ∙ sym (words-document abbreviations (plain root))

abbrev counted_as : ℕ → List (List ℕ) → List ℕ → List ℕ → Counted
counted_as id words sentences paragraphs = record { id = id; tokens = length words; sentences = sentences; paragraphs = paragraphs }

counted-same : (abbreviations : List (List ℕ)) (d : ℕ × tree.Numbered) → counted (under_tree abbreviations d) ≡ counted (under_tokens abbreviations d)
counted-same abbreviations (id, root) =
    ap (λ ws. counted_as id ws (tree_document abbreviations root).sentences (tree_document abbreviations root).paragraphs) (words-same abbreviations root)
    ∙ ap₂ (λ s p. counted_as id (words_of (token_document abbreviations (plain root))) s p) (sentences-same abbreviations root) (paragraphs-same abbreviations root)

module _ (key : List ℕ → List ℕ) (abbreviations : List (List ℕ)) where
  abbrev rows_in : Numbered → List IndexRow
  rows_in d = rows_from key d.id 1 (words_of d.document)

  abbrev of_trees : List (ℕ × tree.Numbered) → List Numbered
  of_trees = map (under_tree abbreviations)

  abbrev of_tokens : List (ℕ × tree.Numbered) → List Numbered
  of_tokens = map (under_tokens abbreviations)

  rows-same : (trees : List (ℕ × tree.Numbered)) → flat_map rows_in (of_trees trees) ≡ flat_map rows_in (of_tokens trees)
  rows-same [] = refl
  rows-same ((id, root) ∷ rest) = ap₂ (λ a b. a ++ b) (ap (rows_from key id 1) (words-same abbreviations root)) (rows-same rest)

  pub index-same : (trees : List (ℕ × tree.Numbered)) → index key (of_trees trees) ≡ index key (of_tokens trees)
  index-same trees = ap₂ as_index (ap sorted_rows (rows-same trees)) (all-counted trees)
    where
      as_index : List IndexRow → List Counted → Index
      as_index rows documents = record { rows = rows; documents = documents }

      all-counted : (trees : List (ℕ × tree.Numbered)) → map counted (of_trees trees) ≡ map counted (of_tokens trees)
      all-counted [] = refl
      all-counted (d ∷ rest) = ap₂ (λ a b. a ∷ b) (counted-same abbreviations d) (all-counted rest)
