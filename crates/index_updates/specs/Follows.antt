-- A document as an index has it under a set of abbreviations: of its tree, and of its tokens alone; and when a version follows a tree.
use Rattle.std.specs.Prelude.{◌≡◌, ℕ, true, List, [], ◌∷◌, map}
use Rattle.ft_base.specs.declared.places.Breaks.{Breaks}
use Rattle.index_meaning.specs.Documents.{Leaf, Document, Numbered, leaf_of, document_of, document_at, has_document, numbered}
use Rattle.ordered_tree.specs.Leaves.{leaves}
use Rattle.ordered_tree.specs.Numbered as tree
use Rattle.ordered_tree.specs.Numbered.{plain}
use Rattle.ordered_tree.specs.declared.leaf.LeafWords.{LeafWords}
use Rattle.plain_tree.specs.Document.{Node}
use Rattle.tokenizer.specs.Tokens.{tokens, sentence_starts, paragraph_starts}

-- the places at which the sentences and the paragraphs of a document start
abbrev pub breaks_in : List (List ℕ) → Node → Breaks
breaks_in abbreviations root = record { sentences = sentence_starts (tokens abbreviations root); paragraphs = paragraph_starts (tokens abbreviations root) }

-- leaves of a tree, each with its words
abbrev pub word_leaf : LeafWords → Leaf
word_leaf l = leaf_of l.leaf.0 l.words

abbrev pub word_leaves : List LeafWords → List Leaf
word_leaves all = map word_leaf all

-- the document of a tree: a leaf for each of its texts
unfoldable pub tree_document : List (List ℕ) → tree.Numbered → Document
tree_document abbreviations root = document_of (word_leaves (leaves root)) (breaks_in abbreviations (plain root))

-- the document of tokens: an index has of it what it has of every other with these words and breaks, so one leaf will do
unfoldable pub token_document : List (List ℕ) → Node → Document
token_document abbreviations root =
    document_of (leaf_of 0 (map (λ token. token.word) (tokens abbreviations root)) ∷ []) (breaks_in abbreviations root)

-- A version follows a tree at a document: it is there, with the leaves of the tree and their words, and with its breaks under the
-- abbreviations.
pub record Follows (abbreviations : List (List ℕ)) (version : List Numbered) (doc : ℕ) (root : tree.Numbered) : Type 0 where
  pub there : has_document doc version ≡ true
  pub document : document_at doc version ≡ tree_document abbreviations root

-- These leaves and breaks are those of a tree under the abbreviations.
pub record AreOf (abbreviations : List (List ℕ)) (root : tree.Numbered) (found : List LeafWords) (breaks : Breaks) : Type 0 where
  pub leaves : found ≡ leaves root
  pub sentences : breaks.sentences ≡ sentence_starts (tokens abbreviations (plain root))
  pub paragraphs : breaks.paragraphs ≡ paragraph_starts (tokens abbreviations (plain root))

-- both under a number
abbrev pub under_tree : List (List ℕ) → ℕ × tree.Numbered → Numbered
under_tree abbreviations (id, root) = numbered id (tree_document abbreviations root)

abbrev pub under_tokens : List (List ℕ) → ℕ × tree.Numbered → Numbered
under_tokens abbreviations (id, root) = numbered id (token_document abbreviations (plain root))
