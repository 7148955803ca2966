-- The words of a tree's leaves are those of its texts.
use Rattle.std.proofs.Common.{◌≡◌, ◌∙◌, sym, ap, ap₂, refl, ℕ, List, [], ◌∷◌, ◌++◌, map, flat_map, length, append_assoc, append-nil}
use Rattle.std.specs.Prelude.{Option, Some, None}
use Rattle.ft_base.specs.declared.ids.LeafId.{LeafId}
use Rattle.ft_base.specs.declared.ids.NodeRef.{NodeRef}
use Rattle.index_meaning.specs.Documents.{token_count, words_of}
use Rattle.ordered_tree.specs.Counts.{word_count}
use Rattle.ordered_tree.specs.Leaves.{leaf_of, leaves_after, texts, texts_of}
use Rattle.ordered_tree.specs.Numbered.{Numbered, element_at, text_at, Children, no_children, child_then, plain, plain_children}
use Rattle.ordered_tree.proofs.ShiftLemmas.{length-words_in}
use Rattle.plain_tree.specs.Document.{Node}
use Rattle.text_words.specs.Words.{words}
use Rattle.tokenizer.specs.Tokens.{tokens, words_in, words_in_all}
use Rattle.tokenizer.proofs.PartsLemmas.{words-tokens}
use Rattle.index_updates.specs.Follows.{token_document, tree_document, word_leaf}

abbrev text_words : List (NodeRef × List ℕ) → List (List ℕ)
text_words [] = []
text_words ((r, bytes) ∷ rest) = words bytes ++ text_words rest

text_words-append : (xs ys : List (NodeRef × List ℕ)) → text_words (xs ++ ys) ≡ text_words xs ++ text_words ys
text_words-append [] ys = refl
text_words-append ((r, bytes) ∷ xs) ys = ap (λ ws. words bytes ++ ws) (text_words-append xs ys) ∙ sym (append_assoc (words bytes) (text_words xs) (text_words ys))

words-leaves : (before : Option LeafId) (ts : List (NodeRef × List ℕ)) → flat_map (λ leaf. leaf.words) (map word_leaf (leaves_after before ts)) ≡ text_words ts
unfolding leaves_after
words-leaves before [] = refl
words-leaves before ((r, bytes) ∷ ts) = ap (λ ws. words bytes ++ ws) (words-leaves (Some (leaf_of r)) ts)

mutual
  words-node : (n : Numbered) → words_in (plain n) ≡ text_words (texts n)
  words-node (element_at r name attrs kids) = words-children kids
  words-node (text_at r bytes) = sym (append-nil (words bytes))

  words-children : (ns : Children) → words_in_all (plain_children ns) ≡ text_words (texts_of ns)
  words-children no_children = refl
  words-children (child_then n ns) = ap₂ (λ a b. a ++ b) (words-node n) (words-children ns) ∙ sym (text_words-append (texts n) (texts_of ns))

-- ---- the words of documents

module _ (abbreviations : List (List ℕ)) where
  pub words-tree : (root : Numbered) → words_of (tree_document abbreviations root) ≡ words_in (plain root)
  unfolding tree_document
  words-tree root = words-leaves None (texts root) ∙ sym (words-node root)

  pub count-tree : (root : Numbered) → token_count (tree_document abbreviations root) ≡ word_count (plain root)
  count-tree root = ap length (words-tree root) ∙ length-words_in (plain root)

  pub words-document : (root : Node) → words_of (token_document abbreviations root) ≡ words_in root
  unfolding token_document
  words-document root = append-nil (map (λ token. token.word) (tokens abbreviations root)) ∙ words-tokens abbreviations root
