-- The leaves of a document: one for each text, in document order, with the text's words.
use Rattle.std.specs.Prelude.{List, ℕ, [], ◌∷◌, ◌++◌, Option, Some, None}
use Rattle.text_words.specs.Words.{words}
use Rattle.ordered_tree.specs.Numbered.{Numbered, element_at, text_at, Children, no_children, child_then}
use Rattle.ft_base.specs.declared.ids.LeafId.{LeafId}
use Rattle.ordered_tree.specs.declared.leaf.LeafWords.{LeafWords}
use Rattle.ft_base.specs.declared.ids.NodeRef.{NodeRef}
use Rattle.ordered_tree.specs.declared.texts.TextAt.{TextAt}

abbrev mutual
  pub texts : Numbered → List (NodeRef × List ℕ)
  texts (element_at r name attrs kids) = texts_of kids
  texts (text_at r bytes) = (r, bytes) ∷ []

  pub texts_of : Children → List (NodeRef × List ℕ)
  texts_of no_children = []
  texts_of (child_then n ns) = texts n ++ texts_of ns

-- a text by itself, wherever it is in memory
abbrev pub text_of : TextAt → NodeRef × List ℕ
text_of t = (t.node, t.text.now)

-- the leaf of a text has the number of the text's reference
abbrev pub leaf_of : NodeRef → LeafId
leaf_of r = record { 0 = r.0 }

-- the leaves of texts that stand after a leaf, each directly after the one before
unfoldable pub leaves_after : Option LeafId → List (NodeRef × List ℕ) → List LeafWords
leaves_after before [] = []
leaves_after before ((r, bytes) ∷ rest) = record { leaf = leaf_of r; after = before; words = words bytes } ∷ leaves_after (Some (leaf_of r)) rest

unfoldable pub last_leaf : Option LeafId → List (NodeRef × List ℕ) → Option LeafId
last_leaf before [] = before
last_leaf before ((r, bytes) ∷ rest) = last_leaf (Some (leaf_of r)) rest

abbrev pub leaves : Numbered → List LeafWords
leaves root = leaves_after None (texts root)
