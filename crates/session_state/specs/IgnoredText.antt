-- What is left of an element's text where other elements of its document are ignored (XQuery and XPath Full Text 3.0, section 3.7, "Ignore
-- Option").
use Rattle.std.specs.Prelude.{ℕ, zero, suc, ◌+◌, ◌==◌, if◌then◌else◌, List, [], ◌∷◌, map}
use Rattle.ft_base.specs.declared.span.Span.{Span}
use Rattle.ft_base.specs.declared.token.Token.{Token}
use Rattle.ignore_view.specs.Without.{without}
use Rattle.ordered_tree.specs.Counts.{word_count}
use Rattle.path_meaning.specs.Elements.{Element}
use Rattle.plain_tree.specs.Document.{Node, element, text, Nodes, no_nodes, node_then}
use Rattle.tokenizer.specs.Tokens.{tokens}

abbrev mutual
  -- how many words of a node stand before the node at a place in it: those of the children before the one that is or has it, and those
  -- before it in that child
  pub words_before : Node → List ℕ → ℕ
  words_before (element name attributes kids) [] = 0
  words_before (element name attributes kids) (zero ∷ rest) = 0
  words_before (element name attributes kids) (suc k ∷ rest) = child_words_before kids k rest
  words_before (text bytes) place = 0

  -- after the first k nodes of a list
  pub child_words_before : Nodes → ℕ → List ℕ → ℕ
  child_words_before no_nodes k rest = 0
  child_words_before (node_then node nodes) zero rest = words_before node rest
  child_words_before (node_then node nodes) (suc k) rest = word_count node + child_words_before nodes k rest

-- so many places, which count from 1, after so many others
abbrev pub places_after : ℕ → ℕ → Span
places_after before count = record { from = before + 1; to = before + 1 + count }

-- the places, among the words of a node, of those that it has in common with another one, by the places of both in their document: those of
-- the other node where it is this one or below it, all where it is above this one, and else none
abbrev pub common_places : List ℕ → Node → List ℕ → Node → Span
common_places [] node below other = places_after (words_before node below) (word_count other)
common_places (a ∷ rest) node [] other = places_after 0 (word_count node)
common_places (a ∷ rest) node (b ∷ more) other = if a == b then common_places rest node more other else places_after 0 0

-- the places, among the words of an element, at which an ignored element has words
abbrev pub ignored_places : Element → Element → Span
ignored_places e ignored = common_places e.place e.node ignored.place ignored.node

-- the tokens of an element, under the abbreviations, without those of the elements that are ignored
abbrev pub tokens_left : List (List ℕ) → List Element → Element → List Token
tokens_left abbreviations ignored e = without (tokens abbreviations e.node) (map (ignored_places e) ignored)
