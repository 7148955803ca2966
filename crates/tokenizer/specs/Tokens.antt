-- The tokens of a document under a set of abbreviations: its words in order, each with the number of its sentence and that of its
-- paragraph. Both are 1 at the first token, and rise by one over each gap in which one ends.
use Rattle.std.specs.Prelude.{ℕ, ◌+◌, Bool, ◌==◌, List, [], ◌∷◌, ◌++◌, if◌then◌else◌}
use Rattle.plain_tree.specs.Document.{Node, element, text, Nodes, no_nodes, node_then}
use Rattle.tokenizer.specs.Gaps.{gap, ends_paragraph, ends_sentence}
use Rattle.tokenizer.specs.Parts.{Part, word, gap_characters, gap_tag, parts}
use Rattle.text_words.specs.Words.{words}
use Rattle.ft_base.specs.declared.token.Token.{Token}

-- the next number, where one ended
abbrev pub shifted : Bool → ℕ → ℕ
shifted ended number = if ended then number + 1 else number

-- the tokens of the parts, of which the first has these numbers
unfoldable pub tokens_from : ℕ → ℕ → List Part → List Token
tokens_from sentence paragraph [] = []
tokens_from sentence paragraph (word bytes ∷ rest) =
    record { word = bytes; sentence = sentence; paragraph = paragraph }
    ∷ tokens_from (shifted (ends_sentence (gap rest)) sentence) (shifted (ends_paragraph (gap rest)) paragraph) rest
tokens_from sentence paragraph (gap_characters bytes ∷ rest) = tokens_from sentence paragraph rest
tokens_from sentence paragraph (gap_tag name ∷ rest) = tokens_from sentence paragraph rest

unfoldable pub tokens : List (List ℕ) → Node → List Token
tokens abbreviations document = tokens_from 1 1 (parts abbreviations document)

abbrev mutual
  -- the words of a node's texts, in document order: those of its tokens, whatever the abbreviations are
  pub words_in : Node → List (List ℕ)
  words_in (element name attrs kids) = words_in_all kids
  words_in (text bytes) = words bytes

  pub words_in_all : Nodes → List (List ℕ)
  words_in_all no_nodes = []
  words_in_all (node_then n ns) = words_in n ++ words_in_all ns

-- the places, counted from `place`, of the tokens whose number is not that of the token before
unfoldable pub starts : (Token → ℕ) → ℕ → ℕ → List Token → List ℕ
starts number before place [] = []
starts number before place (token ∷ rest) =
    (if number token == before then [] else place ∷ []) ++ starts number (number token) (place + 1) rest

-- the places, counted from 1, at which a sentence starts
abbrev pub sentence_starts : List Token → List ℕ
sentence_starts = starts (λ token. token.sentence) 0 1

-- the places, counted from 1, at which a paragraph starts
abbrev pub paragraph_starts : List Token → List ℕ
paragraph_starts = starts (λ token. token.paragraph) 0 1
