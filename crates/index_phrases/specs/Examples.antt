-- A small document, and hits and tokens, for the examples.
use Rattle.std.specs.Prelude.{ℕ, Bool, true, List, [], ◌∷◌, codes, bytes_eq}
use Rattle.ft_base.specs.declared.hit.Hit.{Hit}
use Rattle.ft_base.specs.declared.token.Token.{Token}
use Rattle.index_meaning.specs.Documents.{Document, leaf_of}

-- four words in two sentences and two paragraphs: the second sentence starts at the third word, the second paragraph at the
-- fourth
abbrev pub document : Document
document = record {
  leaves = leaf_of 3 (codes "a" ∷ codes "b" ∷ []) ∷ leaf_of 1 (codes "c" ∷ codes "d" ∷ []) ∷ [];
  sentences = 1 ∷ 3 ∷ [];
  paragraphs = 1 ∷ 4 ∷ [];
}

-- the hit of the phrase from one word to another, with their sentences and paragraphs
abbrev pub hit : ℕ → ℕ → ℕ → ℕ → ℕ → ℕ → ℕ → Hit
hit query from to sent_from sent_to para_from para_to = record {
  query = query;
  from = from;
  to = to;
  sent_from = sent_from;
  sent_to = sent_to;
  para_from = para_from;
  para_to = para_to;
  whole = true;
}

abbrev pub token : List ℕ → ℕ → ℕ → Token
token word sentence paragraph = record { word = word; sentence = sentence; paragraph = paragraph }

-- whether the token is this word
abbrev pub is_word : List ℕ → Token → Bool
is_word word token = bytes_eq word token.word
