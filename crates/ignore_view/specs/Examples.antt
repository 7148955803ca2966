-- A small text in two sentences and two paragraphs, for the examples.
use Rattle.std.specs.Prelude.{ℕ, List, [], ◌∷◌, codes}
use Rattle.ft_base.specs.declared.span.Span.{Span}
use Rattle.ft_base.specs.declared.token.Token.{Token}

abbrev pub span : ℕ → ℕ → Span
span from to = record { from = from; to = to }

abbrev pub token : List ℕ → ℕ → ℕ → Token
token word sentence paragraph = record { word = word; sentence = sentence; paragraph = paragraph }

-- five words in three sentences and two paragraphs: `a b. c. d` and, in a paragraph of the same sentence as `d`, `e`
abbrev pub text : List Token
text = token (codes "a") 1 1 ∷ token (codes "b") 1 1 ∷ token (codes "c") 2 1 ∷ token (codes "d") 3 1 ∷ token (codes "e") 3 2 ∷ []
