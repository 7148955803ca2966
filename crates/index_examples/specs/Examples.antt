-- Small documents by their numbers, for the examples of an index.
use Rattle.std.specs.Prelude.{[], ◌∷◌, codes}
use Rattle.index_meaning.specs.Documents.{Numbered, numbered}
use Rattle.index_meaning.specs.Examples.{leaf}

-- `<a>b a</a>`, under the number 3
abbrev pub two_words : Numbered
two_words = numbered 3 (record { leaves = leaf 0 (codes "b" ∷ codes "a" ∷ []) ∷ []; sentences = 1 ∷ []; paragraphs = 1 ∷ [] })

-- `<a>a A a</a>`, under the number 7
abbrev pub three_words : Numbered
three_words = numbered 7 (record { leaves = leaf 0 (codes "a" ∷ codes "A" ∷ codes "a" ∷ []) ∷ []; sentences = 1 ∷ []; paragraphs = 1 ∷ [] })

-- three words whose sentences start at 1 and 3, and the only paragraph at 2, which no text has
abbrev pub parted : Numbered
parted = numbered 5 (record { leaves = leaf 0 (codes "a" ∷ codes "b" ∷ codes "c" ∷ []) ∷ []; sentences = 1 ∷ 3 ∷ []; paragraphs = 2 ∷ [] })
