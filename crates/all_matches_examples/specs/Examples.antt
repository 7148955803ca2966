-- Words for examples beside those of `all_matches`.
use Rattle.std.specs.Prelude.{ℕ, if◌then◌else◌, [], ◌∷◌, map}
use Rattle.ft_base.specs.declared.hit.Hit.{Hit}
use Rattle.all_matches.specs.Examples.{is_on, plain, spaced_words}
use Rattle.all_matches.specs.Variants.{Lexicon, word}

-- words that are divided by spaces under wildcards alone, so that options decide how many phrases a value has
abbrev pub spaced_under_wildcards : Lexicon
spaced_under_wildcards = record plain { items_of = λ options string. if is_on options.wildcards then map word (spaced_words string) else word string ∷ [] }

-- a hit that is in other paragraphs
abbrev pub in_paragraphs : ℕ → ℕ → Hit → Hit
in_paragraphs from to hit = record hit { para_from = from; para_to = to }
