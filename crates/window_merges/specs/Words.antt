-- The hits of words that are joined by `ftand`.
use Rattle.std.specs.Prelude.{ℕ, ◌+◌, Bool, true, ◌&&◌, ◌==◌, List, [], ◌∷◌, map}
use Rattle.std.specs.List.{list_all}
use Rattle.ft_base.specs.declared.hit.Hit.{Hit}
use Rattle.ft_base.specs.declared.filter.Filter.{Filter}
use Rattle.ft_base.specs.declared.unit.TextUnit.{TextUnit}
use Rattle.all_matches.specs.Operators.{together_of}
use Rattle.all_matches.specs.Positions.{start_in, end_in}
use Rattle.all_matches.specs.Ways.{Operator, phrase, through_filter}

-- the words, each told by its hits, joined by `ftand` under a filter
abbrev pub filtered_words : Filter → List (List Hit) → Operator
filtered_words kind words = through_filter (together_of (map phrase words)) kind

-- whether each hit is of one word of the text
abbrev pub are_single : List (List Hit) → Bool
are_single words = list_all (λ hits. list_all (λ hit. hit.to == hit.from) hits) words

-- whether each hit lies in the unit of its first word, where units have these numbers
abbrev pub are_told : TextUnit → (ℕ → ℕ) → List (List Hit) → Bool
are_told kind unit words = list_all (λ hits. list_all (λ hit. (start_in kind hit == unit hit.from) && (end_in kind hit == unit hit.from)) hits) words

-- whether the hits of each word have its number among the phrases, from one number on
abbrev pub are_numbered : ℕ → List (List Hit) → Bool
are_numbered number [] = true
are_numbered number (hits ∷ words) = list_all (λ hit. hit.query == number) hits && are_numbered (number + 1) words

-- the places of the hits of each word
abbrev pub first_words : List (List Hit) → List (List ℕ)
first_words words = map (λ hits. map (λ hit. hit.from) hits) words
