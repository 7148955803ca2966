-- The words and patterns of a query string.
use Rattle.std.specs.Prelude.{ℕ, Bool, if◌then◌else◌, List, [], ◌∷◌, map, flat_map}
use Rattle.text_words.specs.Words.{words}
use Rattle.all_matches.specs.Variants.{Item, word, pattern}
use Rattle.match_options.specs.Patterns.{parts, is_pattern}
use Rattle.match_options.specs.declared.item.QueryItem.{QueryItem}
use Rattle.match_options.specs.declared.item.QueryItem.TheVariants.{Word, Pattern}

-- an item as it stands in the meaning of a phrase
abbrev pub item : QueryItem → Item
item (Word w) = word w
item (Pattern p) = pattern p

-- of a text read into words
abbrev pub word_items : List ℕ → List Item
word_items text = map word (words text)

-- of a part between white space
abbrev pub part_items : List ℕ → List Item
part_items part = if is_pattern part then pattern part ∷ [] else word_items part

-- With wildcards a string is split at white space: `a-b c.` has the words `a` and `b` and the pattern `c.`
abbrev pub items_of : Bool → List ℕ → List Item
items_of wildcards text = if wildcards then flat_map part_items (parts text) else word_items text
