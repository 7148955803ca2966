-- The price of a test: an upper bound for the moves of cursors that are counted where a selection is tested at the words of a span. It is
-- a sum over each item of each variant of each phrase, whatever operators stand round them.
use Rattle.std.specs.Prelude.{ℕ, ◌+◌, ◌*◌, Bool, List}
use Rattle.std.specs.List.{count_by, sum_by}
use Rattle.ft_base.specs.declared.options.Options.{Options}
use Rattle.ft_base.specs.declared.words.Words.{Words}
use Rattle.ft_base.specs.Selection.{Form, Forms, words, or_of, and_of, mild_not, not_of, filtered, with_options, none, more}
use Rattle.all_matches.specs.Hits.{passes_item}
use Rattle.all_matches.specs.Meaning.{inside, phrases_by, strings_of}
use Rattle.all_matches.specs.Variants.{Item, Lexicon, variants}
use Rattle.index_meaning.specs.Entries.{Entry}

-- whether a word passes an item, in whatever sentence it stands
abbrev pub word_passes : Lexicon → Options → Item → List ℕ → Bool
word_passes lexicon options item word = passes_item lexicon options item record { word = word; sentence = 1; paragraph = 1 }

-- of a test of words: two moves for each word of the text that passes it, and 64 for each term whose word does, to find its first place
abbrev pub test_price : (List ℕ → Bool) → List Entry → List (List ℕ) → ℕ
test_price test terms text = 2 * count_by test text + 64 * count_by (λ term. test term.word) terms

abbrev pub item_price : Lexicon → Options → List Entry → List (List ℕ) → Item → ℕ
item_price lexicon options terms text item = test_price (word_passes lexicon options item) terms text

-- of a phrase: the sum over each item of each variant
abbrev pub phrase_price : Lexicon → Options → List Entry → List (List ℕ) → List Item → ℕ
phrase_price lexicon options terms text phrase = sum_by (sum_by (item_price lexicon options terms text)) (variants lexicon options phrase)

-- of a value: the sum over its phrases, whatever its mode and its range of times
abbrev pub value_price : Lexicon → Options → List Entry → List (List ℕ) → Words → ℕ
value_price lexicon options terms text value =
    sum_by (phrase_price lexicon options terms text) (phrases_by value.mode (strings_of lexicon options value))

-- of a selection under the options that stand round it: the sum over its values
unfoldable mutual
  pub price_under : Lexicon → Options → List Entry → List (List ℕ) → Form → ℕ
  price_under lexicon options terms text (words value) = value_price lexicon (inside value.options options) terms text value
  price_under lexicon options terms text (or_of forms) = prices_under lexicon options terms text forms
  price_under lexicon options terms text (and_of forms) = prices_under lexicon options terms text forms
  price_under lexicon options terms text (mild_not left right) =
      price_under lexicon options terms text left + price_under lexicon options terms text right
  price_under lexicon options terms text (not_of form) = price_under lexicon options terms text form
  price_under lexicon options terms text (filtered form kind) = price_under lexicon options terms text form
  price_under lexicon options terms text (with_options form inner) = price_under lexicon (inside inner options) terms text form

  pub prices_under : Lexicon → Options → List Entry → List (List ℕ) → Forms → ℕ
  prices_under lexicon options terms text none = 0
  prices_under lexicon options terms text (more form rest) = price_under lexicon options terms text form + prices_under lexicon options terms text rest
