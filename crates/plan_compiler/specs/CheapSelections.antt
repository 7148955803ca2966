-- Selections of which the moves of cursors are bounded by the price of a test: built by `ftor`, `ftand`, `ftnot` and options from words, with
-- or without `occurs`, and from single words that have to stand in order or in a window of words. Where words are counted in windows,
-- sentences or paragraphs as well, the moves are bounded by twice the price.
use Rattle.std.specs.Prelude.{Bool, true, false, not, ◌&&◌, ◌||◌, List, [], ◌∷◌, is_some}
use Rattle.std.specs.List.{list_all}
use Rattle.ft_base.specs.declared.filter.Filter.{Filter}
use Rattle.ft_base.specs.declared.filter.Filter.TheVariants as F
use Rattle.ft_base.specs.declared.options.Options.{Options}
use Rattle.ft_base.specs.declared.unit.TextUnit.TheVariants as Unit
use Rattle.ft_base.specs.declared.words.Words.{Words}
use Rattle.ft_base.specs.Selection.{no_options, Form, Forms, words, or_of, and_of, mild_not, not_of, filtered, with_options, none, more}
use Rattle.all_matches.specs.Allowed.{without_times}
use Rattle.all_matches.specs.Meaning.{inside, phrases_by, strings_of}
use Rattle.all_matches.specs.Variants.{Item, any_word, word, pattern, Lexicon, variants}
use Rattle.counted_shapes.specs.Accepted.{is_counted}

-- whether any word passes an item, as one that stands in the place of a stop word
abbrev pub is_any : Item → Bool
is_any any_word = true
is_any (word w) = false
is_any (pattern p) = false

-- whether a variant of a phrase is one item, and not any word
abbrev pub is_one_item : List Item → Bool
is_one_item [] = false
is_one_item (item ∷ []) = not (is_any item)
is_one_item (item ∷ other ∷ rest) = false

-- whether there is one phrase, each variant of which is one item
abbrev pub is_one_word : Lexicon → Options → List (List Item) → Bool
is_one_word lexicon options [] = false
is_one_word lexicon options (phrase ∷ []) = list_all is_one_item (variants lexicon options phrase)
is_one_word lexicon options (phrase ∷ other ∷ rest) = false

-- whether a value under the options that hold for it is a single word, without `occurs`
abbrev pub is_single_value : Lexicon → Options → Words → Bool
is_single_value lexicon options value =
    not (is_some value.times) && is_one_word lexicon options (phrases_by value.mode (strings_of lexicon options value))

-- whether a selection under the options that stand round it is one
abbrev pub is_single_word : Lexicon → Options → Form → Bool
is_single_word lexicon options (words value) = is_single_value lexicon (inside value.options options) value
is_single_word lexicon options (or_of forms) = false
is_single_word lexicon options (and_of forms) = false
is_single_word lexicon options (mild_not left right) = false
is_single_word lexicon options (not_of form) = false
is_single_word lexicon options (filtered form kind) = false
is_single_word lexicon options (with_options form inner) = false

abbrev pub are_single_words : Lexicon → Options → Forms → Bool
are_single_words lexicon options none = true
are_single_words lexicon options (more form rest) = is_single_word lexicon options form && are_single_words lexicon options rest

abbrev pub some_single_words : Lexicon → Options → Forms → Bool
some_single_words lexicon options none = false
some_single_words lexicon options (more form rest) = are_single_words lexicon options (more form rest)

-- whether a selection is a single word, or some that are joined by `ftand`
abbrev pub joins_words : Lexicon → Options → Form → Bool
joins_words lexicon options (words value) = is_single_word lexicon options (words value)
joins_words lexicon options (or_of forms) = false
joins_words lexicon options (and_of forms) = some_single_words lexicon options forms
joins_words lexicon options (mild_not left right) = false
joins_words lexicon options (not_of form) = false
joins_words lexicon options (filtered form kind) = false
joins_words lexicon options (with_options form inner) = false

-- `ordered`, or a window of words
abbrev pub is_cheap_filter : Filter → Bool
is_cheap_filter F.Ordered = true
is_cheap_filter (F.Window size Unit.Words) = true
is_cheap_filter (F.Window size Unit.Sentences) = false
is_cheap_filter (F.Window size Unit.Paragraphs) = false
is_cheap_filter (F.Distance range unit) = false
is_cheap_filter F.SameSentence = false
is_cheap_filter F.SameParagraph = false
is_cheap_filter F.DifferentSentence = false
is_cheap_filter F.DifferentParagraph = false
is_cheap_filter F.AtStart = false
is_cheap_filter F.AtEnd = false
is_cheap_filter F.EntireContent = false

-- whether a filter stands round a counted shape in which `occurs` stands, so that words are counted there
abbrev pub counts_words : Form → Filter → Bool
counts_words form kind = is_counted form kind && not (without_times form)

-- whether a selection is cheap under the options that stand round it, and whether it is if words may be counted in it as well
unfoldable mutual
  pub is_cheap_under : Bool → Lexicon → Options → Form → Bool
  is_cheap_under counts lexicon options (words value) = true
  is_cheap_under counts lexicon options (or_of forms) = are_cheap_under counts lexicon options forms
  is_cheap_under counts lexicon options (and_of forms) = are_cheap_under counts lexicon options forms
  is_cheap_under counts lexicon options (mild_not left right) = false
  is_cheap_under counts lexicon options (not_of form) = is_cheap_under counts lexicon options form
  is_cheap_under counts lexicon options (filtered form kind) =
      (is_cheap_filter kind && joins_words lexicon options form) || (counts && counts_words form kind)
  is_cheap_under counts lexicon options (with_options form inner) = is_cheap_under counts lexicon (inside inner options) form

  pub are_cheap_under : Bool → Lexicon → Options → Forms → Bool
  are_cheap_under counts lexicon options none = true
  are_cheap_under counts lexicon options (more form rest) =
      is_cheap_under counts lexicon options form && are_cheap_under counts lexicon options rest

-- whether a selection is cheap
abbrev pub is_cheap : Lexicon → Form → Bool
is_cheap lexicon form = is_cheap_under false lexicon no_options form

-- whether it is, but for words that are counted in windows, sentences or paragraphs
abbrev pub is_cheap_or_counted : Lexicon → Form → Bool
is_cheap_or_counted lexicon form = is_cheap_under true lexicon no_options form
