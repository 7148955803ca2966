-- The AllMatches of a selection (XQuery and XPath Full Text 3.0, sections 4.2 and 4.3), and whether a text satisfies it.
use Rattle.std.specs.Prelude.{ℕ, ◌+◌, Bool, true, false, if◌then◌else◌, List, [], ◌∷◌, map, flat_map, length}
use Rattle.std.specs.List.{list_all}
use Rattle.std.specs.Option.{option_or}
use Rattle.ft_base.specs.Lists.{is_empty}
use Rattle.ft_base.specs.declared.token.Token.{Token}
use Rattle.ft_base.specs.declared.hit.Match.{Match}
use Rattle.ft_base.specs.declared.options.Options.{Options}
use Rattle.ft_base.specs.declared.words.Words.{Words}
use Rattle.ft_base.specs.declared.words.Mode.{Mode}
use Rattle.ft_base.specs.declared.words.Mode.TheVariants.{Any, AnyWord, All, AllWords, Phrase}
use Rattle.ft_base.specs.Selection.{no_options, Form, Forms, words, or_of, and_of, mild_not, not_of, filtered, with_options, none, more}
use Rattle.all_matches.specs.Variants.{Item, Lexicon}
use Rattle.all_matches.specs.Hits.{phrase_matches}
use Rattle.all_matches.specs.Spans.{whole_text}
use Rattle.all_matches.specs.Boolean.{ft_or_of, ft_and_of, ft_not, satisfied}
use Rattle.all_matches.specs.MildNot.{ft_mild_not}
use Rattle.all_matches.specs.Filters.{ft_filtered}
use Rattle.all_matches.specs.Times.{occurring}

-- the options that hold inside: of each group the one that stands further in
abbrev pub inside : Options → Options → Options
inside inner outer = record {
  case = option_or inner.case outer.case;
  diacritics_sensitive = option_or inner.diacritics_sensitive outer.diacritics_sensitive;
  stemming = option_or inner.stemming outer.stemming;
  thesaurus = option_or inner.thesaurus outer.thesaurus;
  stop_words = option_or inner.stop_words outer.stop_words;
  language = option_or inner.language outer.language;
  wildcards = option_or inner.wildcards outer.wildcards;
}

-- each word and pattern by itself
abbrev pub singly : List Item → List (List Item)
singly items = map (λ item. item ∷ []) items

-- the phrases of a value (section 3.3.1: FTAnyallOption), of the words and patterns of each of its strings
abbrev pub phrases_by : Mode → List (List Item) → List (List Item)
phrases_by Any strings = strings
phrases_by AnyWord strings = singly (flat_map (λ string. string) strings)
phrases_by All strings = strings
phrases_by AllWords strings = singly (flat_map (λ string. string) strings)
phrases_by Phrase strings = flat_map (λ string. string) strings ∷ []

abbrev pub strings_of : Lexicon → Options → Words → List (List Item)
strings_of lexicon options value = map (lexicon.items_of options) value.values

-- the AllMatches of phrases that are numbered from `first` on
abbrev pub each_phrase : Lexicon → Options → ℕ → List (List Item) → List Token → List (List Match)
each_phrase lexicon options first [] tokens = []
each_phrase lexicon options first (phrase ∷ rest) tokens =
    phrase_matches lexicon options first phrase tokens ∷ each_phrase lexicon options (first + 1) rest tokens

-- the AllMatches of a value, from those of its phrases
abbrev pub joined_by : Mode → List (List Match) → List Match
joined_by Any operands = ft_or_of operands
joined_by AnyWord operands = ft_or_of operands
joined_by All operands = ft_and_of operands
joined_by AllWords operands = ft_and_of operands
joined_by Phrase operands = ft_or_of operands

-- the AllMatches of words. A value without words and patterns has none
abbrev pub value_matches : Lexicon → Options → ℕ → Words → List Token → List Match
value_matches lexicon options first value tokens =
    if list_all is_empty (strings_of lexicon options value) then []
    else joined_by value.mode (each_phrase lexicon options first (phrases_by value.mode (strings_of lexicon options value)) tokens)

-- the number of the phrases of a selection, under the options that stand round it
unfoldable mutual
  pub phrase_count : Lexicon → Options → Form → ℕ
  phrase_count lexicon options (words value) = length (phrases_by value.mode (strings_of lexicon (inside value.options options) value))
  phrase_count lexicon options (or_of forms) = phrase_counts lexicon options forms
  phrase_count lexicon options (and_of forms) = phrase_counts lexicon options forms
  phrase_count lexicon options (mild_not left right) = phrase_count lexicon options left + phrase_count lexicon options right
  phrase_count lexicon options (not_of form) = phrase_count lexicon options form
  phrase_count lexicon options (filtered form kind) = phrase_count lexicon options form
  phrase_count lexicon options (with_options form inner) = phrase_count lexicon (inside inner options) form

  pub phrase_counts : Lexicon → Options → Forms → ℕ
  phrase_counts lexicon options none = 0
  phrase_counts lexicon options (more form rest) = phrase_count lexicon options form + phrase_counts lexicon options rest

-- the AllMatches of a selection under the options that stand round it, its phrases being numbered from `first` on
unfoldable mutual
  pub all_matches : Lexicon → Options → ℕ → List Token → Form → List Match
  all_matches lexicon options first tokens (words value) =
      occurring value.times (value_matches lexicon (inside value.options options) first value tokens)
  all_matches lexicon options first tokens (or_of forms) = ft_or_of (each_form lexicon options first tokens forms)
  all_matches lexicon options first tokens (and_of forms) = ft_and_of (each_form lexicon options first tokens forms)
  all_matches lexicon options first tokens (mild_not left right) =
      ft_mild_not (all_matches lexicon options first tokens left) (all_matches lexicon options (first + phrase_count lexicon options left) tokens right)
  all_matches lexicon options first tokens (not_of form) = ft_not (all_matches lexicon options first tokens form)
  all_matches lexicon options first tokens (filtered form kind) = ft_filtered kind (whole_text tokens) (all_matches lexicon options first tokens form)
  all_matches lexicon options first tokens (with_options form inner) = all_matches lexicon (inside inner options) first tokens form

  pub each_form : Lexicon → Options → ℕ → List Token → Forms → List (List Match)
  each_form lexicon options first tokens none = []
  each_form lexicon options first tokens (more form rest) =
      all_matches lexicon options first tokens form ∷ each_form lexicon options (first + phrase_count lexicon options form) tokens rest

-- whether a text satisfies a selection under the options that stand round it: some Match of it has no exclude
unfoldable pub sat_under : Lexicon → Options → Form → List Token → Bool
sat_under lexicon options form tokens = satisfied (all_matches lexicon options 1 tokens form)

-- whether a text satisfies a selection
abbrev pub sat : Lexicon → Form → List Token → Bool
sat lexicon form tokens = sat_under lexicon no_options form tokens
