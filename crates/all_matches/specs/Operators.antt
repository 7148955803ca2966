-- The operator of a selection without `occurs`: its words are the hits of their phrases, joined as the mode says.
use Rattle.std.specs.Prelude.{ℕ, ◌+◌, if◌then◌else◌, List, [], ◌∷◌, fold}
use Rattle.std.specs.List.{list_all}
use Rattle.ft_base.specs.Lists.{is_empty}
use Rattle.ft_base.specs.declared.token.Token.{Token}
use Rattle.ft_base.specs.declared.options.Options.{Options}
use Rattle.ft_base.specs.declared.words.Words.{Words}
use Rattle.ft_base.specs.declared.words.Mode.{Mode}
use Rattle.ft_base.specs.declared.words.Mode.TheVariants.{Any, AnyWord, All, AllWords, Phrase}
use Rattle.ft_base.specs.Selection.{Form, Forms, words, or_of, and_of, mild_not, not_of, filtered, with_options, none, more}
use Rattle.all_matches.specs.Variants.{Item, Lexicon}
use Rattle.all_matches.specs.Hits.{hits}
use Rattle.all_matches.specs.Meaning.{inside, phrases_by, strings_of, phrase_count}
use Rattle.all_matches.specs.Ways.{Operator, phrase, either, together, apart, negated, through_filter}

-- one of some operands
abbrev pub either_of : List Operator → Operator
either_of [] = phrase []
either_of (first ∷ rest) = fold either first rest

-- all of some operands. Where there is none, one Match needs nothing: it is what Not makes of no Match
abbrev pub together_of : List Operator → Operator
together_of [] = negated (phrase [])
together_of (first ∷ rest) = fold together first rest

-- the operator of a value, from those of its phrases
abbrev pub operator_by : Mode → List Operator → Operator
operator_by Any operands = either_of operands
operator_by AnyWord operands = either_of operands
operator_by All operands = together_of operands
operator_by AllWords operands = together_of operands
operator_by Phrase operands = either_of operands

-- the operators of phrases that are numbered from `first` on
abbrev pub phrase_operators : Lexicon → Options → List Token → ℕ → List (List Item) → List Operator
phrase_operators lexicon options tokens first [] = []
phrase_operators lexicon options tokens first (items ∷ rest) =
    phrase (hits lexicon options first items tokens) ∷ phrase_operators lexicon options tokens (first + 1) rest

-- the operator of words. A value without words and patterns has no hit
abbrev pub value_operator : Lexicon → Options → ℕ → Words → List Token → Operator
value_operator lexicon options first value tokens =
    if list_all is_empty (strings_of lexicon options value) then phrase []
    else operator_by value.mode (phrase_operators lexicon options tokens first (phrases_by value.mode (strings_of lexicon options value)))

-- the operator of a selection under the options that stand round it, its phrases being numbered from `first` on
unfoldable mutual
  pub operator_of : Lexicon → Options → ℕ → List Token → Form → Operator
  operator_of lexicon options first tokens (words value) = value_operator lexicon (inside value.options options) first value tokens
  operator_of lexicon options first tokens (or_of forms) = either_of (operators_of lexicon options first tokens forms)
  operator_of lexicon options first tokens (and_of forms) = together_of (operators_of lexicon options first tokens forms)
  operator_of lexicon options first tokens (mild_not left right) =
      apart (operator_of lexicon options first tokens left) (operator_of lexicon options (first + phrase_count lexicon options left) tokens right)
  operator_of lexicon options first tokens (not_of form) = negated (operator_of lexicon options first tokens form)
  operator_of lexicon options first tokens (filtered form kind) = through_filter (operator_of lexicon options first tokens form) kind
  operator_of lexicon options first tokens (with_options form inner) = operator_of lexicon (inside inner options) first tokens form

  pub operators_of : Lexicon → Options → ℕ → List Token → Forms → List Operator
  operators_of lexicon options first tokens none = []
  operators_of lexicon options first tokens (more form rest) =
      operator_of lexicon options first tokens form ∷ operators_of lexicon options (first + phrase_count lexicon options form) tokens rest
