-- The AllMatches of a selection's operator are those of the selection.
use Rattle.std.proofs.Common.{◌≡◌, refl, ap, sym, ◌∙◌, ℕ, ◌+◌, List, [], ◌∷◌, Bool, true, false}
use Rattle.std.specs.Prelude.{map, fold, cond, Option, Some, None}
use Rattle.std.specs.List.{list_all}
use Rattle.std.proofs.lemmas.Bool.{and_parts}
use Rattle.ft_base.specs.Lists.{is_empty}
use Rattle.ft_base.specs.declared.span.Span.{Span}
use Rattle.ft_base.specs.declared.token.Token.{Token}
use Rattle.ft_base.specs.declared.hit.Match.{Match}
use Rattle.ft_base.specs.declared.options.Options.{Options}
use Rattle.ft_base.specs.declared.range.Range.{Range}
use Rattle.ft_base.specs.declared.words.Words.{Words}
use Rattle.ft_base.specs.declared.words.Mode.{Mode}
use Rattle.ft_base.specs.declared.words.Mode.TheVariants.{Any, AnyWord, All, AllWords, Phrase}
use Rattle.ft_base.specs.Selection.{Form, Forms, words, or_of, and_of, mild_not, not_of, filtered, with_options, none, more}
use Rattle.all_matches.specs.Variants.{Item, Lexicon}
use Rattle.all_matches.specs.Hits.{phrase_matches}
use Rattle.all_matches.specs.Spans.{whole_text}
use Rattle.all_matches.specs.Boolean.{empty_match, ft_or, ft_and, ft_not, ft_or_of, ft_and_of}
use Rattle.all_matches.specs.MildNot.{ft_mild_not}
use Rattle.all_matches.specs.Filters.{ft_filtered}
use Rattle.all_matches.specs.Times.{occurring}
use Rattle.all_matches.specs.Meaning.{inside, phrases_by, strings_of, each_phrase, joined_by, value_matches, phrase_count, all_matches, each_form}
use Rattle.all_matches.specs.Ways.{Operator, phrase, either, together, matches_of}
use Rattle.all_matches.specs.Operators.{either_of, together_of, operator_by, phrase_operators, value_operator, operator_of, operators_of}
use Rattle.all_matches.specs.Allowed.{has_no_range, without_times, each_without_times}

-- And with the one Match that needs nothing
and_empty : (matches : List Match) → ft_and (empty_match ∷ []) matches ≡ matches
and_empty [] = refl
and_empty (m ∷ rest) = ap (λ ms. m ∷ ms) (and_empty rest)

module _ (item : Span) where
  fold-either : (operator : Operator) (rest : List Operator) → matches_of item (fold either operator rest) ≡ fold ft_or (matches_of item operator) (map (matches_of item) rest)
  unfolding matches_of
  fold-either operator [] = refl
  fold-either operator (next ∷ rest) = fold-either (either operator next) rest

  fold-together : (operator : Operator) (rest : List Operator) → matches_of item (fold together operator rest) ≡ fold ft_and (matches_of item operator) (map (matches_of item) rest)
  unfolding matches_of
  fold-together operator [] = refl
  fold-together operator (next ∷ rest) = fold-together (together operator next) rest

  either-matches : (operands : List Operator) → matches_of item (either_of operands) ≡ ft_or_of (map (matches_of item) operands)
  unfolding matches_of
  either-matches [] = refl
  either-matches (first ∷ rest) = fold-either first rest

  together-matches : (operands : List Operator) → matches_of item (together_of operands) ≡ ft_and_of (map (matches_of item) operands)
  unfolding matches_of
  together-matches [] = refl
  together-matches (first ∷ rest) = fold-together first rest ∙ ap (λ ms. fold ft_and ms (map (matches_of item) rest)) (sym (and_empty (matches_of item first)))

  mode-matches : (mode : Mode) (operands : List Operator) → matches_of item (operator_by mode operands) ≡ joined_by mode (map (matches_of item) operands)
  mode-matches Any operands = either-matches operands
  mode-matches AnyWord operands = either-matches operands
  mode-matches All operands = together-matches operands
  mode-matches AllWords operands = together-matches operands
  mode-matches Phrase operands = either-matches operands

  phrases-match : (lexicon : Lexicon) (options : Options) (tokens : List Token) (first : ℕ) (phrases : List (List Item))
      → map (matches_of item) (phrase_operators lexicon options tokens first phrases) ≡ each_phrase lexicon options first phrases tokens
  unfolding matches_of
  phrases-match lexicon options tokens first [] = refl
  phrases-match lexicon options tokens first (items ∷ rest) =
      ap (λ ms. phrase_matches lexicon options first items tokens ∷ ms) (phrases-match lexicon options tokens (first + 1) rest)

  cond-matches : (b : Bool) (operator : Operator) (matches : List Match) → matches_of item operator ≡ matches → matches_of item (cond b (phrase []) operator) ≡ cond b [] matches
  unfolding matches_of
  cond-matches true operator matches same = refl
  cond-matches false operator matches same = same

  value-matches : (lexicon : Lexicon) (options : Options) (first : ℕ) (value : Words) (tokens : List Token)
      → matches_of item (value_operator lexicon options first value tokens) ≡ value_matches lexicon options first value tokens
  value-matches lexicon options first value tokens =
      cond-matches (list_all is_empty (strings_of lexicon options value))
      (operator_by value.mode (phrase_operators lexicon options tokens first (phrases_by value.mode (strings_of lexicon options value))))
      (joined_by value.mode (each_phrase lexicon options first (phrases_by value.mode (strings_of lexicon options value)) tokens))
      (mode-matches value.mode (phrase_operators lexicon options tokens first (phrases_by value.mode (strings_of lexicon options value)))
      ∙ ap (joined_by value.mode) (phrases-match lexicon options tokens first (phrases_by value.mode (strings_of lexicon options value))))

no_range : (times : Option Range) (matches : List Match) → has_no_range times ≡ true → occurring times matches ≡ matches
no_range None matches h = refl
no_range (Some range) matches h = cc

mutual
  unfolding all_matches operator_of matches_of without_times

  pub operator-matches : (lexicon : Lexicon) (options : Options) (first : ℕ) (tokens : List Token) (form : Form) → without_times form ≡ true
      → matches_of (whole_text tokens) (operator_of lexicon options first tokens form) ≡ all_matches lexicon options first tokens form
  operator-matches lexicon options first tokens (words value) h =
      value-matches (whole_text tokens) lexicon (inside value.options options) first value tokens
      ∙ sym (no_range value.times (value_matches lexicon (inside value.options options) first value tokens) h)
  operator-matches lexicon options first tokens (or_of forms) h =
      either-matches (whole_text tokens) (operators_of lexicon options first tokens forms) ∙ ap ft_or_of (operators-match lexicon options first tokens forms h)
  operator-matches lexicon options first tokens (and_of forms) h =
      together-matches (whole_text tokens) (operators_of lexicon options first tokens forms) ∙ ap ft_and_of (operators-match lexicon options first tokens forms h)
  operator-matches lexicon options first tokens (mild_not left right) h =
      let parts = and_parts (without_times left) (without_times right) h in
      λ i. ft_mild_not (operator-matches lexicon options first tokens left parts.0 i)
      (operator-matches lexicon options (first + phrase_count lexicon options left) tokens right parts.1 i)
  operator-matches lexicon options first tokens (not_of form) h = ap ft_not (operator-matches lexicon options first tokens form h)
  operator-matches lexicon options first tokens (filtered form kind) h = ap (ft_filtered kind (whole_text tokens)) (operator-matches lexicon options first tokens form h)
  operator-matches lexicon options first tokens (with_options form inner) h = operator-matches lexicon (inside inner options) first tokens form h

  pub operators-match : (lexicon : Lexicon) (options : Options) (first : ℕ) (tokens : List Token) (forms : Forms) → each_without_times forms ≡ true
      → map (matches_of (whole_text tokens)) (operators_of lexicon options first tokens forms) ≡ each_form lexicon options first tokens forms
  operators-match lexicon options first tokens none h = refl
  operators-match lexicon options first tokens (more form rest) h =
      let parts = and_parts (without_times form) (each_without_times rest) h in
      λ i. operator-matches lexicon options first tokens form parts.0 i ∷ operators-match lexicon options (first + phrase_count lexicon options form) tokens rest parts.1 i
