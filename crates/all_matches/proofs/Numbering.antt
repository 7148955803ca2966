-- Whether a selection is satisfied doesn't depend on the numbers of its phrases.
use Rattle.std.proofs.Common.{◌≡◌, refl, ap, sym, ◌∙◌, ℕ, ◌+◌, List, [], ◌∷◌, add_assoc}
use Rattle.std.specs.Prelude.{map, cond}
use Rattle.std.specs.List.{list_all}
use Rattle.ft_base.specs.Lists.{is_empty}
use Rattle.ft_base.specs.declared.token.Token.{Token}
use Rattle.ft_base.specs.declared.hit.Match.{Match}
use Rattle.ft_base.specs.declared.options.Options.{Options}
use Rattle.ft_base.specs.declared.words.Words.{Words}
use Rattle.ft_base.specs.declared.words.Mode.{Mode}
use Rattle.ft_base.specs.declared.words.Mode.TheVariants.{Any, AnyWord, All, AllWords, Phrase}
use Rattle.ft_base.specs.Selection.{Form, Forms, words, or_of, and_of, mild_not, not_of, filtered, with_options, none, more}
use Rattle.all_matches.specs.Variants.{Item, Lexicon}
use Rattle.all_matches.specs.Hits.{Interval, hit_on, match_of_hit, intervals_of}
use Rattle.all_matches.specs.Boolean.{empty_match, ft_not, ft_or_of, ft_and_of, satisfied}
use Rattle.all_matches.specs.Filters.{ft_filtered}
use Rattle.all_matches.specs.Spans.{whole_text}
use Rattle.all_matches.specs.MildNot.{ft_mild_not}
use Rattle.all_matches.specs.Times.{occurring}
use Rattle.all_matches.specs.Meaning.{inside, phrases_by, strings_of, each_phrase, joined_by, value_matches, phrase_count, all_matches, each_form}
use Rattle.all_matches.specs.Numbering.{shifted_match, shifted}
use Rattle.all_matches.proofs.Shifted.{map-cond, or_of-shifted, and_of-shifted, not-shifted, occurring-shifted, mild_not-shifted, satisfied-shifted}
use Rattle.all_matches.proofs.ShiftedFilters.{filtered-shifted}

module _ (by : ℕ) where
  hits-shifted : (tokens : List Token) (number : ℕ) (found : List Interval) → map match_of_hit (map (hit_on tokens (by + number)) found) ≡ shifted by (map match_of_hit (map (hit_on tokens number) found))
  hits-shifted tokens number [] = refl
  hits-shifted tokens number (interval ∷ rest) = ap (λ ms. match_of_hit (hit_on tokens (by + number) interval) ∷ ms) (hits-shifted tokens number rest)

  each_phrase-shifted : (lexicon : Lexicon) (options : Options) (first : ℕ) (phrases : List (List Item)) (tokens : List Token) → each_phrase lexicon options (by + first) phrases tokens ≡ map (shifted by) (each_phrase lexicon options first phrases tokens)
  each_phrase-shifted lexicon options first [] tokens = refl
  each_phrase-shifted lexicon options first (phrase ∷ rest) tokens =
      λ i. hits-shifted tokens first (intervals_of lexicon options phrase tokens) i ∷ (ap (λ n. each_phrase lexicon options n rest tokens) (add_assoc by first 1) ∙ each_phrase-shifted lexicon options (first + 1) rest tokens) i

  joined-shifted : (mode : Mode) (operands : List (List Match)) → joined_by mode (map (shifted by) operands) ≡ shifted by (joined_by mode operands)
  joined-shifted Any operands = or_of-shifted by [] operands
  joined-shifted AnyWord operands = or_of-shifted by [] operands
  joined-shifted All operands = and_of-shifted by (empty_match ∷ []) operands
  joined-shifted AllWords operands = and_of-shifted by (empty_match ∷ []) operands
  joined-shifted Phrase operands = or_of-shifted by [] operands

  value-shifted : (lexicon : Lexicon) (options : Options) (first : ℕ) (value : Words) (tokens : List Token) → value_matches lexicon options (by + first) value tokens ≡ shifted by (value_matches lexicon options first value tokens)
  value-shifted lexicon options first value tokens =
      ap (λ ms. cond (list_all is_empty (strings_of lexicon options value)) [] ms)
      (ap (joined_by value.mode) (each_phrase-shifted lexicon options first (phrases_by value.mode (strings_of lexicon options value)) tokens)
      ∙ joined-shifted value.mode (each_phrase lexicon options first (phrases_by value.mode (strings_of lexicon options value)) tokens))
      ∙ sym (map-cond (shifted_match by) (list_all is_empty (strings_of lexicon options value)) [] (joined_by value.mode (each_phrase lexicon options first (phrases_by value.mode (strings_of lexicon options value)) tokens)))

  mutual
    unfolding all_matches

    pub all_matches-shifted : (lexicon : Lexicon) (options : Options) (first : ℕ) (tokens : List Token) (form : Form) → all_matches lexicon options (by + first) tokens form ≡ shifted by (all_matches lexicon options first tokens form)
    all_matches-shifted lexicon options first tokens (words value) =
        ap (occurring value.times) (value-shifted lexicon (inside value.options options) first value tokens)
        ∙ occurring-shifted by value.times (value_matches lexicon (inside value.options options) first value tokens)
    all_matches-shifted lexicon options first tokens (or_of forms) =
        ap ft_or_of (each_form-shifted lexicon options first tokens forms) ∙ or_of-shifted by [] (each_form lexicon options first tokens forms)
    all_matches-shifted lexicon options first tokens (and_of forms) =
        ap ft_and_of (each_form-shifted lexicon options first tokens forms) ∙ and_of-shifted by (empty_match ∷ []) (each_form lexicon options first tokens forms)
    all_matches-shifted lexicon options first tokens (mild_not left right) =
        (λ i. ft_mild_not (all_matches-shifted lexicon options first tokens left i)
        ((ap (λ n. all_matches lexicon options n tokens right) (add_assoc by first (phrase_count lexicon options left)) ∙ all_matches-shifted lexicon options (first + phrase_count lexicon options left) tokens right) i))
        ∙ mild_not-shifted by (all_matches lexicon options first tokens left) (all_matches lexicon options (first + phrase_count lexicon options left) tokens right)
    all_matches-shifted lexicon options first tokens (not_of form) =
        ap ft_not (all_matches-shifted lexicon options first tokens form) ∙ not-shifted by (all_matches lexicon options first tokens form)
    all_matches-shifted lexicon options first tokens (filtered form kind) =
        ap (ft_filtered kind (whole_text tokens)) (all_matches-shifted lexicon options first tokens form) ∙ filtered-shifted by kind (whole_text tokens) (all_matches lexicon options first tokens form)
    all_matches-shifted lexicon options first tokens (with_options form inner) = all_matches-shifted lexicon (inside inner options) first tokens form

    pub each_form-shifted : (lexicon : Lexicon) (options : Options) (first : ℕ) (tokens : List Token) (forms : Forms) → each_form lexicon options (by + first) tokens forms ≡ map (shifted by) (each_form lexicon options first tokens forms)
    each_form-shifted lexicon options first tokens none = refl
    each_form-shifted lexicon options first tokens (more form rest) =
        λ i. all_matches-shifted lexicon options first tokens form i
        ∷ (ap (λ n. each_form lexicon options n tokens rest) (add_assoc by first (phrase_count lexicon options form)) ∙ each_form-shifted lexicon options (first + phrase_count lexicon options form) tokens rest) i

-- a selection is satisfied whichever number its first phrase has
pub satisfied_by-any_number : (lexicon : Lexicon) (options : Options) (first second : ℕ) (tokens : List Token) (form : Form) → satisfied (all_matches lexicon options (first + second) tokens form) ≡ satisfied (all_matches lexicon options second tokens form)
satisfied_by-any_number lexicon options first second tokens form =
    ap satisfied (all_matches-shifted first lexicon options second tokens form) ∙ satisfied-shifted first (all_matches lexicon options second tokens form)
