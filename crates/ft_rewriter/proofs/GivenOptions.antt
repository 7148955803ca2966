-- Options that were given to the words hold there as they did round the selection.
use Rattle.std.proofs.Common.{◌≡◌, refl, ap, ◌∙◌, ℕ, ◌+◌, List, ◌∷◌}
use Rattle.std.specs.Prelude.{Option, Some, None, length}
use Rattle.std.specs.Option.{option_or}
use Rattle.all_matches.specs.Boolean.{ft_not, ft_or_of, ft_and_of}
use Rattle.all_matches.specs.Filters.{ft_filtered}
use Rattle.all_matches.specs.Meaning.{inside, phrases_by, strings_of, value_matches, phrase_count, phrase_counts, all_matches, each_form, sat_under, sat}
use Rattle.all_matches.specs.MildNot.{ft_mild_not}
use Rattle.all_matches.specs.Spans.{whole_text}
use Rattle.all_matches.specs.Times.{occurring}
use Rattle.all_matches.specs.Variants.{Lexicon}
use Rattle.all_matches.specs.Boolean.{satisfied}
use Rattle.ft_base.specs.declared.options.Options.{Options}
use Rattle.ft_base.specs.declared.token.Token.{Token}
use Rattle.ft_base.specs.Selection.{no_options, Form, Forms, words, or_of, and_of, mild_not, not_of, filtered, with_options, none, more}
use Rattle.ft_rewriter.specs.Rewriting.{given, each_given}

or_none : {A : Type 0} (x : Option A) → option_or x None ≡ x
or_none None = refl
or_none (Some x) = refl

pub inside_none : (options : Options) → inside options no_options ≡ options
inside_none options = λ i. record {
  case = or_none options.case i;
  diacritics_sensitive = or_none options.diacritics_sensitive i;
  stemming = or_none options.stemming i;
  thesaurus = or_none options.thesaurus i;
  stop_words = or_none options.stop_words i;
  language = or_none options.language i;
  wildcards = or_none options.wildcards i;
}

module _ (lexicon : Lexicon) where
  mutual
    unfolding given phrase_count

    counts_given : (outer : Options) (form : Form) → phrase_count lexicon no_options (given outer form) ≡ phrase_count lexicon outer form
    counts_given outer (words value) = ap (λ options. length (phrases_by value.mode (strings_of lexicon options value))) (inside_none (inside value.options outer))
    counts_given outer (or_of forms) = each_counts_given outer forms
    counts_given outer (and_of forms) = each_counts_given outer forms
    counts_given outer (mild_not left right) = λ i. counts_given outer left i + counts_given outer right i
    counts_given outer (not_of form) = counts_given outer form
    counts_given outer (filtered form kind) = counts_given outer form
    counts_given outer (with_options form inner) = counts_given (inside inner outer) form

    each_counts_given : (outer : Options) (forms : Forms) → phrase_counts lexicon no_options (each_given outer forms) ≡ phrase_counts lexicon outer forms
    each_counts_given outer none = refl
    each_counts_given outer (more form rest) = λ i. counts_given outer form i + each_counts_given outer rest i

  mutual
    unfolding given all_matches

    matches_given : (outer : Options) (first : ℕ) (tokens : List Token) (form : Form) → all_matches lexicon no_options first tokens (given outer form) ≡ all_matches lexicon outer first tokens form
    matches_given outer first tokens (words value) = ap (λ options. occurring value.times (value_matches lexicon options first value tokens)) (inside_none (inside value.options outer))
    matches_given outer first tokens (or_of forms) = ap ft_or_of (each_given_matches outer first tokens forms)
    matches_given outer first tokens (and_of forms) = ap ft_and_of (each_given_matches outer first tokens forms)
    matches_given outer first tokens (mild_not left right) =
        λ i. ft_mild_not (matches_given outer first tokens left i)
        ((ap (λ n. all_matches lexicon no_options (first + n) tokens (given outer right)) (counts_given outer left) ∙ matches_given outer (first + phrase_count lexicon outer left) tokens right) i)
    matches_given outer first tokens (not_of form) = ap ft_not (matches_given outer first tokens form)
    matches_given outer first tokens (filtered form kind) = ap (ft_filtered kind (whole_text tokens)) (matches_given outer first tokens form)
    matches_given outer first tokens (with_options form inner) = matches_given (inside inner outer) first tokens form

    each_given_matches : (outer : Options) (first : ℕ) (tokens : List Token) (forms : Forms) → each_form lexicon no_options first tokens (each_given outer forms) ≡ each_form lexicon outer first tokens forms
    each_given_matches outer first tokens none = refl
    each_given_matches outer first tokens (more form rest) =
        λ i. matches_given outer first tokens form i
        ∷ (ap (λ n. each_form lexicon no_options (first + n) tokens (each_given outer rest)) (counts_given outer form) ∙ each_given_matches outer (first + phrase_count lexicon outer form) tokens rest) i

pub sat_given : (lexicon : Lexicon) (form : Form) (tokens : List Token) → sat lexicon (given no_options form) tokens ≡ sat lexicon form tokens
unfolding sat_under
sat_given lexicon form tokens = ap satisfied (matches_given lexicon no_options 1 tokens form)
