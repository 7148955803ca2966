-- A text satisfies a rewritten selection exactly where it satisfies the selection.
use Rattle.std.proofs.Common.{◌≡◌, refl, ap, sym, ◌∙◌, Bool, true, false, not, cond, ℕ, List, arith}
use Rattle.std.specs.Prelude.{◌==◌, nat_le, nat_lt, Option, Some, None}
use Rattle.std.proofs.lemmas.Bool.{eqb-true}
use Rattle.std.proofs.Math.Bool.{not-not}
use Rattle.std.proofs.lemmas.Bool.Decides.{nat_tests}
use Rattle.all_matches.specs.Compositional.{enough, occurrences}
use Rattle.all_matches.specs.Meaning.{inside, sat_under, sat}
use Rattle.all_matches.specs.Variants.{Lexicon}
use Rattle.all_matches.proofs.Compositional.{sat-words, sat-not_of, sat-with_options}
use Rattle.ft_base.specs.declared.options.Options.{Options}
use Rattle.ft_base.specs.declared.range.Range.{Range}
use Rattle.ft_base.specs.declared.range.Range.TheVariants.{Exactly, AtLeast, AtMost, FromTo}
use Rattle.ft_base.specs.declared.token.Token.{Token}
use Rattle.ft_base.specs.declared.words.Words.{Words}
use Rattle.ft_base.specs.Selection.{no_options, Form, Forms, words, or_of, and_of, mild_not, not_of, filtered, with_options, none, more}
use Rattle.ft_rewriter.specs.Rewriting.{given, listed, flattened, shorter_times, shorter_words, simplified, negated, each_simplified, each_negated, rewritten}
use Rattle.ft_rewriter.specs.declared.connective.Connective.{Connective}
use Rattle.ft_rewriter.specs.declared.connective.Connective.TheVariants.{Or, And}
use Rattle.ft_rewriter.proofs.OperandTests.{op, other, many, op_not, unit_not, many_none, many_more, satisfies, sat_joined, sat_connected}
use Rattle.ft_rewriter.proofs.FlattenedMatches.{sat-flattened}
use Rattle.ft_rewriter.proofs.GivenOptions.{sat_given}

once : (count : ℕ) → nat_lt 0 count ≡ nat_le 1 count
once count = grind (arith, nat_tests)

at_least_step : (n count : ℕ) (b : Bool) → (n == 1) ≡ b → enough (cond b None (Some (AtLeast n))) count ≡ nat_le n count
at_least_step n count true e = once count ∙ ap (λ m. nat_le m count) (sym (eqb-true n 1 e))
at_least_step n count false e = refl

enough-shorter : (times : Option Range) (count : ℕ) → enough (shorter_times times) count ≡ enough times count
enough-shorter None count = refl
enough-shorter (Some (Exactly n)) count = refl
enough-shorter (Some (AtLeast n)) count = at_least_step n count (n == 1) refl
enough-shorter (Some (AtMost n)) count = refl
enough-shorter (Some (FromTo low high)) count = refl

module _ (lexicon : Lexicon) (options : Options) (tokens : List Token) where
  sat-shorter : (value : Words) → sat_under lexicon options (words (shorter_words value)) tokens ≡ sat_under lexicon options (words value) tokens
  sat-shorter value =
      sat-words lexicon options (shorter_words value) tokens
      ∙ enough-shorter value.times (occurrences lexicon (inside value.options options) value tokens)
      ∙ sym (sat-words lexicon options value tokens)

mutual
  unfolding simplified flattened

  sat-simplified : (lexicon : Lexicon) (options : Options) (tokens : List Token) (form : Form) → sat_under lexicon options (simplified form) tokens ≡ sat_under lexicon options form tokens
  sat-simplified lexicon options tokens (words value) = sat-shorter lexicon options tokens value
  sat-simplified lexicon options tokens (or_of forms) =
      sat_connected lexicon options tokens Or (each_simplified forms) ∙ many-simplified lexicon options tokens Or forms ∙ sym (sat_joined lexicon options tokens Or forms)
  sat-simplified lexicon options tokens (and_of forms) =
      sat_connected lexicon options tokens And (each_simplified forms) ∙ many-simplified lexicon options tokens And forms ∙ sym (sat_joined lexicon options tokens And forms)
  sat-simplified lexicon options tokens (mild_not left right) = sat-flattened lexicon options (mild_not left right) tokens
  sat-simplified lexicon options tokens (not_of form) = sat-negated lexicon options tokens form ∙ sym (sat-not_of lexicon options form tokens)
  sat-simplified lexicon options tokens (filtered form kind) = sat-flattened lexicon options (filtered form kind) tokens
  sat-simplified lexicon options tokens (with_options form inner) =
      sat-with_options lexicon options inner (simplified form) tokens ∙ sat-simplified lexicon (inside inner options) tokens form ∙ sym (sat-with_options lexicon options inner form tokens)

  sat-negated : (lexicon : Lexicon) (options : Options) (tokens : List Token) (form : Form) → sat_under lexicon options (negated form) tokens ≡ not (sat_under lexicon options form tokens)
  sat-negated lexicon options tokens (words value) = sat-not_of lexicon options (words (shorter_words value)) tokens ∙ ap not (sat-shorter lexicon options tokens value)
  sat-negated lexicon options tokens (or_of forms) =
      sat_connected lexicon options tokens And (each_negated forms) ∙ many-negated lexicon options tokens Or forms ∙ ap not (sym (sat_joined lexicon options tokens Or forms))
  sat-negated lexicon options tokens (and_of forms) =
      sat_connected lexicon options tokens Or (each_negated forms) ∙ many-negated lexicon options tokens And forms ∙ ap not (sym (sat_joined lexicon options tokens And forms))
  sat-negated lexicon options tokens (mild_not left right) = sat-not_of lexicon options (flattened (mild_not left right)) tokens ∙ ap not (sat-flattened lexicon options (mild_not left right) tokens)
  sat-negated lexicon options tokens (not_of form) =
      sat-simplified lexicon options tokens form ∙ sym (not-not (sat_under lexicon options form tokens)) ∙ ap not (sym (sat-not_of lexicon options form tokens))
  sat-negated lexicon options tokens (filtered form kind) = sat-not_of lexicon options (flattened (filtered form kind)) tokens ∙ ap not (sat-flattened lexicon options (filtered form kind) tokens)
  sat-negated lexicon options tokens (with_options form inner) =
      sat-not_of lexicon options (with_options (simplified form) inner) tokens
      ∙ ap not (sat-with_options lexicon options inner (simplified form) tokens ∙ sat-simplified lexicon (inside inner options) tokens form ∙ sym (sat-with_options lexicon options inner form tokens))

  many-simplified : (lexicon : Lexicon) (options : Options) (tokens : List Token) (c : Connective) (forms : Forms)
      → many c (satisfies lexicon options tokens) (each_simplified forms) ≡ many c (satisfies lexicon options tokens) (listed forms)
  many-simplified lexicon options tokens c none = refl
  many-simplified lexicon options tokens c (more form rest) =
      many_more c (satisfies lexicon options tokens) (simplified form) (each_simplified rest)
      ∙ (λ i. op c (sat-simplified lexicon options tokens form i) (many-simplified lexicon options tokens c rest i))
      ∙ sym (many_more c (satisfies lexicon options tokens) form (listed rest))

  many-negated : (lexicon : Lexicon) (options : Options) (tokens : List Token) (c : Connective) (forms : Forms)
      → many (other c) (satisfies lexicon options tokens) (each_negated forms) ≡ not (many c (satisfies lexicon options tokens) (listed forms))
  many-negated lexicon options tokens c none =
      many_none (other c) (satisfies lexicon options tokens) ∙ unit_not c ∙ ap not (sym (many_none c (satisfies lexicon options tokens)))
  many-negated lexicon options tokens c (more form rest) =
      many_more (other c) (satisfies lexicon options tokens) (negated form) (each_negated rest)
      ∙ (λ i. op (other c) (sat-negated lexicon options tokens form i) (many-negated lexicon options tokens c rest i))
      ∙ op_not c (sat_under lexicon options form tokens) (many c (satisfies lexicon options tokens) (listed rest))
      ∙ ap not (sym (many_more c (satisfies lexicon options tokens) form (listed rest)))

pub sat-rewritten : (lexicon : Lexicon) (form : Form) (tokens : List Token) → sat lexicon (rewritten form) tokens ≡ sat lexicon form tokens
sat-rewritten lexicon form tokens = sat-simplified lexicon no_options tokens (given no_options form) ∙ sat_given lexicon form tokens
