-- A selection without filters and mild not has a Match that is made in a field exactly where it holds there.
use Rattle.std.proofs.Common.{◌≡◌, refl, ap, ◌∙◌, ℕ, ◌+◌, List, Bool, true, not, ◌&&◌, ◌||◌, arith}
use Rattle.std.specs.Prelude.{Option, Some, None}
use Rattle.std.specs.List.{list_any, list_all}
use Rattle.std.proofs.lemmas.Bool.{and_parts}
use Rattle.ft_base.specs.declared.token.Token.{Token}
use Rattle.ft_base.specs.declared.hit.Hit.{Hit}
use Rattle.ft_base.specs.declared.hit.Match.{Match}
use Rattle.ft_base.specs.declared.options.Options.{Options}
use Rattle.ft_base.specs.declared.range.Range.{Range}
use Rattle.ft_base.specs.Selection.{Form, Forms, words, or_of, and_of, mild_not, not_of, filtered, with_options, none, more}
use Rattle.all_matches.specs.Variants.{Lexicon}
use Rattle.all_matches.specs.Compositional.{enough}
use Rattle.all_matches.specs.Times.{occurring}
use Rattle.all_matches.specs.Meaning.{inside, value_matches, phrase_count, all_matches, each_form}
use Rattle.all_matches.specs.Numbering.{shifted_hit, shifted_match, shifted}
use Rattle.all_matches.proofs.ListTests.{list_any-alike, list_any-map}
use Rattle.all_matches.proofs.Numbering.{all_matches-shifted}
use Rattle.all_matches.proofs.Shifted.{all-shifted}
use Rattle.counted_shapes.specs.Fields.{made_in}
use Rattle.counted_shapes.specs.Held.{holds_in, some_holds_in, each_holds_in, is_boolean, are_boolean}
use Rattle.counted_shapes.proofs.FieldLaws.{some_count, made, made_count, made-not, made-times, made-or_of, made-and_of}

module _ (field : Hit → Bool) where
  enough_made : (times : Option Range) (ms : List Match) → made field (occurring times ms) ≡ enough times (made_count field ms)
  enough_made None ms = some_count (made_in field) ms
  enough_made (Some range) ms = made-times field range ms

  module _ (same : (by : ℕ) (hit : Hit) → field (shifted_hit by hit) ≡ field hit) where
    made_in-shifted : (by : ℕ) (m : Match) → made_in field (shifted_match by m) ≡ made_in field m
    made_in-shifted by m =
        λ i. all-shifted by field field (same by) m.includes i
        && all-shifted by (λ hit. not (field hit)) (λ hit. not (field hit)) (λ hit. ap not (same by hit)) m.excludes i

    made-shifted : (by : ℕ) (ms : List Match) → made field (shifted by ms) ≡ made field ms
    made-shifted by ms =
        list_any-map (made_in field) (shifted_match by) ms
        ∙ list_any-alike (λ m. made_in field (shifted_match by m)) (made_in field) ms (made_in-shifted by)

    -- whichever number the first phrase has
    made-any_number : (lexicon : Lexicon) (options : Options) (by first : ℕ) (tokens : List Token) (form : Form)
        → made field (all_matches lexicon options (by + first) tokens form) ≡ made field (all_matches lexicon options first tokens form)
    made-any_number lexicon options by first tokens form =
        ap (made field) (all_matches-shifted by lexicon options first tokens form) ∙ made-shifted by (all_matches lexicon options first tokens form)

    next_number : (m n : ℕ) → (m + 1) + n ≡ (m + n) + 1
    next_number m n = omega arith

    mutual
      unfolding all_matches holds_in is_boolean

      pub made-form : (lexicon : Lexicon) (options : Options) (tokens : List Token) (form : Form) → is_boolean form ≡ true
          → made field (all_matches lexicon options 1 tokens form) ≡ holds_in field lexicon options tokens form
      made-form lexicon options tokens (words value) h =
          enough_made value.times (value_matches lexicon (inside value.options options) 1 value tokens)
      made-form lexicon options tokens (or_of forms) h = made-or_of field (each_form lexicon options 1 tokens forms) ∙ some_operand lexicon options 0 tokens forms h
      made-form lexicon options tokens (and_of forms) h = made-and_of field (each_form lexicon options 1 tokens forms) ∙ each_operand lexicon options 0 tokens forms h
      made-form lexicon options tokens (mild_not left right) h = cc
      made-form lexicon options tokens (not_of form) h = made-not field (all_matches lexicon options 1 tokens form) ∙ ap not (made-form lexicon options tokens form h)
      made-form lexicon options tokens (filtered form kind) h = cc
      made-form lexicon options tokens (with_options form inner) h = made-form lexicon (inside inner options) tokens form h

      -- operands stand at other numbers than alone
      some_operand : (lexicon : Lexicon) (options : Options) (first : ℕ) (tokens : List Token) (forms : Forms) → are_boolean forms ≡ true
          → list_any (made field) (each_form lexicon options (first + 1) tokens forms) ≡ some_holds_in field lexicon options tokens forms
      some_operand lexicon options first tokens none h = refl
      some_operand lexicon options first tokens (more form rest) h =
          let parts = and_parts (is_boolean form) (are_boolean rest) h in
          λ i. (made-any_number lexicon options first 1 tokens form ∙ made-form lexicon options tokens form parts.0) i
          || (ap (λ n. list_any (made field) (each_form lexicon options n tokens rest)) (next_number first (phrase_count lexicon options form))
          ∙ some_operand lexicon options (first + phrase_count lexicon options form) tokens rest parts.1) i

      each_operand : (lexicon : Lexicon) (options : Options) (first : ℕ) (tokens : List Token) (forms : Forms) → are_boolean forms ≡ true
          → list_all (made field) (each_form lexicon options (first + 1) tokens forms) ≡ each_holds_in field lexicon options tokens forms
      each_operand lexicon options first tokens none h = refl
      each_operand lexicon options first tokens (more form rest) h =
          let parts = and_parts (is_boolean form) (are_boolean rest) h in
          λ i. (made-any_number lexicon options first 1 tokens form ∙ made-form lexicon options tokens form parts.0) i
          && (ap (λ n. list_all (made field) (each_form lexicon options n tokens rest)) (next_number first (phrase_count lexicon options form))
          ∙ each_operand lexicon options (first + phrase_count lexicon options form) tokens rest parts.1) i
