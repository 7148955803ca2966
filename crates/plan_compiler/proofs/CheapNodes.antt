-- Which operands of a cheap selection are cheap.
use Rattle.std.proofs.Common.{◌≡◌, refl, sym, ap, ◌∙◌, Bool, true, false, true≢false, not, ◌&&◌, inl, inr, List, [], ◌∷◌, map}
use Rattle.std.specs.List.{list_all}
use Rattle.std.proofs.Math.Bool.{not-not}
use Rattle.std.proofs.lemmas.Bool.{and_parts, or_cases}
use Rattle.ft_base.specs.declared.filter.Filter.{Filter}
use Rattle.ft_base.specs.declared.options.Options.{Options}
use Rattle.ft_base.specs.Selection.{Form, Forms, words, or_of, and_of, mild_not, not_of, filtered, with_options}
use Rattle.ft_syntax.specs.View.{form, forms_of}
use Rattle.ft_syntax.specs.declared.selection.Selection.{Selection}
use Rattle.all_matches.specs.Allowed.{without_times}
use Rattle.all_matches.specs.Meaning.{inside}
use Rattle.all_matches.specs.Variants.{Lexicon}
use Rattle.counted_shapes.specs.Accepted.{is_counted}
use Rattle.plan_compiler.specs.CheapSelections.{are_cheap_under, counts_words, is_cheap_filter, is_cheap_under, joins_words}
use Rattle.plan_compiler.specs.CompiledOperators.{has_cheap_filter, is_positional}

-- where words are counted `occurs` stands
pub counted_times : (counts : Bool) (operand : Form) (kind : Filter) → (counts && counts_words operand kind) ≡ true → without_times operand ≡ false
counted_times counts operand kind h =
    sym (not-not (without_times operand))
    ∙ ap not (and_parts (is_counted operand kind) (not (without_times operand)) (and_parts counts (counts_words operand kind) h).1).1

module _ (counts : Bool) (lexicon : Lexicon) (options : Options) where
  pub are_cheap : (parts : List Selection) → are_cheap_under counts lexicon options (forms_of (map form parts)) ≡ list_all (λ part. is_cheap_under counts lexicon options (form part)) parts
  unfolding are_cheap_under
  are_cheap [] = refl
  are_cheap (part ∷ parts) = ap (λ b. is_cheap_under counts lexicon options (form part) && b) (are_cheap parts)

  pub or_cheap : (forms : Forms) → is_cheap_under counts lexicon options (or_of forms) ≡ true → are_cheap_under counts lexicon options forms ≡ true
  unfolding is_cheap_under
  or_cheap forms h = h

  pub and_cheap : (forms : Forms) → is_cheap_under counts lexicon options (and_of forms) ≡ true → are_cheap_under counts lexicon options forms ≡ true
  unfolding is_cheap_under
  and_cheap forms h = h

  pub not_cheap : (operand : Form) → is_cheap_under counts lexicon options (not_of operand) ≡ true → is_cheap_under counts lexicon options operand ≡ true
  unfolding is_cheap_under
  not_cheap operand h = h

  pub with_cheap : (operand : Form) (inner : Options) → is_cheap_under counts lexicon options (with_options operand inner) ≡ true → is_cheap_under counts lexicon (inside inner options) operand ≡ true
  unfolding is_cheap_under
  with_cheap operand inner h = h

  -- of those with a filter or `not in` and without `occurs`, a cheap filter
  pub positional_cheap : (selection : Form) → is_positional selection ≡ true → without_times selection ≡ true → is_cheap_under counts lexicon options selection ≡ true
      → has_cheap_filter lexicon options selection ≡ true
  unfolding is_cheap_under without_times
  positional_cheap (words value) is times h = absurd (true≢false (sym is))
  positional_cheap (or_of forms) is times h = absurd (true≢false (sym is))
  positional_cheap (and_of forms) is times h = absurd (true≢false (sym is))
  positional_cheap (mild_not left right) is times h = absurd (true≢false (sym h))
  positional_cheap (not_of operand) is times h = absurd (true≢false (sym is))
  positional_cheap (filtered operand kind) is times h = elim (or_cases (is_cheap_filter kind && joins_words lexicon options operand) (counts && counts_words operand kind) h) [
    | inl cheap ↦ cheap
    | inr counted ↦ absurd (true≢false (sym times ∙ counted_times counts operand kind counted))
  ]
  positional_cheap (with_options operand inner) is times h = absurd (true≢false (sym is))
