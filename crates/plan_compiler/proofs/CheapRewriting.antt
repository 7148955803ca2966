-- A cheap selection is cheap when it is rewritten.
use Rattle.std.proofs.Common.{◌≡◌, refl, sym, ap, subst, ◌∙◌, Bool, true, false, true≢false, cond, ◌&&◌, inl, inr, List, [], ◌∷◌, ◌++◌}
use Rattle.std.specs.Prelude.{flat_map, fold, not}
use Rattle.std.specs.List.{list_all, list_any}
use Rattle.std.proofs.lemmas.Bool.{and_from, and_parts, or_cases, or_left, or_right}
use Rattle.std.proofs.lemmas.List.Folds.{list_all-append}
use Rattle.ft_base.specs.declared.filter.Filter.{Filter}
use Rattle.ft_base.specs.declared.options.Options.{Options}
use Rattle.ft_base.specs.declared.words.Words.{Words}
use Rattle.ft_base.specs.Selection.{no_options, Form, Forms, words, or_of, and_of, mild_not, not_of, filtered, with_options, none, more}
use Rattle.ft_syntax.specs.View.{forms_of}
use Rattle.ft_rewriter.specs.Code.{same_form}
use Rattle.ft_rewriter.specs.Rewriting.{given, each_given, listed, operands_in, with_operand, without_repeats, joined, joined_operands, connected, flattened, each_flattened, simplified, negated, each_simplified, each_negated, rewritten}
use Rattle.ft_rewriter.specs.declared.connective.Connective.{Connective}
use Rattle.ft_rewriter.specs.declared.connective.Connective.TheVariants.{Or, And}
use Rattle.ft_rewriter.proofs.AcceptedRewriting.{counted-flattened, counted-given, times-flattened, times-given}
use Rattle.ft_rewriter.proofs.GivenOptions.{inside_none}
use Rattle.all_matches.specs.Meaning.{inside}
use Rattle.all_matches.specs.Variants.{Lexicon}
use Rattle.plan_compiler.specs.CheapSelections.{are_cheap_under, are_single_words, counts_words, is_cheap_filter, is_cheap_under, is_single_value, is_single_word, joins_words, some_single_words}

module _ (counts : Bool) (lexicon : Lexicon) where
  -- ---- options given to the words

  single_given : (outer : Options) (form : Form) → is_single_word lexicon outer form ≡ true → is_single_word lexicon no_options (given outer form) ≡ true
  unfolding given
  single_given outer (words value) h = ap (λ options. is_single_value lexicon options value) (inside_none (inside value.options outer)) ∙ h
  single_given outer (or_of forms) h = absurd (true≢false (sym h))
  single_given outer (and_of forms) h = absurd (true≢false (sym h))
  single_given outer (mild_not left right) h = absurd (true≢false (sym h))
  single_given outer (not_of form) h = absurd (true≢false (sym h))
  single_given outer (filtered form kind) h = absurd (true≢false (sym h))
  single_given outer (with_options form inner) h = absurd (true≢false (sym h))

  singles_given : (outer : Options) (forms : Forms) → are_single_words lexicon outer forms ≡ true → are_single_words lexicon no_options (each_given outer forms) ≡ true
  unfolding each_given
  singles_given outer none h = refl
  singles_given outer (more form rest) h =
      let parts = and_parts (is_single_word lexicon outer form) (are_single_words lexicon outer rest) h in
      and_from (is_single_word lexicon no_options (given outer form)) (are_single_words lexicon no_options (each_given outer rest)) (single_given outer form parts.0) (singles_given outer rest parts.1)

  some_given : (outer : Options) (forms : Forms) → some_single_words lexicon outer forms ≡ true → some_single_words lexicon no_options (each_given outer forms) ≡ true
  unfolding each_given
  some_given outer none h = absurd (true≢false (sym h))
  some_given outer (more form rest) h = singles_given outer (more form rest) h

  joins_given : (outer : Options) (form : Form) → joins_words lexicon outer form ≡ true → joins_words lexicon no_options (given outer form) ≡ true
  unfolding given
  joins_given outer (words value) h = single_given outer (words value) h
  joins_given outer (or_of forms) h = absurd (true≢false (sym h))
  joins_given outer (and_of forms) h = some_given outer forms h
  joins_given outer (mild_not left right) h = absurd (true≢false (sym h))
  joins_given outer (not_of form) h = absurd (true≢false (sym h))
  joins_given outer (filtered form kind) h = absurd (true≢false (sym h))
  joins_given outer (with_options form inner) h = absurd (true≢false (sym h))

  -- words that are counted

  counts_given : (outer : Options) (form : Form) (kind : Filter) → counts_words (given outer form) kind ≡ counts_words form kind
  counts_given outer form kind = λ i. counted-given outer form kind i && not (times-given outer form i)

  counts_flat : (form : Form) (kind : Filter) → counts_words (flattened form) kind ≡ counts_words form kind
  counts_flat form kind = λ i. counted-flattened form kind i && not (times-flattened form i)

  mutual
    unfolding given is_cheap_under

    cheap_given : (outer : Options) (form : Form) → is_cheap_under counts lexicon outer form ≡ true → is_cheap_under counts lexicon no_options (given outer form) ≡ true
    cheap_given outer (words value) h = refl
    cheap_given outer (or_of forms) h = each_cheap_given outer forms h
    cheap_given outer (and_of forms) h = each_cheap_given outer forms h
    cheap_given outer (mild_not left right) h = absurd (true≢false (sym h))
    cheap_given outer (not_of form) h = cheap_given outer form h
    cheap_given outer (filtered form kind) h = elim (or_cases (is_cheap_filter kind && joins_words lexicon outer form) (counts && counts_words form kind) h) [
      | inl cheap ↦
          let parts = and_parts (is_cheap_filter kind) (joins_words lexicon outer form) cheap in
          or_left (is_cheap_filter kind && joins_words lexicon no_options (given outer form)) (counts && counts_words (given outer form) kind)
          (and_from (is_cheap_filter kind) (joins_words lexicon no_options (given outer form)) parts.0 (joins_given outer form parts.1))
      | inr counted ↦
          or_right (is_cheap_filter kind && joins_words lexicon no_options (given outer form)) (counts && counts_words (given outer form) kind)
          (ap (λ b. counts && b) (counts_given outer form kind) ∙ counted)
    ]
    cheap_given outer (with_options form inner) h = cheap_given (inside inner outer) form h

    each_cheap_given : (outer : Options) (forms : Forms) → are_cheap_under counts lexicon outer forms ≡ true → are_cheap_under counts lexicon no_options (each_given outer forms) ≡ true
    each_cheap_given outer none h = refl
    each_cheap_given outer (more form rest) h =
        let parts = and_parts (is_cheap_under counts lexicon outer form) (are_cheap_under counts lexicon outer rest) h in
        and_from (is_cheap_under counts lexicon no_options (given outer form)) (are_cheap_under counts lexicon no_options (each_given outer rest)) (cheap_given outer form parts.0) (each_cheap_given outer rest parts.1)

  module _ (options : Options) where
    -- ---- operands in the place of their selection, each once

    abbrev all_cheap : List Form → Bool
    all_cheap forms = list_all (is_cheap_under counts lexicon options) forms

    cheap_listed : (forms : Forms) → all_cheap (listed forms) ≡ are_cheap_under counts lexicon options forms
    unfolding is_cheap_under
    cheap_listed none = refl
    cheap_listed (more form rest) = ap (λ b. is_cheap_under counts lexicon options form && b) (cheap_listed rest)

    listed_cheap : (forms : List Form) → are_cheap_under counts lexicon options (forms_of forms) ≡ all_cheap forms
    unfolding is_cheap_under
    listed_cheap [] = refl
    listed_cheap (form ∷ rest) = ap (λ b. is_cheap_under counts lexicon options form && b) (listed_cheap rest)

    one_cheap : (form : Form) → is_cheap_under counts lexicon options form ≡ true → all_cheap (form ∷ []) ≡ true
    one_cheap form h = ap (λ b. b && true) h

    cheap_operands : (c : Connective) (form : Form) → is_cheap_under counts lexicon options form ≡ true → all_cheap (operands_in c form) ≡ true
    unfolding is_cheap_under
    cheap_operands Or (words value) h = one_cheap (words value) h
    cheap_operands Or (or_of forms) h = cheap_listed forms ∙ h
    cheap_operands Or (and_of forms) h = one_cheap (and_of forms) h
    cheap_operands Or (mild_not left right) h = one_cheap (mild_not left right) h
    cheap_operands Or (not_of form) h = one_cheap (not_of form) h
    cheap_operands Or (filtered form kind) h = one_cheap (filtered form kind) h
    cheap_operands Or (with_options form inner) h = one_cheap (with_options form inner) h
    cheap_operands And (words value) h = one_cheap (words value) h
    cheap_operands And (or_of forms) h = one_cheap (or_of forms) h
    cheap_operands And (and_of forms) h = cheap_listed forms ∙ h
    cheap_operands And (mild_not left right) h = one_cheap (mild_not left right) h
    cheap_operands And (not_of form) h = one_cheap (not_of form) h
    cheap_operands And (filtered form kind) h = one_cheap (filtered form kind) h
    cheap_operands And (with_options form inner) h = one_cheap (with_options form inner) h

    cheap_flat : (c : Connective) (forms : List Form) → all_cheap forms ≡ true → all_cheap (flat_map (operands_in c) forms) ≡ true
    cheap_flat c [] h = refl
    cheap_flat c (form ∷ rest) h =
        let parts = and_parts (is_cheap_under counts lexicon options form) (all_cheap rest) h in
        list_all-append (is_cheap_under counts lexicon options) (operands_in c form) (flat_map (operands_in c) rest)
        ∙ and_from (all_cheap (operands_in c form)) (all_cheap (flat_map (operands_in c) rest)) (cheap_operands c form parts.0) (cheap_flat c rest parts.1)

    operand_step : (kept : List Form) (x : Form) (b : Bool) → all_cheap kept ≡ true → is_cheap_under counts lexicon options x ≡ true → all_cheap (cond b kept (kept ++ x ∷ [])) ≡ true
    operand_step kept x true all one = all
    operand_step kept x false all one = list_all-append (is_cheap_under counts lexicon options) kept (x ∷ []) ∙ and_from (all_cheap kept) (all_cheap (x ∷ [])) all (one_cheap x one)

    cheap_kept : (kept forms : List Form) → all_cheap kept ≡ true → all_cheap forms ≡ true → all_cheap (fold with_operand kept forms) ≡ true
    cheap_kept kept [] all h = all
    cheap_kept kept (x ∷ rest) all h =
        let parts = and_parts (is_cheap_under counts lexicon options x) (all_cheap rest) h in
        cheap_kept (with_operand kept x) rest (operand_step kept x (list_any (same_form x) kept) all parts.0) parts.1

    cheap_joined : (c : Connective) (forms : List Form) → all_cheap forms ≡ true → is_cheap_under counts lexicon options (joined_operands c forms) ≡ true
    unfolding is_cheap_under
    cheap_joined Or [] h = refl
    cheap_joined And [] h = refl
    cheap_joined c (x ∷ []) h = (and_parts (is_cheap_under counts lexicon options x) true h).0
    cheap_joined Or (x ∷ y ∷ rest) h = listed_cheap (x ∷ y ∷ rest) ∙ h
    cheap_joined And (x ∷ y ∷ rest) h = listed_cheap (x ∷ y ∷ rest) ∙ h

    cheap_connected : (c : Connective) (forms : List Form) → all_cheap forms ≡ true → is_cheap_under counts lexicon options (connected c forms) ≡ true
    cheap_connected c forms h = cheap_joined c (without_repeats (flat_map (operands_in c) forms)) (cheap_kept [] (flat_map (operands_in c) forms) refl (cheap_flat c forms h))

    -- ---- single words under a filter stay as they are

    single_flat : (forms : Forms) → are_single_words lexicon options forms ≡ true → forms_of (flat_map (operands_in And) (each_flattened forms)) ≡ forms
    unfolding flattened
    single_flat none h = refl
    single_flat (more (words value) rest) h = ap (more (words value)) (single_flat rest (and_parts (is_single_word lexicon options (words value)) (are_single_words lexicon options rest) h).1)
    single_flat (more (or_of forms) rest) h = absurd (true≢false (sym h))
    single_flat (more (and_of forms) rest) h = absurd (true≢false (sym h))
    single_flat (more (mild_not left right) rest) h = absurd (true≢false (sym h))
    single_flat (more (not_of form) rest) h = absurd (true≢false (sym h))
    single_flat (more (filtered form kind) rest) h = absurd (true≢false (sym h))
    single_flat (more (with_options form inner) rest) h = absurd (true≢false (sym h))

    some_flat : (forms : Forms) → some_single_words lexicon options forms ≡ true → forms_of (flat_map (operands_in And) (each_flattened forms)) ≡ forms
    some_flat none h = absurd (true≢false (sym h))
    some_flat (more form rest) h = single_flat (more form rest) h

    joins_flat : (form : Form) → joins_words lexicon options form ≡ true → flattened form ≡ form
    unfolding flattened
    joins_flat (words value) h = refl
    joins_flat (or_of forms) h = absurd (true≢false (sym h))
    joins_flat (and_of forms) h = ap and_of (some_flat forms h)
    joins_flat (mild_not left right) h = absurd (true≢false (sym h))
    joins_flat (not_of form) h = absurd (true≢false (sym h))
    joins_flat (filtered form kind) h = absurd (true≢false (sym h))
    joins_flat (with_options form inner) h = absurd (true≢false (sym h))

    filtered_flat : (form : Form) (kind : Filter) → is_cheap_under counts lexicon options (filtered form kind) ≡ true → is_cheap_under counts lexicon options (flattened (filtered form kind)) ≡ true
    unfolding flattened is_cheap_under
    filtered_flat form kind h = elim (or_cases (is_cheap_filter kind && joins_words lexicon options form) (counts && counts_words form kind) h) [
      | inl cheap ↦
          let parts = and_parts (is_cheap_filter kind) (joins_words lexicon options form) cheap in
          or_left (is_cheap_filter kind && joins_words lexicon options (flattened form)) (counts && counts_words (flattened form) kind)
          (ap (λ own. is_cheap_filter kind && joins_words lexicon options own) (joins_flat form parts.1) ∙ cheap)
      | inr counted ↦
          or_right (is_cheap_filter kind && joins_words lexicon options (flattened form)) (counts && counts_words (flattened form) kind)
          (ap (λ b. counts && b) (counts_flat form kind) ∙ counted)
    ]

  -- ---- `ftnot` moved inwards

  mutual
    unfolding simplified is_cheap_under

    cheap_simplified : (options : Options) (form : Form) → is_cheap_under counts lexicon options form ≡ true → is_cheap_under counts lexicon options (simplified form) ≡ true
    cheap_simplified options (words value) h = refl
    cheap_simplified options (or_of forms) h = cheap_connected options Or (each_simplified forms) (each_cheap_simplified options forms h)
    cheap_simplified options (and_of forms) h = cheap_connected options And (each_simplified forms) (each_cheap_simplified options forms h)
    cheap_simplified options (mild_not left right) h = absurd (true≢false (sym h))
    cheap_simplified options (not_of form) h = cheap_negated options form h
    cheap_simplified options (filtered form kind) h = filtered_flat options form kind h
    cheap_simplified options (with_options form inner) h = cheap_simplified (inside inner options) form h

    cheap_negated : (options : Options) (form : Form) → is_cheap_under counts lexicon options form ≡ true → is_cheap_under counts lexicon options (negated form) ≡ true
    cheap_negated options (words value) h = refl
    cheap_negated options (or_of forms) h = cheap_connected options And (each_negated forms) (each_cheap_negated options forms h)
    cheap_negated options (and_of forms) h = cheap_connected options Or (each_negated forms) (each_cheap_negated options forms h)
    cheap_negated options (mild_not left right) h = absurd (true≢false (sym h))
    cheap_negated options (not_of form) h = cheap_simplified options form h
    cheap_negated options (filtered form kind) h = filtered_flat options form kind h
    cheap_negated options (with_options form inner) h = cheap_simplified (inside inner options) form h

    each_cheap_simplified : (options : Options) (forms : Forms) → are_cheap_under counts lexicon options forms ≡ true → list_all (is_cheap_under counts lexicon options) (each_simplified forms) ≡ true
    each_cheap_simplified options none h = refl
    each_cheap_simplified options (more form rest) h =
        let parts = and_parts (is_cheap_under counts lexicon options form) (are_cheap_under counts lexicon options rest) h in
        and_from (is_cheap_under counts lexicon options (simplified form)) (list_all (is_cheap_under counts lexicon options) (each_simplified rest)) (cheap_simplified options form parts.0) (each_cheap_simplified options rest parts.1)

    each_cheap_negated : (options : Options) (forms : Forms) → are_cheap_under counts lexicon options forms ≡ true → list_all (is_cheap_under counts lexicon options) (each_negated forms) ≡ true
    each_cheap_negated options none h = refl
    each_cheap_negated options (more form rest) h =
        let parts = and_parts (is_cheap_under counts lexicon options form) (are_cheap_under counts lexicon options rest) h in
        and_from (is_cheap_under counts lexicon options (negated form)) (list_all (is_cheap_under counts lexicon options) (each_negated rest)) (cheap_negated options form parts.0) (each_cheap_negated options rest parts.1)

  pub cheap_rewritten : (form : Form) → is_cheap_under counts lexicon no_options form ≡ true → is_cheap_under counts lexicon no_options (rewritten form) ≡ true
  cheap_rewritten form h = cheap_simplified no_options (given no_options form) (cheap_given no_options form h)
