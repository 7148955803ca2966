-- A selection has the same AllMatches when Or inside Or, and And inside And, gave its operands in its place.
use Rattle.std.proofs.Common.{◌≡◌, refl, ap, sym, ◌∙◌, ℕ, ◌+◌, List, [], ◌∷◌, ◌++◌, arith, add_assoc}
use Rattle.std.specs.Prelude.{flat_map, fold}
use Rattle.std.proofs.lemmas.List.Sums.{fold-append}
use Rattle.all_matches.specs.Boolean.{empty_match, ft_not, ft_or, ft_and, satisfied}
use Rattle.all_matches.specs.Filters.{ft_filtered}
use Rattle.all_matches.specs.Meaning.{inside, phrase_count, phrase_counts, all_matches, each_form, sat_under}
use Rattle.all_matches.specs.MildNot.{ft_mild_not}
use Rattle.all_matches.specs.Spans.{whole_text}
use Rattle.all_matches.specs.Variants.{Lexicon}
use Rattle.ft_base.specs.declared.hit.Match.{Match}
use Rattle.ft_base.specs.declared.options.Options.{Options}
use Rattle.ft_base.specs.declared.token.Token.{Token}
use Rattle.ft_base.specs.Selection.{Form, Forms, words, or_of, and_of, mild_not, not_of, filtered, with_options, none, more}
use Rattle.ft_syntax.specs.View.{forms_of}
use Rattle.ft_rewriter.specs.Rewriting.{listed, operands_in, flattened, each_flattened}
use Rattle.ft_rewriter.specs.declared.connective.Connective.{Connective}
use Rattle.ft_rewriter.specs.declared.connective.Connective.TheVariants.{Or, And}
use Rattle.ft_rewriter.proofs.Associative.{and_prefix, or_prefix}

pub forms_of-listed : (forms : Forms) → forms_of (listed forms) ≡ forms
forms_of-listed none = refl
forms_of-listed (more form rest) = ap (more form) (forms_of-listed rest)

joins : Connective → List Match → List Match → List Match
joins Or = ft_or
joins And = ft_and

module _ (lexicon : Lexicon) (options : Options) where
  counts : List Form → ℕ
  counts forms = phrase_counts lexicon options (forms_of forms)

  counts-append : (xs ys : List Form) → counts (xs ++ ys) ≡ counts xs + counts ys
  unfolding counts phrase_count
  counts-append [] ys = omega arith
  counts-append (x ∷ xs) ys = ap (λ n. phrase_count lexicon options x + n) (counts-append xs ys) ∙ sym (add_assoc (phrase_count lexicon options x) (counts xs) (counts ys))

  alone : (form : Form) → counts (form ∷ []) ≡ phrase_count lexicon options form
  unfolding counts phrase_count
  alone form = omega arith

  counts-operands : (c : Connective) (form : Form) → counts (operands_in c form) ≡ phrase_count lexicon options form
  unfolding counts phrase_count
  counts-operands Or (words value) = alone (words value)
  counts-operands Or (or_of forms) = ap (phrase_counts lexicon options) (forms_of-listed forms)
  counts-operands Or (and_of forms) = alone (and_of forms)
  counts-operands Or (mild_not left right) = alone (mild_not left right)
  counts-operands Or (not_of form) = alone (not_of form)
  counts-operands Or (filtered form kind) = alone (filtered form kind)
  counts-operands Or (with_options form inner) = alone (with_options form inner)
  counts-operands And (words value) = alone (words value)
  counts-operands And (or_of forms) = alone (or_of forms)
  counts-operands And (and_of forms) = ap (phrase_counts lexicon options) (forms_of-listed forms)
  counts-operands And (mild_not left right) = alone (mild_not left right)
  counts-operands And (not_of form) = alone (not_of form)
  counts-operands And (filtered form kind) = alone (filtered form kind)
  counts-operands And (with_options form inner) = alone (with_options form inner)

  module _ (tokens : List Token) where
    each : ℕ → List Form → List (List Match)
    each first forms = each_form lexicon options first tokens (forms_of forms)

    each-append : (first : ℕ) (xs ys : List Form) → each first (xs ++ ys) ≡ each first xs ++ each (first + counts xs) ys
    unfolding each counts phrase_count all_matches
    each-append first [] ys = ap (λ n. each n ys) (plus_none first)
      where
        plus_none : (n : ℕ) → n ≡ n + 0
        plus_none n = omega arith
    each-append first (x ∷ xs) ys =
        ap (λ ms. all_matches lexicon options first tokens x ∷ ms) (each-append (first + phrase_count lexicon options x) xs ys
        ∙ ap (λ n. each (first + phrase_count lexicon options x) xs ++ each n ys) (add_assoc first (phrase_count lexicon options x) (counts xs)))

    -- a selection joined to a prefix, by its operands
    joined-operands : (c : Connective) (prefix : List Match) (first : ℕ) (form : Form)
        → fold (joins c) prefix (each first (operands_in c form)) ≡ joins c prefix (all_matches lexicon options first tokens form)
    unfolding joins each all_matches
    joined-operands Or prefix first (words value) = refl
    joined-operands Or prefix first (or_of forms) = ap (λ fs. fold ft_or prefix (each_form lexicon options first tokens fs)) (forms_of-listed forms) ∙ or_prefix prefix (each_form lexicon options first tokens forms)
    joined-operands Or prefix first (and_of forms) = refl
    joined-operands Or prefix first (mild_not left right) = refl
    joined-operands Or prefix first (not_of form) = refl
    joined-operands Or prefix first (filtered form kind) = refl
    joined-operands Or prefix first (with_options form inner) = refl
    joined-operands And prefix first (words value) = refl
    joined-operands And prefix first (or_of forms) = refl
    joined-operands And prefix first (and_of forms) = ap (λ fs. fold ft_and prefix (each_form lexicon options first tokens fs)) (forms_of-listed forms) ∙ and_prefix prefix (each_form lexicon options first tokens forms)
    joined-operands And prefix first (mild_not left right) = refl
    joined-operands And prefix first (not_of form) = refl
    joined-operands And prefix first (filtered form kind) = refl
    joined-operands And prefix first (with_options form inner) = refl

    -- one operand more, where it and the further ones are as before
    one_more : (c : Connective) (prefix : List Match) (first : ℕ) (form flat : Form) (further : List Form) (forms : Forms)
        → all_matches lexicon options first tokens flat ≡ all_matches lexicon options first tokens form
        → phrase_count lexicon options flat ≡ phrase_count lexicon options form
        → ((prefix' : List Match) (first' : ℕ) → fold (joins c) prefix' (each first' further) ≡ fold (joins c) prefix' (each_form lexicon options first' tokens forms))
        → fold (joins c) prefix (each first (operands_in c flat ++ further)) ≡ fold (joins c) prefix (each_form lexicon options first tokens (more form forms))
    unfolding all_matches
    one_more c prefix first form flat further forms same count rest =
        ap (fold (joins c) prefix) (each-append first (operands_in c flat) further)
        ∙ fold-append (joins c) prefix (each first (operands_in c flat)) (each (first + counts (operands_in c flat)) further)
        ∙ ap (λ ms. fold (joins c) ms (each (first + counts (operands_in c flat)) further)) (joined-operands c prefix first flat ∙ ap (joins c prefix) same)
        ∙ ap (λ n. fold (joins c) (joins c prefix (all_matches lexicon options first tokens form)) (each (first + n) further)) (counts-operands c flat ∙ count)
        ∙ rest (joins c prefix (all_matches lexicon options first tokens form)) (first + phrase_count lexicon options form)

-- the phrases are as many as before
counts-further : (lexicon : Lexicon) (options : Options) (c : Connective) (form flat : Form) (further : List Form) (forms : Forms)
    → phrase_count lexicon options flat ≡ phrase_count lexicon options form
    → phrase_counts lexicon options (forms_of further) ≡ phrase_counts lexicon options forms
    → phrase_counts lexicon options (forms_of (operands_in c flat ++ further)) ≡ phrase_counts lexicon options (more form forms)
unfolding counts phrase_count
counts-further lexicon options c form flat further forms count rest =
    counts-append lexicon options (operands_in c flat) further ∙ (λ i. (counts-operands lexicon options c flat ∙ count) i + rest i)

mutual
  unfolding flattened phrase_count

  counts-flattened : (lexicon : Lexicon) (options : Options) (form : Form) → phrase_count lexicon options (flattened form) ≡ phrase_count lexicon options form
  counts-flattened lexicon options (words value) = refl
  counts-flattened lexicon options (or_of forms) = counts-each lexicon options Or forms
  counts-flattened lexicon options (and_of forms) = counts-each lexicon options And forms
  counts-flattened lexicon options (mild_not left right) = λ i. counts-flattened lexicon options left i + counts-flattened lexicon options right i
  counts-flattened lexicon options (not_of form) = counts-flattened lexicon options form
  counts-flattened lexicon options (filtered form kind) = counts-flattened lexicon options form
  counts-flattened lexicon options (with_options form inner) = counts-flattened lexicon (inside inner options) form

  counts-each : (lexicon : Lexicon) (options : Options) (c : Connective) (forms : Forms)
      → phrase_counts lexicon options (forms_of (flat_map (operands_in c) (each_flattened forms))) ≡ phrase_counts lexicon options forms
  counts-each lexicon options c none = refl
  counts-each lexicon options c (more form rest) =
      counts-further lexicon options c form (flattened form) (flat_map (operands_in c) (each_flattened rest)) rest
      (counts-flattened lexicon options form) (counts-each lexicon options c rest)

mutual
  unfolding flattened all_matches joins each

  pub matches-flattened : (lexicon : Lexicon) (options : Options) (first : ℕ) (tokens : List Token) (form : Form)
      → all_matches lexicon options first tokens (flattened form) ≡ all_matches lexicon options first tokens form
  matches-flattened lexicon options first tokens (words value) = refl
  matches-flattened lexicon options first tokens (or_of forms) = matches-each lexicon options tokens Or forms [] first
  matches-flattened lexicon options first tokens (and_of forms) = matches-each lexicon options tokens And forms (empty_match ∷ []) first
  matches-flattened lexicon options first tokens (mild_not left right) =
      λ i. ft_mild_not (matches-flattened lexicon options first tokens left i)
      ((ap (λ n. all_matches lexicon options (first + n) tokens (flattened right)) (counts-flattened lexicon options left)
      ∙ matches-flattened lexicon options (first + phrase_count lexicon options left) tokens right) i)
  matches-flattened lexicon options first tokens (not_of form) = ap ft_not (matches-flattened lexicon options first tokens form)
  matches-flattened lexicon options first tokens (filtered form kind) = ap (ft_filtered kind (whole_text tokens)) (matches-flattened lexicon options first tokens form)
  matches-flattened lexicon options first tokens (with_options form inner) = matches-flattened lexicon (inside inner options) first tokens form

  matches-each : (lexicon : Lexicon) (options : Options) (tokens : List Token) (c : Connective) (forms : Forms) (prefix : List Match) (first : ℕ)
      → fold (joins c) prefix (each lexicon options tokens first (flat_map (operands_in c) (each_flattened forms))) ≡ fold (joins c) prefix (each_form lexicon options first tokens forms)
  matches-each lexicon options tokens c none prefix first = refl
  matches-each lexicon options tokens c (more form rest) prefix first =
      one_more lexicon options tokens c prefix first form (flattened form) (flat_map (operands_in c) (each_flattened rest)) rest
      (matches-flattened lexicon options first tokens form) (counts-flattened lexicon options form) (matches-each lexicon options tokens c rest)

-- so it is satisfied by the same texts
pub sat-flattened : (lexicon : Lexicon) (options : Options) (form : Form) (tokens : List Token) → sat_under lexicon options (flattened form) tokens ≡ sat_under lexicon options form tokens
unfolding sat_under
sat-flattened lexicon options form tokens = ap satisfied (matches-flattened lexicon options 1 tokens form)
