-- The operator of a selection that may stand under a filter, and its ways.
use Rattle.std.proofs.Common.{◌≡◌, refl, ap, sym, ◌∙◌, ℕ, ◌+◌, List, [], ◌∷◌, ◌++◌, Bool, true, false, ◌&&◌}
use Rattle.std.specs.Prelude.{fold, cond, flat_map}
use Rattle.std.specs.List.{list_all, list_any}
use Rattle.std.proofs.lemmas.Bool.{and_parts, and_from}
use Rattle.ft_base.specs.Lists.{is_empty}
use Rattle.ft_base.specs.declared.token.Token.{Token}
use Rattle.ft_base.specs.declared.hit.Hit.{Hit}
use Rattle.ft_base.specs.declared.hit.Match.{Match}
use Rattle.ft_base.specs.declared.options.Options.{Options}
use Rattle.ft_base.specs.declared.words.Words.{Words}
use Rattle.ft_base.specs.declared.words.Mode.{Mode}
use Rattle.ft_base.specs.declared.words.Mode.TheVariants.{Any, AnyWord, All, AllWords, Phrase}
use Rattle.ft_base.specs.Selection.{Form, Forms, words, or_of, and_of, mild_not, not_of, filtered, with_options, none, more}
use Rattle.all_matches.specs.Variants.{Item, Lexicon}
use Rattle.all_matches.specs.Hits.{hits}
use Rattle.all_matches.specs.Spans.{whole_text}
use Rattle.all_matches.specs.Boolean.{is_clean, satisfied, survives}
use Rattle.all_matches.specs.Meaning.{inside, singly, phrases_by, strings_of, phrase_count, all_matches}
use Rattle.all_matches.specs.Ways.{Operator, phrase, either, together, apart, negated, through_filter, without_negation, is_plain, matches_of, ways_of, clean_under}
use Rattle.all_matches.specs.Operators.{either_of, together_of, operator_by, phrase_operators, value_operator, operator_of, operators_of}
use Rattle.all_matches.specs.Allowed.{has_operands, without_times, without_not, each_without_not, has_plain_nots, each_has_plain_nots, may_be_filtered}
use Rattle.all_matches.specs.Chain.{kept_by}
use Rattle.all_matches.proofs.ListTests.{list_any-alike}
use Rattle.all_matches.proofs.OperatorMatches.{operator-matches}
use Rattle.all_matches.proofs.WayLaws.{some_way}

-- ---- operators that are joined

-- what holds of each of some operators holds of them all joined, where it holds of two joined
module _ (holds : Operator → Bool) (join : Operator → Operator → Operator) (keeps : (left right : Operator) → holds left ≡ true → holds right ≡ true → holds (join left right) ≡ true) where
  joined : (first : Operator) (rest : List Operator) → list_all holds (first ∷ rest) ≡ true → holds (fold join first rest) ≡ true
  joined first [] all = (and_parts (holds first) true all).0
  joined first (next ∷ rest) all =
      let one = and_parts (holds first) (holds next && list_all holds rest) all in
      let two = and_parts (holds next) (list_all holds rest) one.1 in
      joined (join first next) rest (and_from (holds (join first next)) (list_all holds rest) (keeps first next one.0 two.0) two.1)

either-all : (holds : Operator → Bool) → holds (phrase []) ≡ true → ((left right : Operator) → holds left ≡ true → holds right ≡ true → holds (either left right) ≡ true)
    → (operators : List Operator) → list_all holds operators ≡ true → holds (either_of operators) ≡ true
either-all holds empty keeps [] all = empty
either-all holds empty keeps (first ∷ rest) all = joined holds either keeps first rest all

both-positive : (left right : Operator) → without_negation left ≡ true → without_negation right ≡ true → (without_negation left && without_negation right) ≡ true
both-positive left right = and_from (without_negation left) (without_negation right)

both-plain : (left right : Operator) → is_plain left ≡ true → is_plain right ≡ true → (is_plain left && is_plain right) ≡ true
both-plain left right = and_from (is_plain left) (is_plain right)

-- ---- words

module _ (lexicon : Lexicon) (options : Options) (tokens : List Token) where
  phrases-positive : (first : ℕ) (phrases : List (List Item)) → list_all without_negation (phrase_operators lexicon options tokens first phrases) ≡ true
  phrases-positive first [] = refl
  phrases-positive first (items ∷ rest) = phrases-positive (first + 1) rest

  some-phrase : (first : ℕ) (phrases : List (List Item)) → without_negation (either_of (phrase_operators lexicon options tokens first phrases)) ≡ true
  some-phrase first phrases = either-all without_negation refl both-positive (phrase_operators lexicon options tokens first phrases) (phrases-positive first phrases)

  first-phrase : (first : ℕ) (items : List Item) (rest : List (List Item)) → without_negation (together_of (phrase_operators lexicon options tokens first (items ∷ rest))) ≡ true
  first-phrase first items rest =
      joined without_negation together both-positive (phrase (hits lexicon options first items tokens)) (phrase_operators lexicon options tokens (first + 1) rest) (phrases-positive first (items ∷ rest))

  each-phrase : (first : ℕ) (strings : List (List Item)) → list_all is_empty strings ≡ false → without_negation (together_of (phrase_operators lexicon options tokens first strings)) ≡ true
  each-phrase first [] e = cc
  each-phrase first (items ∷ rest) e = first-phrase first items rest

  each-word : (first : ℕ) (strings : List (List Item)) → list_all is_empty strings ≡ false
      → without_negation (together_of (phrase_operators lexicon options tokens first (singly (flat_map (λ string. string) strings)))) ≡ true
  each-word first [] e = cc
  each-word first ([] ∷ rest) e = each-word first rest e
  each-word first ((item ∷ items) ∷ rest) e = first-phrase first (item ∷ []) (singly (items ++ flat_map (λ string. string) rest))

  each-mode : (mode : Mode) (first : ℕ) (strings : List (List Item)) → list_all is_empty strings ≡ false
      → without_negation (operator_by mode (phrase_operators lexicon options tokens first (phrases_by mode strings))) ≡ true
  each-mode Any first strings e = some-phrase first strings
  each-mode AnyWord first strings e = some-phrase first (singly (flat_map (λ string. string) strings))
  each-mode All first strings e = each-phrase first strings e
  each-mode AllWords first strings e = each-word first strings e
  each-mode Phrase first strings e = some-phrase first (flat_map (λ string. string) strings ∷ [])

  pub value-positive : (first : ℕ) (value : Words) → without_negation (value_operator lexicon options first value tokens) ≡ true
  value-positive first value = by_emptiness (list_all is_empty (strings_of lexicon options value)) refl
    where
      by_emptiness : (b : Bool) → list_all is_empty (strings_of lexicon options value) ≡ b
          → without_negation (cond b (phrase []) (operator_by value.mode (phrase_operators lexicon options tokens first (phrases_by value.mode (strings_of lexicon options value))))) ≡ true
      by_emptiness true e = refl
      by_emptiness false e = each-mode value.mode first (strings_of lexicon options value) e

-- ---- selections without `ftnot`

together-positive : (lexicon : Lexicon) (options : Options) (first : ℕ) (tokens : List Token) (forms : Forms) → has_operands forms ≡ true
    → list_all without_negation (operators_of lexicon options first tokens forms) ≡ true → without_negation (together_of (operators_of lexicon options first tokens forms)) ≡ true
unfolding operator_of
together-positive lexicon options first tokens none some all = cc
together-positive lexicon options first tokens (more form rest) some all =
    joined without_negation together both-positive (operator_of lexicon options first tokens form) (operators_of lexicon options (first + phrase_count lexicon options form) tokens rest) all

mutual
  unfolding operator_of without_not

  pub positive : (lexicon : Lexicon) (options : Options) (first : ℕ) (tokens : List Token) (form : Form) → without_not form ≡ true
      → without_negation (operator_of lexicon options first tokens form) ≡ true
  positive lexicon options first tokens (words value) h = value-positive lexicon (inside value.options options) tokens first value
  positive lexicon options first tokens (or_of forms) h =
      either-all without_negation refl both-positive (operators_of lexicon options first tokens forms) (each-positive lexicon options first tokens forms h)
  positive lexicon options first tokens (and_of forms) h =
      let parts = and_parts (has_operands forms) (each_without_not forms) h in
      together-positive lexicon options first tokens forms parts.0 (each-positive lexicon options first tokens forms parts.1)
  positive lexicon options first tokens (mild_not left right) h =
      let parts = and_parts (without_not left) (without_not right) h in
      λ i. positive lexicon options first tokens left parts.0 i && positive lexicon options (first + phrase_count lexicon options left) tokens right parts.1 i
  positive lexicon options first tokens (not_of form) h = cc
  positive lexicon options first tokens (filtered form kind) h = positive lexicon options first tokens form h
  positive lexicon options first tokens (with_options form inner) h = positive lexicon (inside inner options) first tokens form h

  each-positive : (lexicon : Lexicon) (options : Options) (first : ℕ) (tokens : List Token) (forms : Forms) → each_without_not forms ≡ true
      → list_all without_negation (operators_of lexicon options first tokens forms) ≡ true
  each-positive lexicon options first tokens none h = refl
  each-positive lexicon options first tokens (more form rest) h =
      let parts = and_parts (without_not form) (each_without_not rest) h in
      λ i. positive lexicon options first tokens form parts.0 i && each-positive lexicon options (first + phrase_count lexicon options form) tokens rest parts.1 i

-- ---- selections with `ftnot` in nothing but Or, And and filters

pub plain-positive : (operator : Operator) → without_negation operator ≡ true → is_plain operator ≡ true
plain-positive (phrase found) h = refl
plain-positive (either left right) h = let parts = and_parts (without_negation left) (without_negation right) h in λ i. plain-positive left parts.0 i && plain-positive right parts.1 i
plain-positive (together left right) h = let parts = and_parts (without_negation left) (without_negation right) h in λ i. plain-positive left parts.0 i && plain-positive right parts.1 i
plain-positive (apart left right) h = h
plain-positive (negated operand) h = cc
plain-positive (through_filter operand kind) h = plain-positive operand h

together-plain : (operators : List Operator) → list_all is_plain operators ≡ true → is_plain (together_of operators) ≡ true
together-plain [] all = refl
together-plain (first ∷ rest) all = joined is_plain together both-plain first rest all

mutual
  unfolding operator_of has_plain_nots

  pub plain : (lexicon : Lexicon) (options : Options) (first : ℕ) (tokens : List Token) (form : Form) → has_plain_nots form ≡ true
      → is_plain (operator_of lexicon options first tokens form) ≡ true
  plain lexicon options first tokens (words value) h =
      plain-positive (value_operator lexicon (inside value.options options) first value tokens) (value-positive lexicon (inside value.options options) tokens first value)
  plain lexicon options first tokens (or_of forms) h =
      either-all is_plain refl both-plain (operators_of lexicon options first tokens forms) (each-plain lexicon options first tokens forms h)
  plain lexicon options first tokens (and_of forms) h = together-plain (operators_of lexicon options first tokens forms) (each-plain lexicon options first tokens forms h)
  plain lexicon options first tokens (mild_not left right) h =
      let parts = and_parts (without_not left) (without_not right) h in
      λ i. positive lexicon options first tokens left parts.0 i && positive lexicon options (first + phrase_count lexicon options left) tokens right parts.1 i
  plain lexicon options first tokens (not_of form) h = positive lexicon options first tokens form h
  plain lexicon options first tokens (filtered form kind) h = plain lexicon options first tokens form h
  plain lexicon options first tokens (with_options form inner) h = plain lexicon (inside inner options) first tokens form h

  each-plain : (lexicon : Lexicon) (options : Options) (first : ℕ) (tokens : List Token) (forms : Forms) → each_has_plain_nots forms ≡ true
      → list_all is_plain (operators_of lexicon options first tokens forms) ≡ true
  each-plain lexicon options first tokens none h = refl
  each-plain lexicon options first tokens (more form rest) h =
      let parts = and_parts (has_plain_nots form) (each_has_plain_nots rest) h in
      λ i. plain lexicon options first tokens form parts.0 i && each-plain lexicon options (first + phrase_count lexicon options form) tokens rest parts.1 i

-- ---- ways

pub clean-survives : (m : Match) → is_clean m ≡ survives (kept_by []) m
clean-survives m = each m.excludes m.includes
  where
    each : (excludes includes : List Hit) → is_clean (record { includes = includes; excludes = excludes }) ≡ survives (kept_by []) (record { includes = includes; excludes = excludes })
    each [] includes = refl
    each (hit ∷ rest) includes = refl

pub some_clean_way : (lexicon : Lexicon) (options : Options) (first : ℕ) (tokens : List Token) (form : Form) → may_be_filtered form ≡ true
    → satisfied (all_matches lexicon options first tokens form) ≡ list_any (clean_under (kept_by [])) (ways_of (whole_text tokens) (operator_of lexicon options first tokens form))
some_clean_way lexicon options first tokens form h =
    let parts = and_parts (without_times form) (has_plain_nots form) h in
    ap satisfied (sym (operator-matches lexicon options first tokens form parts.0))
    ∙ list_any-alike is_clean (survives (kept_by [])) (matches_of (whole_text tokens) (operator_of lexicon options first tokens form)) clean-survives
    ∙ some_way (whole_text tokens) (operator_of lexicon options first tokens form) (kept_by []) (plain lexicon options first tokens form parts.1)
