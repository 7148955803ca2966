-- The phrases of the operator of a selection are numbered in the order in which they stand there.
use Rattle.std.proofs.Common.{◌≡◌, refl, subst, ℕ, suc, ◌+◌, List, [], ◌∷◌, Bool, true, false, ◌&&◌, cond, length, arith}
use Rattle.std.specs.Prelude.{fold, map, nat_le, nat_lt}
use Rattle.std.specs.List.{list_all}
use Rattle.std.proofs.lemmas.Bool.{and_from}
use Rattle.std.proofs.lemmas.Bool.Decides.{nat_tests}
use Rattle.ft_base.specs.Lists.{is_empty}
use Rattle.ft_base.specs.declared.options.Options.{Options}
use Rattle.ft_base.specs.declared.token.Token.{Token}
use Rattle.ft_base.specs.declared.words.Mode.{Mode}
use Rattle.ft_base.specs.declared.words.Mode.TheVariants.{Any, AnyWord, All, AllWords, Phrase}
use Rattle.ft_base.specs.declared.words.Words.{Words}
use Rattle.ft_base.specs.Selection.{Form, Forms, words, or_of, and_of, mild_not, not_of, filtered, with_options, none, more}
use Rattle.all_matches.specs.Hits.{Interval, hit_on, intervals_of}
use Rattle.all_matches.specs.Meaning.{inside, phrase_count, phrase_counts, phrases_by, strings_of}
use Rattle.all_matches.specs.Operators.{either_of, together_of, operator_by, phrase_operators, value_operator, operator_of, operators_of}
use Rattle.all_matches.specs.Variants.{Item, Lexicon}
use Rattle.all_matches.specs.Ways.{Operator, phrase, either, together}
use Rattle.match_sets.specs.Numbers.{is_between}
use Rattle.match_sets.specs.United.{IsNumbered}

-- ---- operators that are joined

abbrev AreNumbered : ℕ → ℕ → List Operator → Type 0
AreNumbered first next [] = first ≡ next
AreNumbered first next (operator ∷ rest) = (middle : ℕ) × IsNumbered first middle operator × AreNumbered middle next rest

module _ (join : Operator → Operator → Operator) (joined : (first middle next : ℕ) (left right : Operator) → IsNumbered first middle left → IsNumbered middle next right → IsNumbered first next (join left right)) where
  all_joined : (first middle next : ℕ) (before : Operator) (rest : List Operator) → IsNumbered first middle before → AreNumbered middle next rest → IsNumbered first next (fold join before rest)
  all_joined first middle next before [] one all = subst (λ (n : ℕ). IsNumbered first n before) all one
  all_joined first middle next before (operator ∷ rest) one all = all_joined first all.0 next (join before operator) rest (joined first middle all.0 before operator one all.1) all.2

no_more : (first next : ℕ) → first ≡ next → nat_le first next ≡ true
no_more first next e = grind (arith, nat_tests)

no_less : (first count : ℕ) → nat_le first (first + count) ≡ true
no_less first count = grind (arith, nat_tests)

one_of : (first next : ℕ) (operators : List Operator) → AreNumbered first next operators → IsNumbered first next (either_of operators)
one_of first next [] all = (no_more first next all, refl)
one_of first next (operator ∷ rest) all = all_joined either (λ f m n left right one two. (m, one, two)) first all.0 next operator rest all.1 all.2

each_of : (first next : ℕ) (operators : List Operator) → AreNumbered first next operators → IsNumbered first next (together_of operators)
each_of first next [] all = (no_more first next all, refl)
each_of first next (operator ∷ rest) all = all_joined together (λ f m n left right one two. (m, one, two)) first all.0 next operator rest all.1 all.2

-- ---- words

module _ (lexicon : Lexicon) (options : Options) (tokens : List Token) where
  own_number : (first : ℕ) → (nat_le first first && nat_lt first (first + 1)) ≡ true
  own_number first = grind (arith, nat_tests)

  hits_numbered : (first : ℕ) (found : List Interval) → list_all (λ hit. is_between first (first + 1) hit.query) (map (hit_on tokens first) found) ≡ true
  hits_numbered first [] = refl
  hits_numbered first (interval ∷ rest) = and_from (is_between first (first + 1) first) (list_all (λ hit. is_between first (first + 1) hit.query) (map (hit_on tokens first) rest)) (own_number first) (hits_numbered first rest)

  phrases_numbered : (first : ℕ) (phrases : List (List Item)) → AreNumbered first (first + length phrases) (phrase_operators lexicon options tokens first phrases)
  phrases_numbered first [] = omega arith
  phrases_numbered first (items ∷ rest) =
      let at : (first + 1) + length rest ≡ first + suc (length rest) = omega arith in (
        first + 1,
        (no_less first 1, hits_numbered first (intervals_of lexicon options items tokens)),
        subst (λ (n : ℕ). AreNumbered (first + 1) n (phrase_operators lexicon options tokens (first + 1) rest)) at (phrases_numbered (first + 1) rest),
      )

  by_mode : (mode : Mode) (first : ℕ) (phrases : List (List Item)) → IsNumbered first (first + length phrases) (operator_by mode (phrase_operators lexicon options tokens first phrases))
  by_mode Any first phrases = one_of first (first + length phrases) (phrase_operators lexicon options tokens first phrases) (phrases_numbered first phrases)
  by_mode AnyWord first phrases = one_of first (first + length phrases) (phrase_operators lexicon options tokens first phrases) (phrases_numbered first phrases)
  by_mode All first phrases = each_of first (first + length phrases) (phrase_operators lexicon options tokens first phrases) (phrases_numbered first phrases)
  by_mode AllWords first phrases = each_of first (first + length phrases) (phrase_operators lexicon options tokens first phrases) (phrases_numbered first phrases)
  by_mode Phrase first phrases = one_of first (first + length phrases) (phrase_operators lexicon options tokens first phrases) (phrases_numbered first phrases)

  value_numbered : (first : ℕ) (value : Words) → IsNumbered first (first + length (phrases_by value.mode (strings_of lexicon options value))) (value_operator lexicon options first value tokens)
  value_numbered first value = by_emptiness (list_all is_empty (strings_of lexicon options value))
    where
      by_emptiness : (b : Bool) → IsNumbered first (first + length (phrases_by value.mode (strings_of lexicon options value)))
          (cond b (phrase []) (operator_by value.mode (phrase_operators lexicon options tokens first (phrases_by value.mode (strings_of lexicon options value)))))
      by_emptiness true = (no_less first (length (phrases_by value.mode (strings_of lexicon options value))), refl)
      by_emptiness false = by_mode value.mode first (phrases_by value.mode (strings_of lexicon options value))

-- ---- selections

mutual
  unfolding operator_of phrase_count

  pub operator_numbered : (lexicon : Lexicon) (options : Options) (first : ℕ) (tokens : List Token) (form : Form) → IsNumbered first (first + phrase_count lexicon options form) (operator_of lexicon options first tokens form)
  operator_numbered lexicon options first tokens (words value) = value_numbered lexicon (inside value.options options) tokens first value
  operator_numbered lexicon options first tokens (or_of forms) = one_of first (first + phrase_counts lexicon options forms) (operators_of lexicon options first tokens forms) (operators_numbered lexicon options first tokens forms)
  operator_numbered lexicon options first tokens (and_of forms) = each_of first (first + phrase_counts lexicon options forms) (operators_of lexicon options first tokens forms) (operators_numbered lexicon options first tokens forms)
  operator_numbered lexicon options first tokens (mild_not left right) =
      let own = phrase_count lexicon options left in
      let other = phrase_count lexicon options right in
      let at : (first + own) + other ≡ first + (own + other) = omega arith in (
        first + own,
        operator_numbered lexicon options first tokens left,
        subst (λ (n : ℕ). IsNumbered (first + own) n (operator_of lexicon options (first + own) tokens right)) at (operator_numbered lexicon options (first + own) tokens right),
      )
  operator_numbered lexicon options first tokens (not_of form) = operator_numbered lexicon options first tokens form
  operator_numbered lexicon options first tokens (filtered form kind) = operator_numbered lexicon options first tokens form
  operator_numbered lexicon options first tokens (with_options form inner) = operator_numbered lexicon (inside inner options) first tokens form

  operators_numbered : (lexicon : Lexicon) (options : Options) (first : ℕ) (tokens : List Token) (forms : Forms) → AreNumbered first (first + phrase_counts lexicon options forms) (operators_of lexicon options first tokens forms)
  operators_numbered lexicon options first tokens none = omega arith
  operators_numbered lexicon options first tokens (more form rest) =
      let own = phrase_count lexicon options form in
      let other = phrase_counts lexicon options rest in
      let at : (first + own) + other ≡ first + (own + other) = omega arith in (
        first + own,
        operator_numbered lexicon options first tokens form,
        subst (λ (n : ℕ). AreNumbered (first + own) n (operators_of lexicon options (first + own) tokens rest)) at (operators_numbered lexicon options (first + own) tokens rest),
      )
