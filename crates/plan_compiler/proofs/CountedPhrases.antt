-- The hits of compiled phrases of words are those of the words, at their price.
use Rattle.std.proofs.Common.{◌≡◌, refl, ap, sym, ◌∙◌, ℕ, ◌+◌, Bool, true, false, true≢false, List, [], ◌∷◌, ◌++◌, map, length, arith}
use Rattle.std.specs.Prelude.{filter, flat_map, if◌then◌else◌}
use Rattle.std.specs.List.{list_all, sum_by}
use Rattle.std.proofs.lemmas.List.Sums.{sum_by-cons}
use Rattle.ft_base.specs.Lists.{is_empty}
use Rattle.ft_base.specs.declared.hit.Hit.{Hit}
use Rattle.ft_base.specs.declared.options.Options.{Options}
use Rattle.ft_base.specs.declared.token.Token.{Token}
use Rattle.ft_base.specs.declared.words.Words.{Words}
use Rattle.all_matches.specs.Hits.{Interval, hit_on, hits, intervals}
use Rattle.all_matches.specs.Meaning.{phrases_by, strings_of}
use Rattle.all_matches.specs.Operators.{phrase_operators}
use Rattle.all_matches.specs.Variants.{Item}
use Rattle.all_matches.specs.Ways.{Operator, phrase, either, together, apart, negated, through_filter}
use Rattle.counted_shapes.specs.Shapes.{phrase_hits, value_hits}
use Rattle.match_options.specs.Items.{items_of}
use Rattle.plan_compiler.specs.CompiledCounts.{ValueCounts}
use Rattle.plan_compiler.specs.CompiledOperators.{PhrasesCompileTo}
use Rattle.plan_compiler.specs.CompiledSelection.{compiled_price}
use Rattle.plan_compiler.specs.CountedPlans.{hits_of_phrases, phrases_cost}
use Rattle.plan_compiler.specs.Lexicon.{lexicon}
use Rattle.plan_compiler.specs.NamedLists.{NamedLists}
use Rattle.plan_compiler.specs.NodeCosts.{operator_cost}
use Rattle.plan_compiler.specs.Operators.{LookedText, hits_by_tests, looked_text, operator_at}
use Rattle.plan_compiler.specs.Price.{phrase_price}
use Rattle.plan_compiler.specs.ReadingMeaning.{Reads}
use Rattle.plan_compiler.specs.declared.item_matching.ItemTest.{ItemTest}
use Rattle.plan_compiler.specs.declared.operator_plan.OperatorPlan.{OperatorPlan}
use Rattle.plan_compiler.specs.declared.operator_plan.OperatorPlan as O
use Rattle.plan_compiler.specs.declared.operator_plan.PhraseTests.{PhraseTests}
use Rattle.plan_compiler.specs.declared.reading.Reading.{Reading}
use Rattle.plan_compiler.proofs.OperatorViews.{at_Phrase, cost_Phrase}
use Rattle.plan_compiler.proofs.PhraseOperators.{none_empty, strings_same}

-- the hits of an operator that is one phrase
abbrev hits_in : Operator → List Hit
hits_in (phrase found) = found
hits_in (either left right) = []
hits_in (together left right) = []
hits_in (apart left right) = []
hits_in (negated operand) = []
hits_in (through_filter operand kind) = []

tests_hits : (text : LookedText) (found : List PhraseTests) → flat_map hits_in (map (operator_at text) (map O.Phrase found)) ≡ hits_of_phrases text found
tests_hits text [] = refl
tests_hits text (one ∷ rest) = λ i. hits_in (at_Phrase text one i) ++ tests_hits text rest i

phrases_cost_as : (cost : ItemTest → ℕ) (found : List PhraseTests) → sum_by (operator_cost cost) (map O.Phrase found) ≡ phrases_cost cost found
phrases_cost_as cost [] = refl
phrases_cost_as cost (one ∷ rest) =
    sum_by-cons (operator_cost cost) (O.Phrase one) (map O.Phrase rest)
    ∙ (λ i. cost_Phrase cost one i + phrases_cost_as cost rest i)
    ∙ sym (sum_by-cons (λ (own : PhraseTests). sum_by (sum_by cost) own.variants) one rest)

no_interval : (found : List Interval) → filter (λ (interval : Interval). false) found ≡ []
no_interval [] = refl
no_interval (interval ∷ rest) = no_interval rest

module _ (lists : NamedLists) (options : Options) (tokens : List Token) where
  operators_hits : (first : ℕ) (phrases : List (List Item))
      → flat_map hits_in (phrase_operators (lexicon lists) options tokens first phrases) ≡ phrase_hits (lexicon lists) options first phrases tokens
  operators_hits first [] = refl
  operators_hits first (items ∷ rest) = ap (λ more. hits (lexicon lists) options first items tokens ++ more) (operators_hits (first + 1) rest)

  -- phrases without words stand nowhere
  empty_hits : (first : ℕ) (phrases : List (List Item)) → list_all is_empty phrases ≡ true → phrase_hits (lexicon lists) options first phrases tokens ≡ []
  empty_hits first [] h = refl
  empty_hits first ([] ∷ rest) h = λ i. map (hit_on tokens first) (no_interval (intervals (length tokens)) i) ++ empty_hits (first + 1) rest h i
  empty_hits first ((item ∷ items) ∷ rest) h = absurd (true≢false (sym h))

  hits_by_phrases : (value : Words)
      → phrase_hits (lexicon lists) options 1 (phrases_by value.mode (strings_of (lexicon lists) options value)) tokens ≡ value_hits (lexicon lists) options value tokens
  hits_by_phrases value = by_test (list_all is_empty strings) refl
    where
      strings : List (List Item)
      strings = strings_of (lexicon lists) options value

      by_test : (b : Bool) → list_all is_empty strings ≡ b → phrase_hits (lexicon lists) options 1 (phrases_by value.mode strings) tokens
          ≡ (if list_all is_empty strings then [] else phrase_hits (lexicon lists) options 1 (phrases_by value.mode strings) tokens)
      by_test true e =
          empty_hits 1 (phrases_by value.mode strings) (none_empty value.mode strings ∙ e)
          ∙ sym (ap (λ (b : Bool). if b then [] else phrase_hits (lexicon lists) options 1 (phrases_by value.mode strings) tokens) e)
      by_test false e = sym (ap (λ (b : Bool). if b then [] else phrase_hits (lexicon lists) options 1 (phrases_by value.mode strings) tokens) e)

pub value_counts : (lists : NamedLists) (options : Options) (reading : Reading) → Reads reading lists options → (value : Words) (next : ℕ) (found : List PhraseTests)
    → PhrasesCompileTo reading 1 next (map O.Phrase found) (phrases_by value.mode (map (items_of reading.wildcards) value.values)) → ValueCounts lists options found value
value_counts lists options reading reads value next found all = record {
  same = λ looks tokens served.
      let text = looked_text looks lists.stems tokens in
      sym (tests_hits text found)
      ∙ ap (flat_map hits_in) (all.same lists options reads looks tokens served)
      ∙ operators_hits lists options tokens 1 (phrases_by value.mode (map (items_of reading.wildcards) value.values))
      ∙ ap (λ strings. phrase_hits (lexicon lists) options 1 (phrases_by value.mode strings) tokens) (strings_same lists options reading reads value)
      ∙ hits_by_phrases lists options tokens value;
  price = λ looks terms text served.
      let most = all.price lists options reads looks terms text served in
      let own = phrases_cost_as (compiled_price looks lists.stems terms text) found in
      let whole = ap (λ strings. sum_by (phrase_price (lexicon lists) options terms text) (phrases_by value.mode strings)) (strings_same lists options reading reads value) in
      omega (arith, most, own, whole);
}
