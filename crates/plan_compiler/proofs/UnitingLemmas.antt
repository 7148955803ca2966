-- Plans whose choices of phrases are united say of each text what the plans say, and their tests cost the same.
use Rattle.std.proofs.Common.{◌≡◌, refl, ap, sym, subst, ◌∙◌, ℕ, suc, ◌+◌, ◌-◌, Bool, true, false, true≢false, cond, ◌&&◌, ◌||◌, Option, Some, None, arith, List, [], ◌∷◌, ◌++◌, map, length, Box, Global}
use Rattle.std.specs.Prelude.{filter, is_some}
use Rattle.std.specs.List.{list_any, sum_by}
use Rattle.std.proofs.lemmas.Bool.{and_from, and_parts, eq-eqb}
use Rattle.std.proofs.lemmas.List.{map-append}
use Rattle.std.proofs.lemmas.List.Folds.{list_any-append}
use Rattle.std.proofs.lemmas.List.Sums.{sum_by-append}
use Rattle.ft_base.specs.declared.filter.Filter.{Filter}
use Rattle.ft_base.specs.declared.hit.Hit.{Hit}
use Rattle.all_matches.specs.Hits.{Interval, hit_on, intervals}
use Rattle.all_matches.specs.Spans.{whole_text}
use Rattle.all_matches.specs.Ways.{phrase, through_filter, is_plain}
use Rattle.all_matches.proofs.ListTests.{list_any-alike, list_any-map}
use Rattle.all_matches.proofs.WayLaws.{any_or}
use Rattle.match_sets.specs.United.{IsNumbered, IsOnePhrase, choice_hits, is_choice, with_number}
use Rattle.match_sets.specs.United as U
use Rattle.match_sets.proofs.AlikeLemmas.{any_filter}
use Rattle.match_sets.proofs.UnitedLemmas.{plain_same, satisfied_same}
use Rattle.plan_compiler.specs.CheapPlans.{is_cheap_operator, is_word, last_word, number_after, word_number}
use Rattle.plan_compiler.specs.CheapSelections.{is_cheap_filter}
use Rattle.plan_compiler.specs.NodeCosts.{operator_cost}
use Rattle.plan_compiler.specs.Operators.{LookedText, hits_by_tests, operator_at, satisfied_over, stand_on, words_on}
use Rattle.plan_compiler.specs.steps.Uniting.{Unites, UnitesBoth, IsUnited, a_phrase, of_phrases, choice, both, mild_not, negated, filtered, is_phrase, one_phrase}
use Rattle.plan_compiler.specs.declared.item_matching.ItemTest.{ItemTest}
use Rattle.plan_compiler.specs.declared.operator_plan.OperatorPlan.{OperatorPlan}
use Rattle.plan_compiler.specs.declared.operator_plan.OperatorPlan as O
use Rattle.plan_compiler.specs.declared.operator_plan.OperatorSides.{OperatorSides}
use Rattle.plan_compiler.specs.declared.operator_plan.PhraseTests.{PhraseTests}

-- ---- sides that were put into a box

module _ (first middle next : ℕ) (before made : Box OperatorSides Global) (sides : OperatorSides) (is : made.value ≡ sides) (two : UnitesBoth first middle next before.value sides) where
  left_boxed : Unites first middle before.value.left made.value.left
  left_boxed = subst (λ (s : OperatorSides). Unites first middle before.value.left s.left) (sym is) two.left

  right_boxed : Unites middle next before.value.right made.value.right
  right_boxed = subst (λ (s : OperatorSides). Unites middle next before.value.right s.right) (sym is) two.right

  pub choice_boxed : (is_phrase sides.left && is_phrase sides.right) ≡ false → Unites first next (O.Choice before) (O.Choice made)
  choice_boxed h = choice first middle next before made left_boxed right_boxed (ap (λ (s : OperatorSides). is_phrase s.left && is_phrase s.right) is ∙ h)

  pub both_boxed : Unites first next (O.Both before) (O.Both made)
  both_boxed = both first middle next before made left_boxed right_boxed

  pub mild_not_boxed : Unites first next (O.MildNot before) (O.MildNot made)
  mild_not_boxed = mild_not first middle next before made left_boxed right_boxed

-- ---- over a text

module _ (text : LookedText) where
  -- the number of a phrase is told by its hits alone
  hits_again : (number other : ℕ) (variants : List (List ItemTest)) → map (with_number number) (hits_by_tests text other variants) ≡ hits_by_tests text number variants
  hits_again number other variants = each (filter (λ interval. list_any (λ tests. stand_on tests (words_on text interval)) variants) (intervals (length text.tokens)))
    where
      each : (found : List Interval) → map (with_number number) (map (hit_on text.tokens other) found) ≡ map (hit_on text.tokens number) found
      each [] = refl
      each (interval ∷ rest) = ap (λ hits. hit_on text.tokens number interval ∷ hits) (each rest)

  abbrev stands : List (List ItemTest) → Interval → Bool
  stands variants interval = list_any (λ tests. stand_on tests (words_on text interval)) variants

  some_hit : (test : Hit → Bool) (number : ℕ) (variants : List (List ItemTest))
      → list_any test (hits_by_tests text number variants) ≡ list_any (λ interval. stands variants interval && test (hit_on text.tokens number interval)) (intervals (length text.tokens))
  some_hit test number variants =
      list_any-map test (hit_on text.tokens number) (filter (stands variants) (intervals (length text.tokens)))
      ∙ any_filter (λ interval. test (hit_on text.tokens number interval)) (stands variants) (intervals (length text.tokens))

  either_and : (a b c : Bool) → ((a || b) && c) ≡ ((a && c) || (b && c))
  either_and true b true = refl
  either_and true true false = refl
  either_and true false false = refl
  either_and false b c = refl

  -- of the variants of two phrases some stands where some of one of them does
  more_variants : (test : Hit → Bool) (number : ℕ) (own other : List (List ItemTest))
      → (list_any test (hits_by_tests text number own) || list_any test (hits_by_tests text number other)) ≡ list_any test (hits_by_tests text number (own ++ other))
  more_variants test number own other =
      (λ i. some_hit test number own i || some_hit test number other i)
      ∙ any_or (λ interval. stands own interval && test (hit_on text.tokens number interval)) (λ interval. stands other interval && test (hit_on text.tokens number interval)) (intervals (length text.tokens))
      ∙ sym (list_any-alike (λ interval. stands (own ++ other) interval && test (hit_on text.tokens number interval))
      (λ interval. (stands own interval && test (hit_on text.tokens number interval)) || (stands other interval && test (hit_on text.tokens number interval))) (intervals (length text.tokens))
      (λ interval.
      ap (λ t. t && test (hit_on text.tokens number interval)) (list_any-append (λ tests. stand_on tests (words_on text interval)) own other)
      ∙ either_and (stands own interval) (stands other interval) (test (hit_on text.tokens number interval))))
      ∙ sym (some_hit test number (own ++ other))

  record IsPhraseOf (first next : ℕ) (plan : OperatorPlan) (found : PhraseTests) : Type 0 where
    number : found.number ≡ first
    next_one : next ≡ suc first
    one : IsOnePhrase first (operator_at text plan) (hits_by_tests text first found.variants)

  phrase_of : (first next : ℕ) (plan : OperatorPlan) (found : PhraseTests) → Unites first next plan (O.Phrase found) → IsPhraseOf first next plan found
  unfolding operator_at
  phrase_of first next plan found (a_phrase _ _ own e) = record {
    number = refl;
    next_one = e;
    one = record { of_phrases = refl; same_hits = λ test. ap (list_any test) (hits_again first own.number own.variants) };
  }
  phrase_of first next plan found (of_phrases _ _ last sides own other left right) =
      let one = phrase_of first next sides.value.left own left in
      let two = phrase_of next last sides.value.right other right in
      let lefts = choice_hits (operator_at text sides.value.left) in
      let rights = choice_hits (operator_at text sides.value.right) in
      record {
        number = one.number;
        next_one = one.next_one;
        one = record {
          of_phrases = λ i. one.one.of_phrases i && two.one.of_phrases i;
          same_hits = λ test.
              ap (list_any test) (map-append (with_number first) lefts rights)
              ∙ list_any-append test (map (with_number first) lefts) (map (with_number first) rights)
              ∙ (λ i. one.one.same_hits test i || renumbered test next rights (hits_by_tests text next other.variants) two.one.same_hits i)
              ∙ ap (λ hits. list_any test (hits_by_tests text first own.variants) || list_any test hits) (hits_again first next other.variants)
              ∙ more_variants test first own.variants other.variants;
        };
      }
    where
      renumbered : (test : Hit → Bool) (number : ℕ) (hits found : List Hit) → ((test : Hit → Bool) → list_any test (map (with_number number) hits) ≡ list_any test found)
          → list_any test (map (with_number first) hits) ≡ list_any test (map (with_number first) found)
      renumbered test number hits found same =
          list_any-map test (with_number first) hits
          ∙ sym (list_any-map (λ hit. test (with_number first hit)) (with_number number) hits)
          ∙ same (λ hit. test (with_number first hit))
          ∙ sym (list_any-map test (with_number first) found)

  united_at : (first next : ℕ) (plan made : OperatorPlan) → Unites first next plan made → U.IsUnited first next (operator_at text plan) (operator_at text made)
  unfolding operator_at
  united_at first next plan made (a_phrase _ _ found e) =
      subst (λ (n : ℕ). U.IsUnited first n (operator_at text (O.Phrase found)) (phrase (hits_by_tests text first found.variants))) (sym e)
      (U.one_phrase first (operator_at text (O.Phrase found)) (hits_by_tests text first found.variants) (record { of_phrases = refl; same_hits = λ test. ap (list_any test) (hits_again first found.number found.variants) }))
  united_at first next plan made (of_phrases _ _ last sides found other left right) =
      let one = phrase_of first next (O.Choice sides) (one_phrase found other) (of_phrases first next last sides found other left right) in
      subst (λ (n : ℕ). U.IsUnited first n (operator_at text (O.Choice sides)) (phrase (hits_by_tests text found.number (found.variants ++ other.variants)))) (sym one.next_one)
      (subst (λ (number : ℕ). U.IsUnited first (suc first) (operator_at text (O.Choice sides)) (phrase (hits_by_tests text number (found.variants ++ other.variants)))) (sym one.number)
      (U.one_phrase first (operator_at text (O.Choice sides)) (hits_by_tests text first (found.variants ++ other.variants)) one.one))
  united_at first next plan made (choice _ middle _ sides own left right h) =
      U.one_side first middle next (operator_at text sides.value.left) (operator_at text sides.value.right) (operator_at text own.value.left) (operator_at text own.value.right)
      (united_at first middle sides.value.left own.value.left left) (united_at middle next sides.value.right own.value.right right)
  united_at first next plan made (both _ middle _ sides own left right) =
      U.both_sides first middle next (operator_at text sides.value.left) (operator_at text sides.value.right) (operator_at text own.value.left) (operator_at text own.value.right)
      (united_at first middle sides.value.left own.value.left left) (united_at middle next sides.value.right own.value.right right)
  united_at first next plan made (mild_not _ middle _ sides own left right) =
      U.without_side first middle next (operator_at text sides.value.left) (operator_at text sides.value.right) (operator_at text own.value.left) (operator_at text own.value.right)
      (united_at first middle sides.value.left own.value.left left) (united_at middle next sides.value.right own.value.right right)
  united_at first next plan made (negated _ _ operand own one) =
      U.of_negated first next (operator_at text operand.value.operand) (operator_at text own.value.operand) (united_at first next operand.value.operand own.value.operand one)
  united_at first next plan made (filtered _ _ operand own one kind) =
      subst (λ (k : Filter). U.IsUnited first next (through_filter (operator_at text operand.value.operand) operand.value.kind) (through_filter (operator_at text own.value.operand) k)) (sym kind)
      (U.of_filtered first next (operator_at text operand.value.operand) (operator_at text own.value.operand) operand.value.kind (united_at first next operand.value.operand own.value.operand one))

  pub united_plain : (plan made : OperatorPlan) → IsUnited plan made → is_plain (operator_at text made) ≡ is_plain (operator_at text plan)
  united_plain plan made united = plain_same 1 united.0 (operator_at text plan) (operator_at text made) (united_at 1 united.0 plan made united.1)

  pub united_satisfied : (plan made : OperatorPlan) → IsUnited plan made → (first next : ℕ) → IsNumbered first next (operator_at text plan) → is_plain (operator_at text plan) ≡ true
      → satisfied_over text.tokens (operator_at text made) ≡ satisfied_over text.tokens (operator_at text plan)
  united_satisfied plan made united first next numbered plain =
      satisfied_same (whole_text text.tokens) first next 1 united.0 (operator_at text plan) (operator_at text made) numbered (united_at 1 united.0 plan made united.1) plain

-- ---- what their tests cost

module _ (cost : ItemTest → ℕ) where
  cost_same : (first next : ℕ) (plan made : OperatorPlan) → Unites first next plan made → operator_cost cost made ≡ operator_cost cost plan
  unfolding operator_cost
  cost_same first next plan made (a_phrase _ _ found e) = refl
  cost_same first next plan made (of_phrases _ _ last sides found other left right) =
      sum_by-append (sum_by cost) found.variants other.variants
      ∙ (λ i. cost_same first next sides.value.left (O.Phrase found) left i + cost_same next last sides.value.right (O.Phrase other) right i)
  cost_same first next plan made (choice _ middle _ sides own left right h) = λ i. cost_same first middle sides.value.left own.value.left left i + cost_same middle next sides.value.right own.value.right right i
  cost_same first next plan made (both _ middle _ sides own left right) = λ i. cost_same first middle sides.value.left own.value.left left i + cost_same middle next sides.value.right own.value.right right i
  cost_same first next plan made (mild_not _ middle _ sides own left right) = λ i. cost_same first middle sides.value.left own.value.left left i + cost_same middle next sides.value.right own.value.right right i
  cost_same first next plan made (negated _ _ operand own one) = cost_same first next operand.value.operand own.value.operand one
  cost_same first next plan made (filtered _ _ operand own one kind) = cost_same first next operand.value.operand own.value.operand one

  pub united_cost : (plan made : OperatorPlan) → IsUnited plan made → operator_cost cost made ≡ operator_cost cost plan
  united_cost plan made united = cost_same 1 united.0 plan made united.1

-- ---- single words

-- a single word stays one, with the first number
word_kept : (first next : ℕ) (plan made : OperatorPlan) → Unites first next plan made → is_some (word_number plan) ≡ true → (word_number made ≡ Some first) × (next ≡ suc first)
word_kept first next plan made (a_phrase _ _ found e) h = (by_word (is_word found) h, e)
  where
    by_word : (b : Bool) → is_some (cond b (Some found.number) None) ≡ true → cond b (Some first) None ≡ Some first
    by_word true is = refl
    by_word false is = absurd (true≢false (sym is))
word_kept first next plan made (of_phrases _ _ last sides found other left right) h = absurd (true≢false (sym h))
word_kept first next plan made (choice _ middle _ sides own left right e) h = absurd (true≢false (sym h))
word_kept first next plan made (both _ middle _ sides own left right) h = absurd (true≢false (sym h))
word_kept first next plan made (mild_not _ middle _ sides own left right) h = absurd (true≢false (sym h))
word_kept first next plan made (negated _ _ operand own one) h = absurd (true≢false (sym h))
word_kept first next plan made (filtered _ _ operand own one kind) h = absurd (true≢false (sym h))

both_there : (last next : Option ℕ) → is_some (number_after last next) ≡ true → (is_some last ≡ true) × (is_some next ≡ true)
both_there None next h = absurd (true≢false (sym h))
both_there (Some last) None h = absurd (true≢false (sym h))
both_there (Some last) (Some next) h = (refl, refl)

-- single words that are joined stay so, the last with the number before the next
words_kept : (first next : ℕ) (plan made : OperatorPlan) → Unites first next plan made → is_some (last_word plan) ≡ true
    → (last : ℕ) × ((last_word made ≡ Some last) × (next ≡ suc last))
unfolding last_word
words_kept first next plan made (a_phrase _ _ found e) h = let one = word_kept first next (O.Phrase found) made (a_phrase first next found e) h in (first, (one.0, e))
words_kept first next plan made (of_phrases _ _ last sides found other left right) h = absurd (true≢false (sym h))
words_kept first next plan made (choice _ middle _ sides own left right e) h = absurd (true≢false (sym h))
words_kept first next plan made (both _ middle _ sides own left right) h =
    let there = both_there (last_word sides.value.left) (word_number sides.value.right) h in
    let before = words_kept first middle sides.value.left own.value.left left there.0 in
    let word = word_kept middle next sides.value.right own.value.right right there.1 in (
      middle,
      (
        (λ i. number_after (before.1.0 i) (word.0 i))
            ∙ ap (λ b. cond b (Some middle) None) (eq-eqb (middle - before.0) 1 (omega (arith, before.1.1))),
        word.1,
      ),
    )
words_kept first next plan made (mild_not _ middle _ sides own left right) h = absurd (true≢false (sym h))
words_kept first next plan made (negated _ _ operand own one) h = absurd (true≢false (sym h))
words_kept first next plan made (filtered _ _ operand own one kind) h = absurd (true≢false (sym h))

cheap_kept : (first next : ℕ) (plan made : OperatorPlan) → Unites first next plan made → is_cheap_operator plan ≡ true → is_cheap_operator made ≡ true
cheap_kept first next plan made (a_phrase _ _ found e) h = absurd (true≢false (sym h))
cheap_kept first next plan made (of_phrases _ _ last sides found other left right) h = absurd (true≢false (sym h))
cheap_kept first next plan made (choice _ middle _ sides own left right e) h = absurd (true≢false (sym h))
cheap_kept first next plan made (both _ middle _ sides own left right) h = absurd (true≢false (sym h))
cheap_kept first next plan made (mild_not _ middle _ sides own left right) h = absurd (true≢false (sym h))
cheap_kept first next plan made (negated _ _ operand own one) h = absurd (true≢false (sym h))
cheap_kept first next plan made (filtered _ _ operand own one kind) h =
    let parts = and_parts (is_cheap_filter operand.value.kind) (is_some (last_word operand.value.operand)) h in
    let words = words_kept first next operand.value.operand own.value.operand one parts.1 in
    and_from (is_cheap_filter own.value.kind) (is_some (last_word own.value.operand)) (ap is_cheap_filter kind ∙ parts.0) (ap is_some words.1.0)

pub united_cheap : (plan made : OperatorPlan) → IsUnited plan made → is_cheap_operator plan ≡ true → is_cheap_operator made ≡ true
united_cheap plan made united = cheap_kept 1 united.0 plan made united.1
