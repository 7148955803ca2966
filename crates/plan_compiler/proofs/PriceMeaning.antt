-- The tests of compiled words have together at most the price of the words.
use Rattle.std.proofs.Common.{◌≡◌, ◌≤◌, refl, ap, sym, ◌∙◌, ℕ, ◌+◌, Bool, true, List, [], ◌∷◌, map, fold, length, arith}
use Rattle.std.specs.BTreeSet.{insert_key}
use Rattle.std.specs.List.{sum_by}
use Rattle.std.specs.Ordering.{match_ordering}
use Rattle.std.specs.declared.cmp.Ordering.TheVariants.{Less, Equal, Greater}
use Rattle.std.proofs.lemmas.List.Sums.{sum_by-cons}
use Rattle.ft_base.specs.declared.options.Options.{Options}
use Rattle.ft_base.specs.declared.words.Words.{Words}
use Rattle.all_matches.specs.Counting.{by_length}
use Rattle.all_matches.specs.Meaning.{phrases_by}
use Rattle.all_matches.specs.Variants.{Item, word, reached_keys, without_stop_word}
use Rattle.index_meaning.specs.Entries.{Entry}
use Rattle.match_options.specs.Items.{items_of}
use Rattle.plan_compiler.specs.CompiledSelection.{compiled_price}
use Rattle.plan_compiler.specs.CompiledWords.{IsCompiled}
use Rattle.plan_compiler.specs.ItemTests.{passes}
use Rattle.plan_compiler.specs.Lexicon.{lexicon}
use Rattle.plan_compiler.specs.NamedLists.{NamedLists}
use Rattle.plan_compiler.specs.NodeCosts.{phrase_cost, words_cost}
use Rattle.plan_compiler.specs.Price.{item_price, phrase_price, test_price, value_price}
use Rattle.plan_compiler.specs.ReadingMeaning.{Reads}
use Rattle.plan_compiler.specs.Served.{are_served}
use Rattle.plan_compiler.specs.TextWords.{word_as}
use Rattle.plan_compiler.specs.WordsMeaning.{grouped_tests, item_test, phrases_for, plan_tests, tests_of}
use Rattle.plan_compiler.specs.declared.item_matching.ItemTest.{ItemTest}
use Rattle.plan_compiler.specs.declared.looks.Looks.{Looks}
use Rattle.plan_compiler.specs.declared.phrase_plan.PhrasePlan.{PhrasePlan}
use Rattle.plan_compiler.specs.declared.reading.Reading.{Reading}
use Rattle.plan_compiler.specs.declared.text_word.TextWord.{TextWord}
use Rattle.plan_compiler.specs.declared.words_plan.WordsPlan.{WordsPlan}
use Rattle.plan_compiler.proofs.GroupLemmas.{by_length-sum, of_group}
use Rattle.plan_compiler.proofs.PhraseMeaning.{read_phrases, word_passes}
use Rattle.plan_compiler.proofs.SumLemmas.{sum_over, sum_over_le}
use Rattle.thesaurus_file.specs.Phrases.{Phrase, in_order, phrase_cmp}

-- ---- sums over phrases in order, each once

module _ (f : Phrase → ℕ) where
  inserted_sum : (ks : List Phrase) (k : Phrase) → sum_by f (insert_key phrase_cmp ks k) ≤ sum_by f ks + f k
  inserted_sum [] k = let one = sum_by-cons f k [] in omega (arith, one)
  inserted_sum (x ∷ xs) k =
      let was = sum_by-cons f x xs in
      let rest = inserted_sum xs k in
      elim (phrase_cmp k x) as (λ r. sum_by f (match_ordering r (k ∷ x ∷ xs) (x ∷ xs) (x ∷ insert_key phrase_cmp xs k)) ≤ sum_by f (x ∷ xs) + f k) [
        | Less ↦ let now = sum_by-cons f k (x ∷ xs) in omega (arith, now)
        | Equal ↦ omega arith
        | Greater ↦ let now = sum_by-cons f x (insert_key phrase_cmp xs k) in omega (arith, was, now, rest)
      ]

  all_inserted_sum : (ks seen : List Phrase) → sum_by f (fold (insert_key phrase_cmp) seen ks) ≤ sum_by f seen + sum_by f ks
  all_inserted_sum [] seen = omega arith
  all_inserted_sum (k ∷ ks) seen =
      let rest = all_inserted_sum ks (insert_key phrase_cmp seen k) in
      let one = inserted_sum seen k in
      let all = sum_by-cons f k ks in
      omega (arith, rest, one, all)

  in_order_sum : (ks : List Phrase) → sum_by f (in_order ks) ≤ sum_by f ks
  in_order_sum ks = let all = all_inserted_sum ks [] in omega (arith, all)

-- ---- what tests of words cost

module _ (looks : Looks) (lists : NamedLists) (terms : List Entry) (text : List (List ℕ)) where
  abbrev asked_price : (TextWord → Bool) → ℕ
  asked_price test = test_price (λ w. test (word_as looks lists.stems w)) terms text

  tests_cost : (variant : List ItemTest) → sum_by asked_price (map passes variant) ≡ sum_by (compiled_price looks lists.stems terms text) variant
  tests_cost variant = sum_over asked_price (compiled_price looks lists.stems terms text) passes (λ test. refl) variant

  group_costs : (group : List (List ItemTest)) → sum_by (sum_by asked_price) (tests_of group) ≡ sum_by (sum_by (compiled_price looks lists.stems terms text)) group
  group_costs group = sum_over (sum_by asked_price) (sum_by (compiled_price looks lists.stems terms text)) (map passes) tests_cost group

  phrase_costs : (plan : PhrasePlan) → sum_by (sum_by (sum_by asked_price)) (plan_tests plan) ≡ phrase_cost (compiled_price looks lists.stems terms text) plan
  phrase_costs plan = sum_over (sum_by (sum_by asked_price)) (sum_by (sum_by (compiled_price looks lists.stems terms text))) tests_of group_costs plan.groups

  module _ (options : Options) (reading : Reading) (reads : Reads reading lists options) (served : are_served looks options ≡ true) where
    abbrev bare : Item → Item
    bare = without_stop_word (lexicon lists) options

    abbrev priced : Item → ℕ
    priced = item_price (lexicon lists) options terms text

    item_priced : (item : Item) → asked_price (item_test reading item) ≡ priced (bare item)
    item_priced item = λ i. test_price (λ w. word_passes looks lists options reading reads served item (record { word = w; sentence = 1; paragraph = 1 }) i) terms text

    variant_priced : (items : List Item) → sum_by asked_price (map (item_test reading) items) ≡ sum_by priced (map bare items)
    variant_priced items =
        sum_over asked_price (λ item. priced (bare item)) (item_test reading) item_priced items
        ∙ sym (sum_over priced (λ item. priced (bare item)) bare (λ item. refl) items)

    variants_priced : (phrases : List (List Item)) → sum_by (sum_by asked_price) (map (map (item_test reading)) phrases) ≡ sum_by (sum_by priced) (map (map bare) phrases)
    variants_priced phrases =
        sum_over (sum_by asked_price) (λ items. sum_by priced (map bare items)) (map (item_test reading)) variant_priced phrases
        ∙ sym (sum_over (sum_by priced) (λ items. sum_by priced (map bare items)) (map bare) (λ items. refl) phrases)

    -- a phrase with what thesauri reach from it, which has these keys
    with_reached : (phrase : List Item) (keys : List Phrase)
        → sum_by (sum_by priced) (map (map bare) (phrase ∷ map (map word) keys)) ≡ sum_by priced (map bare phrase) + sum_by (λ key. sum_by priced (map bare (map word key))) keys
    with_reached phrase keys =
        let first = sum_by-cons (sum_by priced) (map bare phrase) (map (map bare) (map (map word) keys)) in
        let others = sum_over (sum_by priced) (λ items. sum_by priced (map bare items)) (map bare) (λ items. refl) (map (map word) keys)
        ∙ sum_over (λ items. sum_by priced (map bare items)) (λ key. sum_by priced (map bare (map word key))) (map word) (λ key. refl) keys in
        omega (arith, first, others)

    -- each variant that thesauri reach costs once
    once_priced : (phrase : List Item)
        → sum_by (sum_by asked_price) (map (map (item_test reading)) (phrases_for reading phrase)) ≤ phrase_price (lexicon lists) options terms text phrase
    once_priced [] =
        let none : sum_by (sum_by asked_price) (map (map (item_test reading)) (phrases_for reading [])) ≡ phrase_price (lexicon lists) options terms text [] = refl in
        omega (arith, none)
    once_priced (item ∷ phrase) =
        let keys = reached_keys (lexicon lists) options.thesaurus (item ∷ phrase) in
        let once = (item ∷ phrase) ∷ map (map word) (in_order keys) in
        let same : phrases_for reading (item ∷ phrase) ≡ once = read_phrases lists options reading reads item phrase in
        let known : sum_by (sum_by asked_price) (map (map (item_test reading)) (phrases_for reading (item ∷ phrase))) ≡ sum_by (sum_by priced) (map (map bare) once) =
        ap (λ phrases. sum_by (sum_by asked_price) (map (map (item_test reading)) phrases)) same ∙ variants_priced once in
        let whole : phrase_price (lexicon lists) options terms text (item ∷ phrase)
        ≡ sum_by priced (map bare (item ∷ phrase)) + sum_by (λ key. sum_by priced (map bare (map word key))) keys = with_reached (item ∷ phrase) keys in
        let kept = with_reached (item ∷ phrase) (in_order keys) in
        let less = in_order_sum (λ key. sum_by priced (map bare (map word key))) keys in
        omega (arith, known, whole, kept, less)

    -- by length or not, the sum is the same
    phrase_priced : (phrase : List Item) → sum_by (sum_by (sum_by asked_price)) (grouped_tests reading phrase) ≤ phrase_price (lexicon lists) options terms text phrase
    phrase_priced phrase =
        let tests = map (map (item_test reading)) (phrases_for reading phrase) in
        let known : sum_by (sum_by (sum_by asked_price)) (grouped_tests reading phrase) ≡ sum_by (sum_by asked_price) tests =
        sum_over (sum_by (sum_by asked_price)) (of_group (sum_by asked_price) refl) (λ group. group.1) (λ group. refl) (by_length tests)
        ∙ by_length-sum (sum_by asked_price) refl tests in
        let most = once_priced phrase in
        omega (arith, known, most)

    pub variants_cost : (variants : List (List ItemTest)) (phrase : List Item) → map (map passes) variants ≡ map (map (item_test reading)) (phrases_for reading phrase)
        → sum_by (sum_by (compiled_price looks lists.stems terms text)) variants ≤ phrase_price (lexicon lists) options terms text phrase
    variants_cost variants phrase is =
        let known = sym (group_costs variants) ∙ ap (sum_by (sum_by asked_price)) is in
        let most = once_priced phrase in
        omega (arith, known, most)

  pub words_priced : (options : Options) (plan : WordsPlan) (value : Words) → IsCompiled plan lists options value → are_served looks options ≡ true
      → words_cost (compiled_price looks lists.stems terms text) plan ≤ value_price (lexicon lists) options terms text value
  words_priced options plan value compiled served =
      let reading = compiled.reading in
      let phrases = phrases_by value.mode (map (items_of reading.wildcards) value.values) in
      let known : words_cost (compiled_price looks lists.stems terms text) plan ≡ sum_by (sum_by (sum_by (sum_by asked_price))) (map (grouped_tests reading) phrases) =
      sym (sum_over (sum_by (sum_by (sum_by asked_price))) (phrase_cost (compiled_price looks lists.stems terms text)) plan_tests phrase_costs plan.phrases)
      ∙ ap (sum_by (sum_by (sum_by (sum_by asked_price)))) compiled.phrases in
      let most = sum_over_le (sum_by (sum_by (sum_by asked_price))) (phrase_price (lexicon lists) options terms text) (grouped_tests reading) (phrase_priced options reading compiled.reads served) phrases in
      let whole : sum_by (phrase_price (lexicon lists) options terms text) phrases ≡ value_price (lexicon lists) options terms text value =
      ap (λ wildcards. sum_by (phrase_price (lexicon lists) options terms text) (phrases_by value.mode (map (items_of wildcards) value.values))) compiled.reads.wildcards in
      omega (arith, known, most, whole)
