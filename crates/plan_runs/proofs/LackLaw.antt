-- A text that lacks words that a compiled selection needs doesn't satisfy it.
use Rattle.std.proofs.Common.{◌≡◌, refl, sym, ap, ◌∙◌, ℕ, ◌+◌, ◌-◌, ◌*◌, ◌≤◌, zero, suc, Bool, true, false, ◌==◌, ◌&&◌, ◌||◌, cond, true≢false, List, [], ◌∷◌, ◌++◌, map, filter, flat_map, fold, sum, length, drop, inl, inr, arith}
use Rattle.std.specs.Prelude.{nat_le, nat_lt}
use Rattle.std.specs.List.{All, list_all, list_any, range_with_len}
use Rattle.std.proofs.Math.Nat.{mul-zero, zero-mul}
use Rattle.std.proofs.lemmas.Bool.{and_left, and_parts, and_right, lt-leb, ltb-true, or_cases, or_right}
use Rattle.std.proofs.lemmas.Bool.Decides.{nat_tests}
use Rattle.std.proofs.lemmas.List.{length-drop, length-map, length-take}
use Rattle.std.proofs.lemmas.List.Elements.{All-drop, All-map, All-take, filter-append}
use Rattle.std.proofs.lemmas.List.Folds.{list_all-append}
use Rattle.ft_base.specs.Lists.{is_empty, is_not_empty}
use Rattle.ft_base.specs.declared.hit.Hit.{Hit}
use Rattle.ft_base.specs.declared.hit.Match.{Match}
use Rattle.ft_base.specs.declared.span.Span.{Span}
use Rattle.ft_base.specs.declared.token.Token.{Token}
use Rattle.ft_base.specs.declared.unit.TextUnit.TheVariants as Unit
use Rattle.all_matches.specs.Boolean.{ft_and, ft_or}
use Rattle.all_matches.specs.Compositional.{enough}
use Rattle.all_matches.specs.Counting.{begins_as, by_length, places, product, put_variant, with_variant}
use Rattle.all_matches.specs.Filters.{ft_filtered}
use Rattle.all_matches.specs.Hits.{Interval, hit_on, intervals, match_of_hit, tokens_in}
use Rattle.all_matches.specs.MildNot.{ft_mild_not}
use Rattle.all_matches.specs.Positions.{start_in}
use Rattle.all_matches.specs.Ways.{matches_of}
use Rattle.counted_shapes.specs.Accepted.{fit_in}
use Rattle.counted_shapes.specs.Fields.{in_unit, in_window}
use Rattle.counted_shapes.specs.Shapes.{all_hits, events, has_enough, is_at_most}
use Rattle.counted_shapes.specs.declared.field.Field.{Field}
use Rattle.counted_shapes.specs.declared.field.Field.TheVariants.{Window, Sentence, Paragraph}
use Rattle.word_lists.specs.Stems.{Stem}
use Rattle.plan_compiler.specs.CountedPlans.{counted_at, counted_truth, hits_of_phrases}
use Rattle.plan_compiler.specs.ItemTests.{passes}
use Rattle.plan_compiler.specs.Operators.{LookedText, hits_by_tests, looked_text, operator_at, stand_on, words_on}
use Rattle.plan_compiler.specs.TextWords.{word_as}
use Rattle.plan_compiler.specs.WordsMeaning.{joined, phrase_count, words_truth}
use Rattle.plan_compiler.specs.declared.counted_plan.CountedPlan.{CountedPlan}
use Rattle.plan_compiler.specs.declared.counted_plan.CountedWords.{CountedWords}
use Rattle.plan_compiler.specs.declared.item_matching.ItemTest.{ItemTest}
use Rattle.plan_compiler.specs.declared.looks.Looks.{Looks}
use Rattle.plan_compiler.specs.declared.operator_plan.OperatorPlan.{OperatorPlan, Phrase, Choice', Both', MildNot', Negated', Filtered'}
use Rattle.plan_compiler.specs.declared.operator_plan.PhraseTests.{PhraseTests}
use Rattle.plan_compiler.specs.declared.phrase_plan.PhrasePlan.{PhrasePlan}
use Rattle.plan_compiler.specs.declared.text_word.TextWord.{TextWord}
use Rattle.plan_compiler.specs.declared.words_plan.WordsPlan.{WordsPlan}

-- ---- lists and Matches

none_of : {X : Type 0} (p : X → Bool) (xs : List X) → ((x : X) → p x ≡ false) → list_any p xs ≡ false
none_of p [] each = refl
none_of p (x ∷ xs) each = λ i. each x i || none_of p xs each i

and_none : (matches : List Match) → ft_and matches [] ≡ []
and_none [] = refl
and_none (m ∷ matches) = and_none matches

mild_not_none : (right : List Match) → ft_mild_not [] right ≡ []
mild_not_none right = elim (list_any (λ (m : Match). is_not_empty m.includes) right) as (λ b. cond {A = List Match} b [] [] ≡ []) [ true ↦ refl | false ↦ refl ]

-- a test that each interval of a text fails keeps none
module _ (n : ℕ) (p : Interval → Bool) where
  abbrev on : ℕ → ℕ → Interval
  on from to = record { from = from; to = to }

  abbrev FailsEach : Type 0
  FailsEach = (from to : ℕ) → 1 ≤ from → from ≤ to → to ≤ n → p (on from to) ≡ false

  none_on : FailsEach → (from to count : ℕ) → 1 ≤ from → from ≤ to → to + count ≤ suc n → filter p (map (on from) (range_with_len to count)) ≡ []
  none_on fails from to zero first order last = refl
  none_on fails from to (suc count) first order last =
      let rest = filter p (map (on from) (range_with_len (to + 1) count)) in
      ap (λ b. cond b (on from to ∷ rest) rest) (fails from to first order (omega (arith, last)))
      ∙ none_on fails from (to + 1) count first (omega (arith, order)) (omega (arith, last))

  abbrev rows : ℕ → ℕ → List Interval
  rows from count = flat_map (λ a. map (on a) (range_with_len a (suc n - a))) (range_with_len from count)

  none_from : FailsEach → (from count : ℕ) → 1 ≤ from → from + count ≤ suc n → filter p (rows from count) ≡ []
  none_from fails from zero first last = refl
  none_from fails from (suc count) first last =
      let own = none_on fails from from (suc n - from) first (omega arith) (omega (arith, last)) in
      let others = none_from fails (from + 1) count (omega arith) (omega (arith, last)) in
      filter-append p (map (on from) (range_with_len from (suc n - from))) (rows (from + 1) count)
      ∙ (λ i. own i ++ others i)

  pub no_interval : FailsEach → filter p (intervals n) ≡ []
  no_interval fails = none_from fails 1 n (omega arith) (omega arith)

-- ---- words that begin nowhere

module _ {X Y : Type 0} (test : X → Y → Bool) (absent : X → Bool) where
  -- no item that is absent is passed by an item of the text
  abbrev pub IsClear : List Y → Type 0
  IsClear text = (x : X) → absent x ≡ true → All (λ y. test x y ≡ false) text

  tail_clear : (y : Y) (text : List Y) → IsClear (y ∷ text) → IsClear text
  tail_clear y text clear x out = λ k d lt. clear x out (suc k) d (omega (arith, lt))

  pub begins_nowhere : (items : List X) (text : List Y) → IsClear text → list_any absent items ≡ true → begins_as test items text ≡ false
  begins_nowhere [] text clear h = absurd (true≢false (sym h))
  begins_nowhere (item ∷ items) [] clear h = refl
  begins_nowhere (item ∷ items) (y ∷ text) clear h = elim (or_cases (absent item) (list_any absent items) h) [
    | inl here ↦ and_left (test item y) (begins_as test items text) (clear item here 0 y (omega arith))
    | inr after ↦ and_right (test item y) (begins_as test items text) (begins_nowhere items text (tail_clear y text clear) after)
  ]

  -- each variant has an item that is absent
  abbrev pub are_absent : List (List X) → Bool
  are_absent variants = list_all (λ items. list_any absent items) variants

  none_begins : (variants : List (List X)) (text : List Y) → IsClear text → are_absent variants ≡ true → list_any (λ items. begins_as test items text) variants ≡ false
  none_begins [] text clear h = refl
  none_begins (items ∷ variants) text clear h =
      let parts = and_parts (list_any absent items) (are_absent variants) h in
      λ i. begins_nowhere items text clear parts.0 i || none_begins variants text clear parts.1 i

  pub no_places : (variants : List (List X)) (text : List Y) → IsClear text → are_absent variants ≡ true → places test variants text ≡ 0
  no_places variants [] clear h = refl
  no_places variants (y ∷ text) clear h =
      λ i. cond (none_begins variants (y ∷ text) clear h i) 1 0 + no_places variants text (tail_clear y text clear) h i

-- ---- lists of one length together

module _ {X : Type 0} (p : List X → Bool) where
  abbrev pub group_has : ℕ × List (List X) → Bool
  group_has group = list_all p group.1

  -- a list without items is in no group
  abbrev pub is_none_or : List X → Bool
  is_none_or items = is_empty items || p items

  put_all : (items : List X) (groups : List (ℕ × List (List X))) → list_all group_has (put_variant items groups) ≡ true → (p items ≡ true) × (list_all group_has groups ≡ true)
  put_all items [] h = let parts = and_parts (p items && true) true h in ((and_parts (p items) true parts.0).0, refl)
  put_all items (group ∷ groups) h = by (length items == group.0) h (put_all items groups)
    where
      by : (b : Bool) → list_all group_has (cond b ((group.0, group.1 ++ items ∷ []) ∷ groups) (group ∷ put_variant items groups)) ≡ true
          → (list_all group_has (put_variant items groups) ≡ true → (p items ≡ true) × (list_all group_has groups ≡ true))
          → (p items ≡ true) × ((list_all p group.1 && list_all group_has groups) ≡ true)
      by true h rest =
          let parts = and_parts (list_all p (group.1 ++ items ∷ [])) (list_all group_has groups) h in
          let own = and_parts (list_all p group.1) (p items && true) (sym (list_all-append p group.1 (items ∷ [])) ∙ parts.0) in
          ((and_parts (p items) true own.1).0, λ i. own.0 i && parts.1 i)
      by false h rest =
          let parts = and_parts (list_all p group.1) (list_all group_has (put_variant items groups)) h in
          let further = rest parts.1 in
          (further.0, λ i. parts.0 i && further.1 i)

  with_all : (groups : List (ℕ × List (List X))) (items : List X) → list_all group_has (with_variant groups items) ≡ true → (is_none_or items ≡ true) × (list_all group_has groups ≡ true)
  with_all groups [] h = (refl, h)
  with_all groups (item ∷ items) h = put_all (item ∷ items) groups h

  all_put : (groups : List (ℕ × List (List X))) (variants : List (List X)) → list_all group_has (fold with_variant groups variants) ≡ true
      → (list_all is_none_or variants ≡ true) × (list_all group_has groups ≡ true)
  all_put groups [] h = (refl, h)
  all_put groups (items ∷ variants) h =
      let rest = all_put (with_variant groups items) variants h in
      let one = with_all groups items rest.1 in
      (λ i. one.0 i && rest.0 i, one.1)

  pub all_grouped : (variants : List (List X)) → list_all group_has (by_length variants) ≡ true → list_all is_none_or variants ≡ true
  all_grouped variants h = (all_put [] variants h).0

module _ (absent : ItemTest → Bool) where
  -- ---- what a compiled selection lacks where these tests are absent

  abbrev pub some_absent : List ItemTest → Bool
  some_absent tests = list_any absent tests

  abbrev pub variants_lack : List (List ItemTest) → Bool
  variants_lack variants = list_all some_absent variants

  abbrev pub phrase_lacks : PhrasePlan → Bool
  phrase_lacks plan = list_all variants_lack plan.groups

  abbrev pub phrases_lack : Bool → List PhrasePlan → Bool
  phrases_lack true phrases = list_any phrase_lacks phrases
  phrases_lack false phrases = list_all phrase_lacks phrases

  -- a variant without tests stands nowhere
  abbrev pub found_lacks : PhraseTests → Bool
  found_lacks found = list_all (is_none_or some_absent) found.variants

  unfoldable pub operator_lacks : OperatorPlan → Bool
  operator_lacks (Phrase found) = found_lacks found
  operator_lacks (Choice' p left right) = operator_lacks left && operator_lacks right
  operator_lacks (Both' p left right) = operator_lacks left || operator_lacks right
  operator_lacks (MildNot' p left right) = operator_lacks left
  operator_lacks (Negated' p operand) = false
  operator_lacks (Filtered' p operand kind) = operator_lacks operand

  abbrev pub item_lacks : CountedWords → Bool
  item_lacks item = nat_lt 0 item.least && list_all found_lacks item.phrases

  pub lack_each : (variants : List (List ItemTest)) → variants_lack variants ≡ true → list_all (is_none_or some_absent) variants ≡ true
  lack_each [] h = refl
  lack_each (tests ∷ variants) h =
      let parts = and_parts (some_absent tests) (variants_lack variants) h in
      λ i. or_right (is_empty tests) (some_absent tests) parts.0 i && lack_each variants parts.1 i

  -- ---- words

  module _ (text : List TextWord) (clear : IsClear passes absent text) where
    no_phrase : (groups : List (List (List ItemTest))) → list_all variants_lack groups ≡ true → sum (map (λ group. places passes group text) groups) ≡ 0
    no_phrase [] h = refl
    no_phrase (group ∷ groups) h =
        let parts = and_parts (variants_lack group) (list_all variants_lack groups) h in
        ap (λ n. fold (λ a b. a + b) (0 + n) (map (λ (g : List (List ItemTest)). places passes g text) groups)) (no_places passes absent group text clear parts.0)
        ∙ no_phrase groups parts.1

    no_sum : (phrases : List PhrasePlan) → list_all phrase_lacks phrases ≡ true → sum (map (λ phrase. phrase_count phrase text) phrases) ≡ 0
    no_sum [] h = refl
    no_sum (phrase ∷ phrases) h =
        let parts = and_parts (phrase_lacks phrase) (list_all phrase_lacks phrases) h in
        ap (λ n. fold (λ a b. a + b) (0 + n) (map (λ (p : PhrasePlan). phrase_count p text) phrases)) (no_phrase phrase.groups parts.0)
        ∙ no_sum phrases parts.1

    no_product : (phrases : List PhrasePlan) → list_any phrase_lacks phrases ≡ true → product (map (λ phrase. phrase_count phrase text) phrases) ≡ 0
    no_product [] h = absurd (true≢false (sym h))
    no_product (phrase ∷ phrases) h = elim (or_cases (phrase_lacks phrase) (list_any phrase_lacks phrases) h) [
      | inl here ↦
          ap (λ n. n * product (map (λ (p : PhrasePlan). phrase_count p text) phrases)) (no_phrase phrase.groups here)
          ∙ zero-mul (product (map (λ (p : PhrasePlan). phrase_count p text) phrases))
      | inr after ↦ ap (λ n. phrase_count phrase text * n) (no_product phrases after) ∙ mul-zero (phrase_count phrase text)
    ]

    no_count : (all : Bool) (phrases : List PhrasePlan) → phrases_lack all phrases ≡ true → joined all (map (λ phrase. phrase_count phrase text) phrases) ≡ 0
    no_count true phrases h = no_product phrases h
    no_count false phrases h = no_sum phrases h

    pub no_words : (plan : WordsPlan) → enough plan.times 0 ≡ false → phrases_lack plan.all plan.phrases ≡ true → words_truth plan text ≡ false
    no_words plan few h = ap (enough plan.times) (no_count plan.all plan.phrases h) ∙ few

  -- ---- what is made of phrases

  module _ (looks : Looks) (stems : List Stem) (tokens : List Token) (clear : IsClear (λ test token. passes test (word_as looks stems token.word)) absent tokens) where
    abbrev text : LookedText
    text = looked_text looks stems tokens

    part_clear : (interval : Interval) → IsClear passes absent (words_on text interval)
    part_clear interval test out =
        let Fails : Token → Type 0 = λ token. passes test (word_as looks stems token.word) ≡ false in
        All-map (λ w. passes test w ≡ false) (λ (token : Token). word_as looks stems token.word) (tokens_in tokens interval)
        (All-take Fails (suc interval.to - interval.from) (drop (interval.from - 1) tokens) (All-drop Fails (interval.from - 1) tokens (clear test out)))

    some_words : (from to : ℕ) → 1 ≤ from → from ≤ to → to ≤ length tokens → (0 == length (words_on text (record { from = from; to = to }))) ≡ false
    some_words from to first order last =
        let mapped = length-map (tokens_in tokens (record { from = from; to = to })) (λ (token : Token). word_as looks stems token.word) in
        let taken = length-take (suc to - from) (drop (from - 1) tokens) in
        let dropped = length-drop (from - 1) tokens in
        let many : 1 ≤ length (words_on text (record { from = from; to = to })) = omega (arith, mapped, taken, dropped, first, order, last) in
        grind (arith, nat_tests, many)

    stands_nowhere : (variants : List (List ItemTest)) → list_all (is_none_or some_absent) variants ≡ true → (interval : Interval) → (0 == length (words_on text interval)) ≡ false
        → list_any (λ tests. stand_on tests (words_on text interval)) variants ≡ false
    stands_nowhere [] h interval some = refl
    stands_nowhere (tests ∷ variants) h interval some =
        let parts = and_parts (is_none_or some_absent tests) (list_all (is_none_or some_absent) variants) h in
        λ i. one tests parts.0 i || stands_nowhere variants parts.1 interval some i
      where
        one : (tests : List ItemTest) → is_none_or some_absent tests ≡ true → stand_on tests (words_on text interval) ≡ false
        one [] h = and_left (0 == length (words_on text interval)) true some
        one (test ∷ tests) h =
            and_right (length (test ∷ tests) == length (words_on text interval)) (begins_as passes (test ∷ tests) (words_on text interval))
            (begins_nowhere passes absent (test ∷ tests) (words_on text interval) (part_clear interval) h)

    pub no_hits : (found : PhraseTests) → found_lacks found ≡ true → hits_by_tests text found.number found.variants ≡ []
    no_hits found h =
        ap (map (hit_on tokens found.number))
        (no_interval (length tokens) (λ interval. list_any (λ tests. stand_on tests (words_on text interval)) found.variants)
        (λ from to first order last. stands_nowhere found.variants h (record { from = from; to = to }) (some_words from to first order last)))

    pub no_matches : (item : Span) (plan : OperatorPlan) → operator_lacks plan ≡ true → matches_of item (operator_at text plan) ≡ []
    unfolding operator_lacks operator_at matches_of
    no_matches item (Phrase found) h = ap (map match_of_hit) (no_hits found h)
    no_matches item (Choice' p left right) h =
        let parts = and_parts (operator_lacks left) (operator_lacks right) h in
        λ i. ft_or (no_matches item left parts.0 i) (no_matches item right parts.1 i)
    no_matches item (Both' p left right) h = elim (or_cases (operator_lacks left) (operator_lacks right) h) [
      | inl first ↦ ap (λ ms. ft_and ms (matches_of item (operator_at text right))) (no_matches item left first)
      | inr then ↦ ap (ft_and (matches_of item (operator_at text left))) (no_matches item right then) ∙ and_none (matches_of item (operator_at text left))
    ]
    no_matches item (MildNot' p left right) h =
        ap (λ ms. ft_mild_not ms (matches_of item (operator_at text right))) (no_matches item left h) ∙ mild_not_none (matches_of item (operator_at text right))
    no_matches item (Negated' p operand) h = absurd (true≢false (sym h))
    no_matches item (Filtered' p operand kind) h = ap (ft_filtered kind item) (no_matches item operand h)

    -- ---- counts

    no_phrases : (phrases : List PhraseTests) → list_all found_lacks phrases ≡ true → hits_of_phrases text phrases ≡ []
    no_phrases [] h = refl
    no_phrases (found ∷ phrases) h =
        let parts = and_parts (found_lacks found) (list_all found_lacks phrases) h in
        λ i. no_hits found parts.0 i ++ no_phrases phrases parts.1 i

    module _ (test : Hit → Bool) where
      not_enough : (item : CountedWords) → item_lacks item ≡ true → has_enough test (counted_at text item) ≡ false
      not_enough item h =
          let parts = and_parts (nat_lt 0 item.least) (list_all found_lacks item.phrases) h in
          let few : nat_le item.least 0 ≡ false = lt-leb item.least 0 (omega (arith, ltb-true 0 item.least parts.0)) in
          ap (λ (hits : List Hit). nat_le item.least (length (filter test hits)) && is_at_most item.most (length (filter test hits))) (no_phrases item.phrases parts.1)
          ∙ and_left (nat_le item.least 0) (is_at_most item.most 0) few

      not_all_enough : (items : List CountedWords) → list_any item_lacks items ≡ true → list_all (has_enough test) (map (counted_at text) items) ≡ false
      not_all_enough [] h = absurd (true≢false (sym h))
      not_all_enough (item ∷ items) h = elim (or_cases (item_lacks item) (list_any item_lacks items) h) [
        | inl here ↦ and_left (has_enough test (counted_at text item)) (list_all (has_enough test) (map (counted_at text) items)) (not_enough item here)
        | inr after ↦ and_right (has_enough test (counted_at text item)) (list_all (has_enough test) (map (counted_at text) items)) (not_all_enough items after)
      ]

    pub no_counts : (plan : CountedPlan) → list_any item_lacks plan.items ≡ true → counted_truth plan text ≡ false
    no_counts plan h = by_field plan.field
      where
        by_field : (field : Field) → fit_in field (map (counted_at text) plan.items) ≡ false
        by_field (Window size unit) =
            none_of (λ last. list_all (has_enough (in_window size unit last)) (map (counted_at text) plan.items)) (events size unit (all_hits (map (counted_at text) plan.items)))
            (λ last. not_all_enough (in_window size unit last) plan.items h)
        by_field Sentence =
            none_of (λ number. list_all (has_enough (in_unit Unit.Sentences number)) (map (counted_at text) plan.items)) (map (start_in Unit.Sentences) (all_hits (map (counted_at text) plan.items)))
            (λ number. not_all_enough (in_unit Unit.Sentences number) plan.items h)
        by_field Paragraph =
            none_of (λ number. list_all (has_enough (in_unit Unit.Paragraphs number)) (map (counted_at text) plan.items)) (map (start_in Unit.Paragraphs) (all_hits (map (counted_at text) plan.items)))
            (λ number. not_all_enough (in_unit Unit.Paragraphs number) plan.items h)
