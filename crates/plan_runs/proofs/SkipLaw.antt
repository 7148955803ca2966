-- A text with words of a span alone that can be skipped lacks words that the compiled selection needs.
use Rattle.std.proofs.Common.{◌≡◌, refl, sym, ap, subst, ◌∙◌, ℕ, ◌+◌, ◌-◌, zero, suc, Bool, true, false, ◌&&◌, ◌||◌, ◌==◌, not, cond, true≢false, List, [], ◌∷◌, map, filter, flat_map, length, take, drop, get_or, Option, Some, ◌≤◌, inl, inr, arith}
use Rattle.std.specs.Prelude.{is_some, nat_le, nat_lt}
use Rattle.std.specs.List.{All, Contains, list_all, list_any}
use Rattle.std.proofs.lemmas.Bool.{and_from, and_parts, le-leb, lt-ltb, not-true, or_cases, or_left, or_right}
use Rattle.std.proofs.lemmas.List.Elements.{All-cons, All-contains, All-map, All-take}
use Rattle.std.proofs.lemmas.List.Folds.{list_all-append, list_all-map, list_any-append}
use Rattle.ft_base.specs.declared.span.Span.{Span}
use Rattle.ft_base.specs.declared.token.Token.{Token}
use Rattle.all_matches.specs.Boolean.{satisfied}
use Rattle.all_matches.specs.Compositional.{enough}
use Rattle.all_matches.specs.Counting.{by_length}
use Rattle.all_matches.specs.Spans.{whole_text}
use Rattle.all_matches.proofs.ListTests.{list_any-map}
use Rattle.index_cursors.specs.SpanHits.{is_inside}
use Rattle.index_meaning.specs.Documents.{Numbered, document_at, words_of}
use Rattle.index_meaning.specs.Postings.{places_from, same_word}
use Rattle.index_phrases.proofs.SpanTokens.{words_of_span}
use Rattle.index_phrases.specs.Phrases.{words_at}
use Rattle.index_phrases.specs.declared.word_terms.WordTerms.{WordTerms}
use Rattle.index_phrases.specs.declared.word_terms.WordTerms.TheVariants as Terms
use Rattle.index_phrases.specs.steps.Aiming.{AreThere}
use Rattle.index_versions.specs.FirstPlaces.{soonest}
use Rattle.index_versions.specs.Terms.{VersionTerm, first_in, version_term}
use Rattle.index_versions.specs.Versions.{term_at}
use Rattle.term_dict.proofs.OrderLemmas.{equal_turned}
use Rattle.word_lists.specs.Stems.{Stem}
use Rattle.plan_compiler.proofs.GroupLemmas.{by_length-map, map_group}
use Rattle.plan_compiler.proofs.NodeViews.{truth-Counted, truth-Ways}
use Rattle.plan_compiler.specs.CheapPlans.{is_single, is_word}
use Rattle.plan_compiler.specs.ItemTests.{asks_nothing, passes}
use Rattle.plan_compiler.specs.NodeMeaning.{truth}
use Rattle.plan_compiler.specs.Operators.{looked_text}
use Rattle.plan_compiler.specs.TextWords.{word_as, words_of_tokens}
use Rattle.plan_compiler.specs.WordsMeaning.{words_truth}
use Rattle.plan_compiler.specs.declared.counted_plan.CountedPlan.{CountedPlan}
use Rattle.plan_compiler.specs.declared.counted_plan.CountedWords.{CountedWords}
use Rattle.plan_compiler.specs.declared.item_matching.ItemTest.{ItemTest}
use Rattle.plan_compiler.specs.declared.looks.Looks.{Looks}
use Rattle.plan_compiler.specs.declared.node.Node as N
use Rattle.plan_compiler.specs.declared.operator_plan.OperatorPlan.{OperatorPlan, Phrase, Choice', Both', MildNot', Negated', Filtered'}
use Rattle.plan_compiler.specs.declared.operator_plan.PhraseTests.{PhraseTests}
use Rattle.plan_compiler.specs.declared.operator_plan.WaysPlan.{WaysPlan}
use Rattle.plan_compiler.specs.declared.phrase_plan.PhrasePlan.{PhrasePlan}
use Rattle.plan_compiler.specs.declared.words_plan.WordsPlan.{WordsPlan}
use Rattle.plan_kinds.specs.steps.AskedKeys.{asked_key}
use Rattle.plan_kinds.specs.steps.JoinedPhrases.{joined_phrases}
use Rattle.plan_runs.specs.steps.AskedSpans.{AskedSpan, words_in}
use Rattle.plan_runs.specs.steps.ChosenTerms.{IsKnown, is_among, numbers_of}
use Rattle.plan_runs.specs.steps.Counts.{opened_count, opened_counts, opened_groups}
use Rattle.plan_runs.specs.steps.LeftTokens.{AreLeft}
use Rattle.plan_runs.specs.steps.Merges.{phrase_terms, test_terms}
use Rattle.plan_runs.specs.steps.OpenedItems.{opened_item, opened_variant}
use Rattle.plan_runs.specs.steps.OpenedWords.{opened_group, opened_phrase, opened_words}
use Rattle.plan_runs.specs.steps.RunShapes.{GroupShape}
use Rattle.plan_runs.specs.steps.RunSkips.{counts_skip, item_skip, phrase_skip, terms_skip, words_skip}
use Rattle.plan_runs.specs.steps.RunTruth.{is_wanted}
use Rattle.plan_runs.specs.steps.Skips.{IsWithin, ends_before, latest, needed_item, opened_skip, variants_skip}
use Rattle.plan_runs.proofs.KnownTexts.{text_known}
use Rattle.plan_runs.proofs.LackLaw.{IsClear, all_grouped, found_lacks, is_none_or, item_lacks, lack_each, no_counts, no_matches, no_words, operator_lacks, phrase_lacks, phrases_lack, some_absent, variants_lack}
use Rattle.plan_runs.proofs.OpenedTests.{item_says, item_there}
use Rattle.plan_runs.proofs.SkipLemmas.{are_missing, ends_later, ends_latest, ends_soonest, ends_sooner, ends_variants, is_missing, none_there, nothing_before}

-- ---- a term that has no place in a span is empty of its words

is_no_word : (word : List ℕ) (span : Span) (place prefix count : ℕ) (ws : List (List ℕ)) → span.from ≤ place + prefix → place + prefix + count ≤ span.to
    → filter (is_inside span) (places_from word place ws) ≡ [] → All (λ other. same_word word other ≡ false) (take count (drop prefix ws))
is_no_word word span place zero zero ws from to h = λ k d lt. absurd (omega (arith, lt))
is_no_word word span place (suc prefix) count [] from to h = All-take (λ other. same_word word other ≡ false) count [] (λ k d lt. absurd (omega (arith, lt)))
is_no_word word span place zero (suc count) [] from to h = λ k d lt. absurd (omega (arith, lt))
is_no_word word span place (suc prefix) count (w ∷ ws) from to h =
    is_no_word word span (place + 1) prefix count ws (omega (arith, from)) (omega (arith, to)) (rest (same_word w word) h)
  where
    rest : (b : Bool) → filter (is_inside span) (cond b (place ∷ places_from word (place + 1) ws) (places_from word (place + 1) ws)) ≡ []
        → filter (is_inside span) (places_from word (place + 1) ws) ≡ []
    rest false empty = empty
    rest true empty = tail (is_inside span place) empty
      where
        tail : (b : Bool) → cond b (place ∷ filter (is_inside span) (places_from word (place + 1) ws)) (filter (is_inside span) (places_from word (place + 1) ws)) ≡ []
            → filter (is_inside span) (places_from word (place + 1) ws) ≡ []
        tail false empty = empty
        tail true empty = absurd (omega (arith, ap length empty))
is_no_word word span place zero (suc count) (w ∷ ws) from to h = by (same_word w word) refl h (is_no_word word span (place + 1) zero count ws (omega (arith, from)) (omega (arith, to)))
  where
    inside : is_inside span place ≡ true
    inside = and_from (nat_le span.from place) (nat_lt place span.to) (le-leb span.from place (omega (arith, from))) (lt-ltb place span.to (omega (arith, to)))

    by : (b : Bool) → same_word w word ≡ b → filter (is_inside span) (cond b (place ∷ places_from word (place + 1) ws) (places_from word (place + 1) ws)) ≡ []
        → (filter (is_inside span) (places_from word (place + 1) ws) ≡ [] → All (λ other. same_word word other ≡ false) (take count ws))
        → All (λ other. same_word word other ≡ false) (w ∷ take count ws)
    by true is empty then =
        absurd (omega (arith, ap length (sym (ap (λ b. cond b (place ∷ filter (is_inside span) (places_from word (place + 1) ws)) (filter (is_inside span) (places_from word (place + 1) ws))) inside) ∙ empty)))
    by false is empty then = All-cons (λ other. same_word word other ≡ false) w (take count ws) (equal_turned word w ∙ is) (then empty)

-- a term that is missing in the part before the end of the span is none of the span's words
module _ (version : List Numbered) (doc : ℕ) (part span : Span) (within : IsWithin part span) (first : 1 ≤ span.from) where
  abbrev is_out : VersionTerm → Bool
  is_out source = ends_before span.to (first_in doc part source)

  span_clear : (number : ℕ) → is_out (version_term version number) ≡ true → All (λ word. same_word (term_at number version).word word ≡ false) (words_at span (document_at doc version))
  span_clear number out =
      clear (span.to - 1 - (span.from - 1)) refl
    where
      all : List (List ℕ)
      all = words_of (document_at doc version)

      clear : (count : ℕ) → count ≡ span.to - 1 - (span.from - 1) → All (λ word. same_word (term_at number version).word word ≡ false) (take count (drop (span.from - 1) all))
      clear zero is = λ k d lt. absurd (omega (arith, lt))
      clear (suc count) is =
          is_no_word (term_at number version).word span 1 (span.from - 1) (suc count) all (omega (arith, first)) (omega (arith, first, is))
          (none_there doc part span within (version_term version number) out)

  terms_missing : (sources : List VersionTerm) (word : List ℕ) → Contains (words_at span (document_at doc version)) word → All (λ source. source.version ≡ version) sources
      → list_all is_out sources ≡ true → is_among version (numbers_of sources) word ≡ false
  terms_missing [] word there own h = refl
  terms_missing (source ∷ sources) word there own h =
      let parts = and_parts (is_out source) (list_all is_out sources) h in
      let out = sym (ap (λ v. is_out (version_term v source.term)) (own 0 source (omega arith))) ∙ parts.0 in
      λ i. All-contains (λ other. same_word (term_at source.term version).word other ≡ false) (words_at span (document_at doc version)) word (span_clear source.term out) there i
      || terms_missing sources word there (λ k d lt. own (suc k) d (omega (arith, lt))) parts.1 i

  word_missing : (item : WordTerms) (word : List ℕ) → Contains (words_at span (document_at doc version)) word → AreThere version item → is_missing doc part span.to item ≡ true
      → is_wanted version item word ≡ false
  unfolding is_wanted
  word_missing Terms.Any word there own h = absurd (true≢false (sym h ∙ nothing_before span.to))
  word_missing (Terms.Of sources) word there own h = terms_missing sources word there own (sym (ends_soonest span.to (first_in doc part) sources) ∙ h)

module _ (looks : Looks) (stems : List Stem) (version : List Numbered) (doc : ℕ) (part : Span) (to : ℕ) where
  abbrev needed : ItemTest → WordTerms
  needed = needed_item looks stems version

  abbrev opened : ItemTest → WordTerms
  opened = opened_item looks stems version

  abbrev missing : WordTerms → Bool
  missing = is_missing doc part to

  -- a test none of whose terms stands in the part before the place
  abbrev pub absent : ItemTest → Bool
  absent test = missing (opened test)

  abbrev out : VersionTerm → Bool
  out source = ends_before to (first_in doc part source)

  -- ---- a word that is needed and missing is missing

  item_missing : (test : ItemTest) → missing (needed test) ≡ true → absent test ≡ true
  item_missing test = by (is_some (asked_key test))
    where
      by : (b : Bool) → missing (cond b (opened test) Terms.Any) ≡ true → absent test ≡ true
      by true h = h
      by false h = absurd (true≢false (sym h ∙ nothing_before to))

  some_missing : (tests : List ItemTest) → list_any missing (map needed tests) ≡ true → some_absent absent tests ≡ true
  some_missing [] h = h
  some_missing (test ∷ tests) h = elim (or_cases (missing (needed test)) (list_any missing (map needed tests)) h) [
    | inl here ↦ or_left (absent test) (some_absent absent tests) (item_missing test here)
    | inr after ↦ or_right (absent test) (some_absent absent tests) (some_missing tests after)
  ]

  each_missing : (variants : List (List ItemTest)) → are_missing doc part to (map (map needed) variants) ≡ true → variants_lack absent variants ≡ true
  each_missing [] h = h
  each_missing (tests ∷ variants) h =
      let parts = and_parts (list_any missing (map needed tests)) (are_missing doc part to (map (map needed) variants)) h in
      λ i. some_missing tests parts.0 i && each_missing variants parts.1 i

  -- ---- phrases and words

  pub variants_out : (variants : List (List ItemTest)) → ends_before to (variants_skip doc part (map (opened_variant looks stems version) variants)) ≡ variants_lack absent variants
  variants_out variants =
      ends_variants doc part to (map (opened_variant looks stems version) variants)
      ∙ list_all-map (λ (words : List WordTerms). list_any missing words) (opened_variant looks stems version) variants
      ∙ (λ i. list_all (λ (tests : List ItemTest). list_any-map missing opened tests i) variants)

  phrase_out : (plan : PhrasePlan) → ends_before to (phrase_skip doc part (opened_phrase looks stems version plan)) ≡ phrase_lacks absent plan
  phrase_out plan =
      ends_soonest to (λ (group : GroupShape). variants_skip doc part group.terms) (opened_phrase looks stems version plan)
      ∙ list_all-map (λ (group : GroupShape). ends_before to (variants_skip doc part group.terms)) (opened_group looks stems version) plan.groups
      ∙ (λ i. list_all (λ (variants : List (List ItemTest)). variants_out variants i) plan.groups)

  words_lack : (plan : WordsPlan) → ends_before to (words_skip doc part (opened_words looks stems version plan)) ≡ true → (enough plan.times 0 ≡ false) × (phrases_lack absent plan.all plan.phrases ≡ true)
  words_lack plan h = by (enough plan.times 0) h
    where
      skip_of : List PhrasePlan → Bool → Option ℕ
      skip_of phrases all = cond all (latest (map (phrase_skip doc part) (map (opened_phrase looks stems version) phrases))) (soonest (map (phrase_skip doc part) (map (opened_phrase looks stems version) phrases)))

      by_all : (all : Bool) → ends_before to (skip_of plan.phrases all) ≡ true → phrases_lack absent all plan.phrases ≡ true
      by_all true out =
          sym (ends_latest to (phrase_skip doc part) (map (opened_phrase looks stems version) plan.phrases)
          ∙ list_any-map (λ phrase. ends_before to (phrase_skip doc part phrase)) (opened_phrase looks stems version) plan.phrases
          ∙ (λ i. list_any (λ (phrase : PhrasePlan). phrase_out phrase i) plan.phrases))
          ∙ out
      by_all false out =
          sym (ends_soonest to (phrase_skip doc part) (map (opened_phrase looks stems version) plan.phrases)
          ∙ list_all-map (λ phrase. ends_before to (phrase_skip doc part phrase)) (opened_phrase looks stems version) plan.phrases
          ∙ (λ i. list_all (λ (phrase : PhrasePlan). phrase_out phrase i) plan.phrases))
          ∙ out

      by : (b : Bool) → ends_before to (cond b (Some 0) (skip_of plan.phrases plan.all)) ≡ true → (b ≡ false) × (phrases_lack absent plan.all plan.phrases ≡ true)
      by true out = absurd (true≢false (sym out ∙ nothing_before to))
      by false out = (refl, by_all plan.all out)

  -- ---- what is made of phrases

  pub variants_found : (found : PhraseTests) → ends_before to (variants_skip doc part (map (opened_variant looks stems version) found.variants)) ≡ true → found_lacks absent found ≡ true
  variants_found found h = lack_each absent found.variants (sym (variants_out found.variants) ∙ h)

  pub skip_lacks : (plan : OperatorPlan) → ends_before to (opened_skip looks stems version plan doc part) ≡ true → operator_lacks absent plan ≡ true
  unfolding opened_skip operator_lacks
  skip_lacks (Phrase found) h = lack_each absent found.variants (each_missing found.variants (sym (ends_variants doc part to (map (map needed) found.variants)) ∙ h))
  skip_lacks (Choice' p left right) h =
      let sides = ends_sooner to (opened_skip looks stems version left doc part) (opened_skip looks stems version right doc part) in
      let parts = and_parts (ends_before to (opened_skip looks stems version left doc part)) (ends_before to (opened_skip looks stems version right doc part)) (sym sides ∙ h) in
      λ i. skip_lacks left parts.0 i && skip_lacks right parts.1 i
  skip_lacks (Both' p left right) h =
      let sides = ends_later to (opened_skip looks stems version left doc part) (opened_skip looks stems version right doc part) in
      elim (or_cases (ends_before to (opened_skip looks stems version left doc part)) (ends_before to (opened_skip looks stems version right doc part)) (sym sides ∙ h)) [
        | inl first ↦ or_left (operator_lacks absent left) (operator_lacks absent right) (skip_lacks left first)
        | inr then ↦ or_right (operator_lacks absent left) (operator_lacks absent right) (skip_lacks right then)
      ]
  skip_lacks (MildNot' p left right) h = skip_lacks left h
  skip_lacks (Negated' p operand) h = absurd (true≢false (sym h ∙ nothing_before to))
  skip_lacks (Filtered' p operand kind) h = skip_lacks operand h

  -- ---- single words that are joined

  test_out : (test : ItemTest) → asks_nothing test ≡ false → list_all out (test_terms looks stems version test) ≡ true → absent test ≡ true
  test_out test asks h =
      ap (λ b. missing (cond b Terms.Any (Terms.Of (test_terms looks stems version test)))) asks
      ∙ ends_soonest to (first_in doc part) (test_terms looks stems version test)
      ∙ h

  tests_out : (tests : List ItemTest) → list_all (λ test. not (asks_nothing test)) tests ≡ true → list_all out (flat_map (test_terms looks stems version) tests) ≡ true
      → is_none_or (some_absent absent) tests ≡ true
  tests_out [] asks h = refl
  tests_out (test ∷ tests) asks h =
      let own = and_parts (not (asks_nothing test)) (list_all (λ t. not (asks_nothing t)) tests) asks in
      let parts = and_parts (list_all out (test_terms looks stems version test)) (list_all out (flat_map (test_terms looks stems version) tests))
      (sym (list_all-append out (test_terms looks stems version test) (flat_map (test_terms looks stems version) tests)) ∙ h) in
      or_left (absent test) (some_absent absent tests) (test_out test (not-true (asks_nothing test) own.0) parts.0)

  word_out : (variants : List (List ItemTest)) → list_all is_single variants ≡ true → list_all out (flat_map (flat_map (test_terms looks stems version)) variants) ≡ true
      → list_all (is_none_or (some_absent absent)) variants ≡ true
  word_out [] words h = refl
  word_out (tests ∷ variants) words h =
      let single = and_parts (is_single tests) (list_all is_single variants) words in
      let asks = and_parts (length tests == 1) (list_all (λ test. not (asks_nothing test)) tests) single.0 in
      let parts = and_parts (list_all out (flat_map (test_terms looks stems version) tests)) (list_all out (flat_map (flat_map (test_terms looks stems version)) variants))
      (sym (list_all-append out (flat_map (test_terms looks stems version) tests) (flat_map (flat_map (test_terms looks stems version)) variants)) ∙ h) in
      λ i. tests_out tests asks.1 parts.0 i && word_out variants single.1 parts.1 i

  words_out : (phrases : List PhraseTests) → list_all is_word phrases ≡ true
      → list_any (λ terms. ends_before to (terms_skip doc part terms)) (map (phrase_terms looks stems version) phrases) ≡ true → list_any (found_lacks absent) phrases ≡ true
  words_out [] words h = h
  words_out (found ∷ phrases) words h =
      let parts = and_parts (is_word found) (list_all is_word phrases) words in
      elim (or_cases (ends_before to (terms_skip doc part (phrase_terms looks stems version found))) (list_any (λ terms. ends_before to (terms_skip doc part terms)) (map (phrase_terms looks stems version) phrases)) h) [
        | inl here ↦ or_left (found_lacks absent found) (list_any (found_lacks absent) phrases)
            (word_out found.variants parts.0 (sym (ends_soonest to (first_in doc part) (phrase_terms looks stems version found)) ∙ here))
        | inr after ↦ or_right (found_lacks absent found) (list_any (found_lacks absent) phrases) (words_out phrases parts.1 after)
      ]

  joined_lack : (plan : OperatorPlan) → list_any (found_lacks absent) (joined_phrases plan) ≡ true → operator_lacks absent plan ≡ true
  unfolding joined_phrases operator_lacks
  joined_lack (Phrase found) h = elim (or_cases (found_lacks absent found) false h) [ inl here ↦ here | inr none ↦ absurd (true≢false (sym none)) ]
  joined_lack (Choice' p left right) h = absurd (true≢false (sym h))
  joined_lack (Both' p left right) h =
      elim (or_cases (list_any (found_lacks absent) (joined_phrases left)) (list_any (found_lacks absent) (joined_phrases right))
      (sym (list_any-append (found_lacks absent) (joined_phrases left) (joined_phrases right)) ∙ h)) [
        | inl first ↦ or_left (operator_lacks absent left) (operator_lacks absent right) (joined_lack left first)
        | inr then ↦ or_right (operator_lacks absent left) (operator_lacks absent right) (joined_lack right then)
      ]
  joined_lack (MildNot' p left right) h = absurd (true≢false (sym h))
  joined_lack (Negated' p operand) h = absurd (true≢false (sym h))
  joined_lack (Filtered' p operand kind) h = absurd (true≢false (sym h))

  pub merge_lacks : (operand : OperatorPlan) → list_all is_word (joined_phrases operand) ≡ true
      → ends_before to (latest (map (terms_skip doc part) (map (phrase_terms looks stems version) (joined_phrases operand)))) ≡ true → operator_lacks absent operand ≡ true
  merge_lacks operand words h =
      joined_lack operand (words_out (joined_phrases operand) words (sym (ends_latest to (terms_skip doc part) (map (phrase_terms looks stems version) (joined_phrases operand))) ∙ h))

  -- ---- counts

  groups_out : (found : PhraseTests) → list_all (λ (group : ℕ × List (List WordTerms)). ends_before to (variants_skip doc part group.1)) (opened_groups looks stems version found) ≡ true
      → found_lacks absent found ≡ true
  groups_out found h =
      all_grouped (some_absent absent) found.variants
      (sym (ap (list_all (λ (group : ℕ × List (List WordTerms)). ends_before to (variants_skip doc part group.1))) (by_length-map opened found.variants)
      ∙ list_all-map (λ (group : ℕ × List (List WordTerms)). ends_before to (variants_skip doc part group.1)) (map_group opened) (by_length found.variants)
      ∙ (λ i. list_all (λ (group : ℕ × List (List ItemTest)). variants_out group.1 i) (by_length found.variants)))
      ∙ h)

  phrases_out : (phrases : List PhraseTests) → list_all (λ (group : ℕ × List (List WordTerms)). ends_before to (variants_skip doc part group.1)) (flat_map (opened_groups looks stems version) phrases) ≡ true
      → list_all (found_lacks absent) phrases ≡ true
  phrases_out [] h = refl
  phrases_out (found ∷ phrases) h =
      let is = λ (group : ℕ × List (List WordTerms)). ends_before to (variants_skip doc part group.1) in
      let parts = and_parts (list_all is (opened_groups looks stems version found)) (list_all is (flat_map (opened_groups looks stems version) phrases))
      (sym (list_all-append is (opened_groups looks stems version found) (flat_map (opened_groups looks stems version) phrases)) ∙ h) in
      λ i. groups_out found parts.0 i && phrases_out phrases parts.1 i

  count_out : (item : CountedWords) → ends_before to (item_skip doc part (opened_count looks stems version item)) ≡ true → item_lacks absent item ≡ true
  count_out item h = by (nat_lt 0 item.least) h
    where
      by : (b : Bool) → ends_before to (cond b (soonest (map (λ (group : ℕ × List (List WordTerms)). variants_skip doc part group.1) (flat_map (opened_groups looks stems version) item.phrases))) (Some 0)) ≡ true
          → (b && list_all (found_lacks absent) item.phrases) ≡ true
      by true out =
          phrases_out item.phrases
          (sym (ends_soonest to (λ (group : ℕ × List (List WordTerms)). variants_skip doc part group.1) (flat_map (opened_groups looks stems version) item.phrases)) ∙ out)
      by false out = absurd (true≢false (sym out ∙ nothing_before to))

  some_out : (items : List CountedWords) → list_any (λ item. ends_before to (item_skip doc part item)) (map (opened_count looks stems version) items) ≡ true → list_any (item_lacks absent) items ≡ true
  some_out [] h = h
  some_out (item ∷ items) h =
      elim (or_cases (ends_before to (item_skip doc part (opened_count looks stems version item))) (list_any (λ other. ends_before to (item_skip doc part other)) (map (opened_count looks stems version) items)) h) [
        | inl here ↦ or_left (item_lacks absent item) (list_any (item_lacks absent) items) (count_out item here)
        | inr after ↦ or_right (item_lacks absent item) (list_any (item_lacks absent) items) (some_out items after)
      ]

  pub counts_lack : (plan : CountedPlan) → ends_before to (counts_skip doc part (opened_counts looks stems version plan)) ≡ true → list_any (item_lacks absent) plan.items ≡ true
  counts_lack plan h = some_out plan.items (sym (ends_latest to (item_skip doc part) (map (opened_count looks stems version) plan.items)) ∙ h)

-- ---- tokens with words of a span alone that ends before what is needed

module _ (looks : Looks) (stems : List Stem) (version : List Numbered) (part : Span) (asked : AskedSpan) (tokens : List Token) (left : AreLeft version part asked tokens) where
  abbrev pub absent_there : ItemTest → Bool
  absent_there = absent looks stems version asked.doc part asked.span.to

  left_clear : IsClear (λ test token. passes test (word_as looks stems token.word)) absent_there tokens
  left_clear test none k d lt =
      let word = (get_or tokens k d).word in
      let among : Contains (words_in version asked) word =
      subst (λ (words : List (List ℕ)). Contains words word) (words_of_span asked.span (document_at asked.doc version)) (left.words k d lt) in
      let known = All-contains (IsKnown version) (words_in version asked) word (text_known version asked left.there) among in
      sym (item_says looks stems version word known test)
      ∙ word_missing version asked.doc part asked.span left.within left.there.inside.first (opened_item looks stems version test) word among (item_there looks stems version test) none

  words_clear : IsClear passes absent_there (words_of_tokens looks stems tokens)
  words_clear test none = All-map (λ w. passes test w ≡ false) (λ (token : Token). word_as looks stems token.word) tokens (left_clear test none)

  pub none_words : (plan : WordsPlan) → ends_before asked.span.to (words_skip asked.doc part (opened_words looks stems version plan)) ≡ true → words_truth plan (words_of_tokens looks stems tokens) ≡ false
  none_words plan h =
      let lack = words_lack looks stems version asked.doc part asked.span.to plan h in
      no_words absent_there (words_of_tokens looks stems tokens) words_clear plan lack.0 lack.1

  pub none_ways : (plan : WaysPlan) → operator_lacks absent_there plan.operator ≡ true → truth (N.Ways plan) (looked_text looks stems tokens) ≡ false
  none_ways plan h =
      truth-Ways plan (looked_text looks stems tokens)
      ∙ ap satisfied (no_matches absent_there looks stems tokens left_clear (whole_text tokens) plan.operator h)

  pub none_counts : (plan : CountedPlan) → ends_before asked.span.to (counts_skip asked.doc part (opened_counts looks stems version plan)) ≡ true → truth (N.Counted plan) (looked_text looks stems tokens) ≡ false
  none_counts plan h =
      truth-Counted plan (looked_text looks stems tokens)
      ∙ no_counts absent_there looks stems tokens left_clear plan (counts_lack looks stems version asked.doc part asked.span.to plan h)
