-- Single words that are joined under a window, `ordered`, `same sentence` or `same paragraph` satisfy it exactly where a merge of their hits says so.
use Rattle.std.proofs.Common.{◌≡◌, refl, sym, ap, subst, ◌∙◌, ℕ, zero, suc, ◌+◌, ◌-◌, ◌==◌, ◌≤◌, Bool, true, false, ◌&&◌, not, cond, true≢false, List, [], ◌∷◌, ◌++◌, map, filter, flat_map, length, get_or, Some, append-nil, arith}
use Rattle.std.specs.Prelude.{nat_le}
use Rattle.std.specs.List.{list_all, list_any, range_with_len}
use Rattle.std.proofs.lemmas.Bool.{and_from, and_parts, eqb-true, eq-eqb, le-leb, leb-true, not-true}
use Rattle.std.proofs.lemmas.List.{length-map}
use Rattle.std.proofs.lemmas.List.Folds.{flat_map-map}
use Rattle.ft_base.specs.declared.filter.Filter.{Filter}
use Rattle.ft_base.specs.declared.hit.Hit.{Hit}
use Rattle.ft_base.specs.declared.places.Breaks.{Breaks}
use Rattle.ft_base.specs.declared.span.Span.{Span}
use Rattle.ft_base.specs.declared.unit.TextUnit.TheVariants as Unit
use Rattle.all_matches.specs.Boolean.{satisfied}
use Rattle.all_matches.specs.Ways.{through_filter, matches_of}
use Rattle.index_meaning.specs.Documents.{Numbered, breaks_of, document_at}
use Rattle.index_versions.specs.Terms.{VersionTerm, aimed_at, version_term}
use Rattle.index_versions.specs.Versions.{term_hits}
use Rattle.index_phrases.specs.Phrases.{own_number, phrase_hits, numbered_hit, wanted_at}
use Rattle.index_phrases.specs.declared.word_terms.WordTerms.TheVariants as Terms
use Rattle.place_merges.specs.Places.{Wanted, fits, one_of}
use Rattle.place_merges.specs.Sources.{places_left}
use Rattle.place_merges.specs.Spots.{some_at, spot, spots_between}
use Rattle.place_merges.specs.steps.Searching.{has}
use Rattle.window_merges.specs.Rows.{places_in}
use Rattle.window_merges.specs.Words.{are_numbered, are_single, are_told, filtered_words, first_words}
use Rattle.window_merges.proofs.SingleSpots.{single_spots}
use Rattle.window_merges.proofs.WantedLemmas.{wanted_places}
use Rattle.word_lists.specs.Stems.{Stem}
use Rattle.plan_compiler.specs.Operators.{LookedText, hits_by_tests, looked_text, operator_at}
use Rattle.plan_compiler.specs.ItemTests.{asks_nothing}
use Rattle.plan_runs.specs.steps.AskedSpans.{AskedSpan, IsAsked, tokens_in}
use Rattle.plan_runs.specs.steps.ChosenTerms.{terms_for}
use Rattle.plan_compiler.specs.CheapPlans.{is_single, is_word}
use Rattle.plan_kinds.specs.steps.JoinedPhrases.{joined_of, joined_phrases}
use Rattle.plan_kinds.specs.steps.MergeKinds.{merge_kind}
use Rattle.plan_kinds.specs.declared.joined.Joined.{Joined}
use Rattle.plan_kinds.proofs.FilteredLaw.{words_law}
use Rattle.plan_kinds.proofs.JoinedLaw.{from_number, joined_law}
use Rattle.plan_kinds.specs.steps.MergeKinds.{stand_as}
use Rattle.plan_runs.specs.steps.Merges.{phrase_terms, terms_places, test_terms}
use Rattle.plan_runs.specs.steps.OpenedItems.{opened_item, opened_variant, word_test}
use Rattle.plan_compiler.specs.declared.item_matching.ItemTest.{ItemTest}
use Rattle.plan_compiler.specs.declared.looks.Looks.{Looks}
use Rattle.plan_kinds.specs.declared.merge_kind.MergeKind.{MergeKind}
use Rattle.plan_compiler.specs.declared.operator_plan.OperatorPlan.{OperatorPlan}
use Rattle.plan_compiler.specs.declared.operator_plan.PhraseTests.{PhraseTests}
use Rattle.plan_runs.proofs.OpenedWays.{phrase_law}
use Rattle.plan_runs.proofs.MergeKinds as kinds
use Rattle.plan_runs.proofs.MergeKinds.{own_unit, stand_counted, stand_in_span, stand_same}

-- the hits of a phrase, by its tests
abbrev hits_of : LookedText → PhraseTests → List Hit
hits_of text found = hits_by_tests text found.number found.variants

-- ---- hits of single words

pub record IsOne (tests : List ItemTest) : Type 0 where
  pub test : ItemTest
  pub is : tests ≡ test ∷ []
  pub asks : asks_nothing test ≡ false

pub one_test : (tests : List ItemTest) → is_single tests ≡ true → IsOne tests
one_test [] h = absurd (true≢false (sym h))
one_test (test ∷ []) h =
    let asks = and_parts (not (asks_nothing test)) true h in
    record { test = test; is = refl; asks = not-true (asks_nothing test) asks.0 }
one_test (test ∷ other ∷ rest) h =
    let parts = and_parts (length (test ∷ other ∷ rest) == 1) (list_all (λ t. not (asks_nothing t)) (test ∷ other ∷ rest)) h in
    let long = eqb-true (length (test ∷ other ∷ rest)) 1 parts.0 in
    absurd (omega (arith, long))

all_within : (p q : ℕ → Bool) (xs : List ℕ) → list_all p xs ≡ true → list_all p (filter q xs) ≡ true
all_within p q [] h = refl
all_within p q (x ∷ xs) h =
    let parts = and_parts (p x) (list_all p xs) h in
    let rest = all_within p q xs parts.1 in
    elim (q x) as (λ b. list_all p (cond b (x ∷ filter q xs) (filter q xs)) ≡ true) [
      | true ↦ and_from (p x) (list_all p (filter q xs)) parts.0 rest
      | false ↦ rest
    ]

range_after : (offset from count : ℕ) → offset ≤ from → list_all (nat_le offset) (range_with_len from count) ≡ true
range_after offset from zero h = refl
range_after offset from (suc count) h =
    and_from (nat_le offset from) (list_all (nat_le offset) (range_with_len (from + 1) count)) (le-leb offset from h) (range_after offset (from + 1) count (omega (arith, h)))

-- the hits of a word at places of a span
module _ (number : ℕ) (breaks : Breaks) (span : Span) where
  abbrev hits_on : List ℕ → List Hit
  hits_on places = map (numbered_hit number breaks span) (map (λ place. spot place 1) places)

  firsts : (places : List ℕ) → map (λ hit. hit.from) (hits_on places) ≡ map (λ place. place - (span.from - 1)) places
  firsts [] = refl
  firsts (place ∷ places) = ap (λ rest. (place - (span.from - 1)) ∷ rest) (firsts places)

  single_hits : (places : List ℕ) → list_all (λ hit. hit.to == hit.from) (hits_on places) ≡ true
  single_hits [] = refl
  single_hits (place ∷ places) =
      and_from ((place + (1 - 1)) - (span.from - 1) == place - (span.from - 1)) (list_all (λ hit. hit.to == hit.from) (hits_on places))
      (eq-eqb ((place + (1 - 1)) - (span.from - 1)) (place - (span.from - 1)) (omega arith)) (single_hits places)

  own_hits : (places : List ℕ) → list_all (λ hit. hit.query == number) (hits_on places) ≡ true
  own_hits [] = refl
  own_hits (place ∷ places) = and_from (number == number) (list_all (λ hit. hit.query == number) (hits_on places)) (eq-eqb number number refl) (own_hits places)

  -- a place after the first of the span is told as it is counted
  told_place : (starts : List ℕ) (place : ℕ) → span.from ≤ place → own_number starts span.from place ≡ own_unit starts span.from (place - (span.from - 1))
  told_place starts place h = let is : place ≡ (place - (span.from - 1)) + (span.from - 1) = omega (arith, h) in ap (own_number starts span.from) is

  last_told : (starts : List ℕ) (place : ℕ) → span.from ≤ place → own_number starts span.from (place + (1 - 1)) ≡ own_unit starts span.from (place - (span.from - 1))
  last_told starts place h = let is : place + (1 - 1) ≡ place = omega arith in ap (own_number starts span.from) is ∙ told_place starts place h

  in_sentences : (places : List ℕ) → list_all (nat_le span.from) places ≡ true → are_told Unit.Sentences (own_unit breaks.sentences span.from) (hits_on places ∷ []) ≡ true
  in_sentences places h = and_from (list_all (λ (hit : Hit). (hit.sent_from == own_unit breaks.sentences span.from hit.from) && (hit.sent_to == own_unit breaks.sentences span.from hit.from)) (hits_on places)) true (each places h) refl
    where
      each : (xs : List ℕ) → list_all (nat_le span.from) xs ≡ true
          → list_all (λ (hit : Hit). (hit.sent_from == own_unit breaks.sentences span.from hit.from) && (hit.sent_to == own_unit breaks.sentences span.from hit.from)) (hits_on xs) ≡ true
      each [] h = refl
      each (place ∷ xs) h =
          let parts = and_parts (nat_le span.from place) (list_all (nat_le span.from) xs) h in
          let order = leb-true span.from place parts.0 in
          let unit = own_unit breaks.sentences span.from (place - (span.from - 1)) in
          and_from ((own_number breaks.sentences span.from place == unit) && (own_number breaks.sentences span.from (place + (1 - 1)) == unit)) _
          (and_from (own_number breaks.sentences span.from place == unit) (own_number breaks.sentences span.from (place + (1 - 1)) == unit)
          (eq-eqb (own_number breaks.sentences span.from place) unit (told_place breaks.sentences place order))
          (eq-eqb (own_number breaks.sentences span.from (place + (1 - 1))) unit (last_told breaks.sentences place order))) (each xs parts.1)

  in_paragraphs : (places : List ℕ) → list_all (nat_le span.from) places ≡ true → are_told Unit.Paragraphs (own_unit breaks.paragraphs span.from) (hits_on places ∷ []) ≡ true
  in_paragraphs places h = and_from (list_all (λ (hit : Hit). (hit.para_from == own_unit breaks.paragraphs span.from hit.from) && (hit.para_to == own_unit breaks.paragraphs span.from hit.from)) (hits_on places)) true (each places h) refl
    where
      each : (xs : List ℕ) → list_all (nat_le span.from) xs ≡ true
          → list_all (λ (hit : Hit). (hit.para_from == own_unit breaks.paragraphs span.from hit.from) && (hit.para_to == own_unit breaks.paragraphs span.from hit.from)) (hits_on xs) ≡ true
      each [] h = refl
      each (place ∷ xs) h =
          let parts = and_parts (nat_le span.from place) (list_all (nat_le span.from) xs) h in
          let order = leb-true span.from place parts.0 in
          let unit = own_unit breaks.paragraphs span.from (place - (span.from - 1)) in
          and_from ((own_number breaks.paragraphs span.from place == unit) && (own_number breaks.paragraphs span.from (place + (1 - 1)) == unit)) _
          (and_from (own_number breaks.paragraphs span.from place == unit) (own_number breaks.paragraphs span.from (place + (1 - 1)) == unit)
          (eq-eqb (own_number breaks.paragraphs span.from place) unit (told_place breaks.paragraphs place order))
          (eq-eqb (own_number breaks.paragraphs span.from (place + (1 - 1))) unit (last_told breaks.paragraphs place order))) (each xs parts.1)

-- ---- words over a version

module _ (looks : Looks) (stems : List Stem) (version : List Numbered) (asked : AskedSpan) where
  abbrev span : Span
  span = asked.span

  abbrev breaks : Breaks
  breaks = breaks_of (document_at asked.doc version)

  abbrev offset : ℕ
  offset = span.from - 1

  abbrev terms_of : PhraseTests → List VersionTerm
  terms_of found = phrase_terms looks stems version found

  -- what the terms of the variants of a phrase want
  abbrev wants : List (List ItemTest) → List Wanted
  wants variants =
      map (λ (sources : List VersionTerm). one_of (map (λ source. places_left (aimed_at asked.doc span source)) sources)) (map (flat_map (test_terms looks stems version)) variants)

  -- the places of the span at which it stands
  abbrev fitting : PhraseTests → List ℕ
  fitting found = filter (λ place. list_any (fits place) (wants found.variants)) (range_with_len span.from (span.to - span.from))

  terms_wanted : (numbers : List ℕ) → map (λ (source : VersionTerm). map (λ (hit : Hit). hit.from) (term_hits source.term asked.doc span version)) (map (version_term version) numbers)
      ≡ map (λ source. places_left (aimed_at asked.doc span source)) (map (version_term version) numbers)
  terms_wanted [] = refl
  terms_wanted (number ∷ numbers) = ap (λ rest. map (λ (hit : Hit). hit.from) (term_hits number asked.doc span version) ∷ rest) (terms_wanted numbers)

  test_wanted : (test : ItemTest) → asks_nothing test ≡ false → wanted_at version asked.doc span (opened_item looks stems version test)
      ≡ one_of (map (λ source. places_left (aimed_at asked.doc span source)) (test_terms looks stems version test ++ []))
  test_wanted test asks =
      let numbers = terms_for (word_test looks stems test) version in
      ap (λ b. wanted_at version asked.doc span (cond b Terms.Any (Terms.Of (map (version_term version) numbers)))) asks
      ∙ ap one_of (terms_wanted numbers)
      ∙ ap (λ (terms : List VersionTerm). one_of (map (λ source. places_left (aimed_at asked.doc span source)) terms)) (sym (append-nil (map (version_term version) numbers)))

  single_wanted : (variants : List (List ItemTest)) → list_all is_single variants ≡ true
      → map (map (wanted_at version asked.doc span)) (map (opened_variant looks stems version) variants) ≡ map (λ wanted. wanted ∷ []) (wants variants)
  single_wanted [] h = refl
  single_wanted (tests ∷ variants) h =
      let parts = and_parts (is_single tests) (list_all is_single variants) h in
      let one = one_test tests parts.0 in
      (λ i. map (wanted_at version asked.doc span) (opened_variant looks stems version (one.is i)) ∷ single_wanted variants parts.1 i)
      ∙ (λ i. (test_wanted one.test one.asks i ∷ []) ∷ map (λ wanted. wanted ∷ []) (wants variants))
      ∙ (λ i. (one_of (map (λ source. places_left (aimed_at asked.doc span source)) (flat_map (test_terms looks stems version) (sym one.is i))) ∷ []) ∷ map (λ wanted. wanted ∷ []) (wants variants))

  phrase_on : (found : PhraseTests) → list_all is_single found.variants ≡ true
      → phrase_hits version found.number (map (opened_variant looks stems version) found.variants) asked.doc span ≡ hits_on found.number breaks span (fitting found)
  phrase_on found h =
      ap (λ (variants : List (List Wanted)). map (numbered_hit found.number breaks span) (filter (some_at span.to variants) (spots_between span.from span.to))) (single_wanted found.variants h)
      ∙ ap (map (numbered_hit found.number breaks span)) (single_spots span.to (wants found.variants) span.from)

  abbrev word_hits : PhraseTests → List Hit
  word_hits found = hits_on found.number breaks span (fitting found)

  all_firsts : (phrases : List PhraseTests) → first_words (map word_hits phrases) ≡ map (map (λ place. place - offset)) (map fitting phrases)
  all_firsts [] = refl
  all_firsts (found ∷ phrases) = λ i. firsts found.number breaks span (fitting found) i ∷ all_firsts phrases i

  all_hits_single : (phrases : List PhraseTests) → are_single (map word_hits phrases) ≡ true
  all_hits_single [] = refl
  all_hits_single (found ∷ phrases) =
      and_from (list_all (λ hit. hit.to == hit.from) (word_hits found)) (are_single (map word_hits phrases)) (single_hits found.number breaks span (fitting found)) (all_hits_single phrases)

  all_numbered : (number : ℕ) (phrases : List PhraseTests) → from_number number phrases ≡ true → are_numbered number (map word_hits phrases) ≡ true
  all_numbered number [] h = refl
  all_numbered number (found ∷ phrases) h =
      let parts = and_parts (found.number == number) (from_number (number + 1) phrases) h in
      and_from (list_all (λ hit. hit.query == number) (word_hits found)) (are_numbered (number + 1) (map word_hits phrases))
      (subst (λ n. list_all (λ hit. hit.query == n) (word_hits found) ≡ true) (eqb-true found.number number parts.0) (own_hits found.number breaks span (fitting found)))
      (all_numbered (number + 1) phrases parts.1)

  one_after_first : (found : PhraseTests) → list_all (nat_le span.from) (fitting found) ≡ true
  one_after_first found =
      all_within (nat_le span.from) (λ place. list_any (fits place) (wants found.variants)) (range_with_len span.from (span.to - span.from))
      (range_after span.from span.from (span.to - span.from) (omega arith))

  all_after : (phrases : List PhraseTests) → list_all (list_all (nat_le span.from)) (map fitting phrases) ≡ true
  all_after [] = refl
  all_after (found ∷ phrases) =
      and_from (list_all (nat_le span.from) (fitting found)) (list_all (list_all (nat_le span.from)) (map fitting phrases)) (one_after_first found) (all_after phrases)

  all_in_sentences : (phrases : List PhraseTests) → are_told Unit.Sentences (own_unit breaks.sentences span.from) (map word_hits phrases) ≡ true
  all_in_sentences [] = refl
  all_in_sentences (found ∷ phrases) =
      and_from _ _ (and_parts _ true (in_sentences found.number breaks span (fitting found) (one_after_first found))).0 (all_in_sentences phrases)

  all_in_paragraphs : (phrases : List PhraseTests) → are_told Unit.Paragraphs (own_unit breaks.paragraphs span.from) (map word_hits phrases) ≡ true
  all_in_paragraphs [] = refl
  all_in_paragraphs (found ∷ phrases) =
      and_from _ _ (and_parts _ true (in_paragraphs found.number breaks span (fitting found) (one_after_first found))).0 (all_in_paragraphs phrases)

  word_places : (found : PhraseTests) (place : ℕ) → has (fitting found) place ≡ has (terms_places asked (terms_of found)) place
  word_places found place =
      wanted_places (aimed_at asked.doc span) span (map (flat_map (test_terms looks stems version)) found.variants) place
      ∙ ap (λ (terms : List VersionTerm). has (places_in (aimed_at asked.doc span) span terms) place)
      (flat_map-map (λ (terms : List VersionTerm). terms) (flat_map (test_terms looks stems version)) found.variants)

  all_places_same : (phrases : List PhraseTests) (number place : ℕ)
      → has (get_or (map fitting phrases) number []) place ≡ has (get_or (map (terms_places asked) (map terms_of phrases)) number []) place
  all_places_same [] number place = refl
  all_places_same (found ∷ phrases) zero place = word_places found place
  all_places_same (found ∷ phrases) (suc number) place = all_places_same phrases number place

  all_long : (phrases : List PhraseTests) → length (map fitting phrases) ≡ length (map (terms_places asked) (map terms_of phrases))
  all_long [] = refl
  all_long (found ∷ phrases) = ap suc (all_long phrases)

  module _ (there : IsAsked version asked) where
    abbrev text : LookedText
    text = looked_text looks stems (tokens_in version asked)

    hits_are : (phrases : List PhraseTests) → list_all is_word phrases ≡ true → map (hits_of text) phrases ≡ map word_hits phrases
    hits_are [] h = refl
    hits_are (found ∷ phrases) h =
        let parts = and_parts (list_all is_single found.variants) (list_all is_word phrases) h in
        λ i. (sym (phrase_law looks stems version asked there found.number found.variants) ∙ phrase_on found parts.0) i ∷ hits_are phrases parts.1 i

    -- words that are joined under a filter satisfy it exactly where the merge says so
    pub merge_law : (operand : OperatorPlan) (joined : Joined) (filter : Filter) (kind : MergeKind) (item : Span) → joined_of operand ≡ Some joined → merge_kind filter joined ≡ Some kind
        → satisfied (matches_of item (through_filter (operator_at text operand) filter)) ≡ stand_as breaks kind (map (terms_places asked) (map terms_of (joined_phrases operand)))
    unfolding operator_at
    merge_law operand joined filter kind item phrases_are is =
        let made = words_law filter joined kind is in
        let own = joined_law operand joined phrases_are in
        let phrases = own.first ∷ own.rest in
        let counted : joined.last ≡ joined.first + length (map word_hits own.rest) = let long = own.counted in let mapped = length-map own.rest word_hits in omega (arith, long, mapped) in
        ap (λ operator. satisfied (matches_of item (through_filter operator filter))) (own.same (operator_at text) (hits_of text) (λ found. refl) (λ p left right. refl))
        ∙ ap (λ hits. satisfied (matches_of item (filtered_words filter hits))) (hits_are phrases (own.words made.0))
        ∙ kinds.merge_law breaks span.from joined filter kind made.1 item (word_hits own.first) (map word_hits own.rest) counted (record {
          single = all_hits_single phrases;
          numbered = all_numbered joined.first phrases own.numbered;
          sentences = all_in_sentences phrases;
          paragraphs = all_in_paragraphs phrases;
        })
        ∙ ap (stand_in_span breaks span.from kind) (all_firsts phrases)
        ∙ stand_counted breaks span.from kind (map fitting phrases) (all_after phrases)
        ∙ stand_same breaks kind (map fitting phrases) (map (terms_places asked) (map terms_of phrases)) (all_long phrases) (all_places_same phrases)
        ∙ ap (λ (ps : List PhraseTests). stand_as breaks kind (map (terms_places asked) (map terms_of ps))) (sym own.phrases)
