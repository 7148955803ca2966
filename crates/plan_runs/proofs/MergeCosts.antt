-- What a merge costs: a move for each cursor that is aimed, and two for each hit, and no more than the tests of its words.
use Rattle.std.proofs.Common.{◌≡◌, refl, sym, ap, ◌∙◌, ℕ, suc, ◌+◌, ◌*◌, ◌≤◌, true, false, cond, ◌&&◌, List, [], ◌∷◌, ◌++◌, map, filter, flat_map, length, append-nil, Vec, Global, arith}
use Rattle.std.specs.Prelude.{nat_le, nat_lt}
use Rattle.std.specs.List.{All, list_all, sum_by}
use Rattle.std.proofs.lemmas.Bool.{and_from, and_parts}
use Rattle.std.proofs.lemmas.List.{length-append, length-map, map-append}
use Rattle.std.proofs.lemmas.List.Folds.{flat_map-map}
use Rattle.std.proofs.lemmas.List.Sums.{sum_by-append, sum_by-cons}
use Rattle.ft_base.specs.Hits.{HitPlace}
use Rattle.ft_base.specs.declared.hit.Hit.{Hit}
use Rattle.index_meaning.specs.Documents.{Numbered}
use Rattle.index_versions.specs.Terms.{VersionTerm, aimed_at}
use Rattle.index_phrases.specs.declared.word_terms.WordTerms.{WordTerms}
use Rattle.index_phrases.specs.declared.word_terms.WordTerms.TheVariants as Terms
use Rattle.place_merges.specs.Sources.{places_left}
use Rattle.window_merges.specs.Rows.{all_places, places_in, word_lists, words_left, words_plain}
use Rattle.word_lists.specs.Stems.{Stem}
use Rattle.plan_compiler.specs.NodeCosts.{operator_cost}
use Rattle.plan_compiler.specs.ItemTests.{asks_nothing}
use Rattle.plan_runs.specs.steps.AskedPlaces.{aimed, asked_at, hits_at}
use Rattle.plan_runs.specs.steps.ChosenTerms.{numbers_of}
use Rattle.plan_compiler.specs.CheapPlans.{is_single, is_word}
use Rattle.plan_kinds.specs.steps.JoinedPhrases.{joined_phrases}
use Rattle.plan_runs.specs.steps.Merges.{phrase_terms, terms_places, test_terms}
use Rattle.plan_runs.specs.steps.OpenedItems.{opened_item}
use Rattle.plan_runs.specs.steps.RunCosts.{IsFair, moves_for, term_count}
use Rattle.plan_runs.specs.steps.RunShapes.{count_of, cursors_of}
use Rattle.plan_runs.specs.declared.asked_place.AskedPlace.{AskedPlace}
use Rattle.plan_compiler.specs.declared.item_matching.ItemTest.{ItemTest}
use Rattle.plan_compiler.specs.declared.looks.Looks.{Looks}
use Rattle.plan_compiler.specs.declared.operator_plan.OperatorPlan.{OperatorPlan, Phrase, Choice', Both', MildNot', Negated', Filtered'}
use Rattle.plan_compiler.specs.declared.operator_plan.PhraseTests.{PhraseTests}
use Rattle.plan_runs.proofs.AimLemmas.{aimed_are}
use Rattle.plan_runs.proofs.MergeLaw.{one_test}
use Rattle.plan_compiler.proofs.SumLemmas.{sum_over}
use Rattle.plan_runs.proofs.SumLemmas.{sum_with_twice}

-- ---- the tests of an operator

abbrev tests_cost : (ItemTest → ℕ) → PhraseTests → ℕ
tests_cost cost found = sum_by (sum_by cost) found.variants

-- an operator costs no less than the phrases that it joins
pub joined_cheap : (cost : ItemTest → ℕ) (plan : OperatorPlan) → sum_by (tests_cost cost) (joined_phrases plan) ≤ operator_cost cost plan
unfolding joined_phrases operator_cost
joined_cheap cost (Phrase found) = let one = sum_by-cons (tests_cost cost) found [] in omega (arith, one)
joined_cheap cost (Choice' p left right) = omega arith
joined_cheap cost (Both' p left right) =
    let both = sum_by-append (tests_cost cost) (joined_phrases left) (joined_phrases right) in
    let first = joined_cheap cost left in
    let second = joined_cheap cost right in
    omega (arith, both, first, second)
joined_cheap cost (MildNot' p left right) = omega arith
joined_cheap cost (Negated' p operand) = omega arith
joined_cheap cost (Filtered' p operand kind) = omega arith

module _ (looks : Looks) (stems : List Stem) (version : List Numbered) (word_cost : WordTerms → ℕ) (test_cost : ItemTest → ℕ) (fair : IsFair word_cost)
    (most : (test : ItemTest) → word_cost (opened_item looks stems version test) ≤ test_cost test) where
  abbrev terms_of_test : ItemTest → List VersionTerm
  terms_of_test test = test_terms looks stems version test

  test_cheap : (test : ItemTest) → asks_nothing test ≡ false → word_cost (Terms.Of (terms_of_test test ++ [])) ≤ test_cost test
  test_cheap test asks =
      let same : opened_item looks stems version test ≡ Terms.Of (terms_of_test test ++ []) =
      ap (λ b. cond b Terms.Any (Terms.Of (terms_of_test test))) asks ∙ ap Terms.Of (sym (append-nil (terms_of_test test))) in
      omega (arith, most test, ap word_cost same)

  variants_cheap : (variants : List (List ItemTest)) → list_all is_single variants ≡ true → word_cost (Terms.Of (flat_map (flat_map terms_of_test) variants)) ≤ sum_by (sum_by test_cost) variants
  variants_cheap [] h = omega (arith, fair.nothing)
  variants_cheap (tests ∷ variants) h =
      let parts = and_parts (is_single tests) (list_all is_single variants) h in
      let one = one_test tests parts.0 in
      let first = test_cheap one.test one.asks in
      let own = ap (λ (ts : List ItemTest). word_cost (Terms.Of (flat_map terms_of_test ts))) one.is in
      let rest = variants_cheap variants parts.1 in
      let all = fair.together (flat_map terms_of_test tests) (flat_map (flat_map terms_of_test) variants) in
      let costs = sum_by-cons (sum_by test_cost) tests variants in
      let single = ap (sum_by test_cost) one.is ∙ sum_by-cons test_cost one.test [] in
      omega (arith, first, own, rest, all, costs, single)

  pub phrases_cheap : (phrases : List PhraseTests) → list_all is_word phrases ≡ true
      → sum_by (λ terms. word_cost (Terms.Of terms)) (map (phrase_terms looks stems version) phrases) ≤ sum_by (tests_cost test_cost) phrases
  phrases_cheap [] h = omega arith
  phrases_cheap (found ∷ phrases) h =
      let parts = and_parts (list_all is_single found.variants) (list_all is_word phrases) h in
      let first = variants_cheap found.variants parts.0 in
      let rest = phrases_cheap phrases parts.1 in
      let terms = sum_by-cons (λ terms. word_cost (Terms.Of terms)) (phrase_terms looks stems version found) (map (phrase_terms looks stems version) phrases) in
      let costs = sum_by-cons (tests_cost test_cost) found phrases in
      omega (arith, first, rest, terms, costs)

-- ---- moves

module _ (place : AskedPlace) where
  abbrev hits_of_terms : List VersionTerm → ℕ
  hits_of_terms terms = sum_by (λ number. length (hits_at place number)) (numbers_of terms)

  pub moves_fair : IsFair (λ word. moves_for place word + term_count word)
  moves_fair = record {
    nothing = omega arith;
    together = λ terms others.
        let many = length-append terms others in
        let hits = ap (sum_by (λ number. length (hits_at place number))) (map-append (λ (term : VersionTerm). term.term) terms others)
        ∙ sum_by-append (λ number. length (hits_at place number)) (numbers_of terms) (numbers_of others) in
        omega (arith, many, hits);
  }

  terms_left : (terms : List VersionTerm) → All (λ term. term.version ≡ place.version.now) terms
      → sum_by (λ (at : HitPlace). length (places_left at)) (map (aimed_at place.doc.0 place.span) terms) ≡ hits_of_terms terms
  terms_left terms own =
      ap (sum_by (λ (at : HitPlace). length (places_left at))) (aimed_are place terms own)
      ∙ sum_over (λ (at : HitPlace). length (places_left at)) (λ number. length (hits_at place number)) (aimed place)
      (λ number. length-map (hits_at place number) (λ (hit : Hit). hit.from)) (numbers_of terms)

  abbrev left_of : List HitPlace → ℕ
  left_of places = sum_by (λ (at : HitPlace). length (places_left at)) places

  all_terms_left : (words : List (List VersionTerm)) → All (All (λ term. term.version ≡ place.version.now)) words
      → sum_by left_of (map (map (aimed_at place.doc.0 place.span)) words) ≡ sum_by hits_of_terms words
  all_terms_left [] own = refl
  all_terms_left (terms ∷ words) own =
      let first = terms_left terms (own 0 terms (omega arith)) in
      let rest = all_terms_left words (λ k d lt. own (suc k) d (omega (arith, lt))) in
      let one = sum_by-cons left_of (map (aimed_at place.doc.0 place.span) terms) (map (map (aimed_at place.doc.0 place.span)) words) in
      let other = sum_by-cons hits_of_terms terms words in
      omega (arith, first, rest, one, other)

  -- the moves of a merge whose cursors were aimed
  pub merge_moves : (cursors : List (Vec HitPlace Global)) (words : List (List VersionTerm)) (start middle end : ℕ) → All (All (λ term. term.version ≡ place.version.now)) words
      → map cursors_of cursors ≡ map (map (aimed_at place.doc.0 place.span)) words → middle ≤ start + sum_by length words → end ≤ middle + 2 * words_left (λ cursor. cursor) cursors
      → end ≤ start + sum_by (λ terms. moves_for place (Terms.Of terms)) words
  merge_moves cursors words start middle end own aimed first then =
      let left = sym (sum_over left_of (λ (word : Vec HitPlace Global). left_of word.items) cursors_of (λ word. refl) cursors) ∙ ap (sum_by left_of) aimed ∙ all_terms_left words own in
      let all = sum_with_twice length hits_of_terms words in
      omega (arith, first, then, left, all)

-- ---- the cursors of a merge

-- the cursors of terms are plain
pub all_plain : (cursors : List (Vec HitPlace Global)) → words_plain (λ cursor. true) cursors ≡ true
all_plain [] = refl
all_plain (word ∷ cursors) = and_from (list_all (λ cursor. true) word.items) (words_plain (λ cursor. true) cursors) (each word.items) (all_plain cursors)
  where
    each : (places : List HitPlace) → list_all (λ cursor. true) places ≡ true
    each [] = refl
    each (place ∷ places) = each places

-- as long as the lists of hits stay, there are as many cursors
pub same_counts : (new old : List (Vec HitPlace Global)) → word_lists (λ cursor. cursor) new ≡ word_lists (λ cursor. cursor) old → map count_of new ≡ map count_of old
same_counts new old same = sym (counted new) ∙ ap (map length) same ∙ counted old
  where
    counted : (cursors : List (Vec HitPlace Global)) → map length (word_lists (λ cursor. cursor) cursors) ≡ map count_of cursors
    counted [] = refl
    counted (word ∷ cursors) = λ i. length-map word.items (λ (at : HitPlace). at.hits) i ∷ counted cursors i

-- cursors that were aimed have the places of their terms
pub aimed_places : (place : AskedPlace) (cursors : List (Vec HitPlace Global)) (words : List (List VersionTerm))
    → map cursors_of cursors ≡ map (map (aimed_at place.doc.0 place.span)) words → all_places (λ cursor. cursor) place.span cursors ≡ map (terms_places (asked_at place)) words
aimed_places place cursors words aimed =
    sym (by_lists cursors)
    ∙ ap (map (places_in (λ cursor. cursor) place.span)) aimed
    ∙ of_terms words
  where
    by_lists : (words : List (Vec HitPlace Global)) → map (places_in (λ cursor. cursor) place.span) (map cursors_of words) ≡ all_places (λ cursor. cursor) place.span words
    by_lists [] = refl
    by_lists (word ∷ words) = ap (λ rest. places_in (λ cursor. cursor) place.span word.items ∷ rest) (by_lists words)

    of_terms : (words : List (List VersionTerm)) → map (places_in (λ cursor. cursor) place.span) (map (map (aimed_at place.doc.0 place.span)) words) ≡ map (terms_places (asked_at place)) words
    of_terms [] = refl
    of_terms (terms ∷ words) =
        λ i. filter (λ other. nat_le place.span.from other && nat_lt other place.span.to) (flat_map-map (λ (at : HitPlace). places_left at) (aimed_at place.doc.0 place.span) terms i) ∷ of_terms words i
