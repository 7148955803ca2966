-- The terms of an item, once for their cursors and once for what is read to skip, and the hits that they have in a span, are within the
-- price of the item's test.
use Rattle.std.proofs.Common.{◌≡◌, ◌≤◌, ◌<◌, ◌+◌, ◌-◌, ◌++◌, suc, ℕ, Bool, true, false, true≢false, cond, List, [], ◌∷◌, map, filter, length, get_or, take, drop, refl, sym, ap, ◌∙◌, arith, append-nil, take-append-drop}
use Rattle.std.specs.Prelude.{nat_le, nat_lt}
use Rattle.std.specs.List.{All, count_by, range_with_len, sum_by}
use Rattle.std.specs.Ordering.{is_lt}
use Rattle.std.proofs.lemmas.Bool.{and_left, and_parts, and_right, false_from_ne_true, lt-leb, le-ltb}
use Rattle.std.proofs.lemmas.Cmp.{tied_itself}
use Rattle.std.proofs.lemmas.List.{length-drop, length-map, length-take}
use Rattle.std.proofs.lemmas.List.Elements.{All-from_get_or, filter-append}
use Rattle.std.proofs.lemmas.List.Sums.{count_by-le-length, length-filter, sum_by-le-sum_by}
use Rattle.ft_base.specs.declared.span.Span.{Span}
use Rattle.all_matches.proofs.Counting.{count_by-alike, count_by-cons, first_number}
use Rattle.index_cursors.specs.SpanHits.{is_inside, word_hit}
use Rattle.index_meaning.specs.Documents.{Numbered, breaks_of, document_at, words_of}
use Rattle.index_meaning.specs.Entries.{Entry, entry, entry_cmp, is_below, is_sorted}
use Rattle.index_meaning.specs.Postings.{places, places_from, same_word}
use Rattle.index_versions.specs.Terms.{version_term}
use Rattle.index_versions.specs.Versions.{term_at, terms_of}
use Rattle.index_versions.proofs.PlacesLemmas.{same_word_is}
use Rattle.term_dict.proofs.OrderLemmas.{entry_total, equal_turned}
use Rattle.text_forms.specs.Forms.{key_of}
use Rattle.word_lists.specs.Stems.{Stem}
use Rattle.plan_compiler.specs.CompiledSelection.{compiled_price}
use Rattle.plan_compiler.specs.ItemTests.{asks_nothing}
use Rattle.plan_runs.specs.steps.AskedPlaces.{hits_at, text_at}
use Rattle.plan_runs.specs.steps.ChosenTerms.{terms_for}
use Rattle.plan_runs.specs.steps.OpenedItems.{opened_item, word_test}
use Rattle.plan_runs.specs.steps.RunCosts.{moves_for, term_count}
use Rattle.plan_runs.specs.declared.asked_place.AskedPlace.{AskedPlace}
use Rattle.plan_compiler.specs.declared.item_matching.ItemTest.{ItemTest}
use Rattle.plan_compiler.specs.declared.looks.Looks.{Looks}
use Rattle.index_phrases.specs.declared.word_terms.WordTerms.TheVariants as Terms
use Rattle.plan_runs.proofs.SumLemmas.{sum_of_two}
use Rattle.plan_runs.proofs.TermLaws.{numbers_again, term_keyed, terms_sorted}

-- ---- the hits of a term

module _ (word : List ℕ) where
  abbrev is_word : List ℕ → Bool
  is_word other = same_word other word

  length-places : (place : ℕ) (ws : List (List ℕ)) → length (places_from word place ws) ≡ count_by is_word ws
  length-places place [] = refl
  length-places place (w ∷ ws) =
      let rest = length-places (place + 1) ws in
      elim (same_word w word) as (λ b. length (cond b (place ∷ places_from word (place + 1) ws) (places_from word (place + 1) ws)) ≡ cond b 1 0 + count_by is_word ws) [
        | true ↦ omega (arith, rest)
        | false ↦ omega (arith, rest)
      ] ∙ sym (count_by-cons is_word w ws)

  places-append : (place : ℕ) (a b : List (List ℕ)) → places_from word place (a ++ b) ≡ places_from word place a ++ places_from word (place + length a) b
  places-append place [] b = let at : place ≡ place + 0 = omega arith in ap (λ p. places_from word p b) at
  places-append place (w ∷ a) b =
      let at : place + 1 + length a ≡ place + suc (length a) = omega arith in
      let rest = places-append (place + 1) a b ∙ ap (λ p. places_from word (place + 1) a ++ places_from word p b) at in
      elim (same_word w word) as (λ t. cond t (place ∷ places_from word (place + 1) (a ++ b)) (places_from word (place + 1) (a ++ b))
      ≡ cond t (place ∷ places_from word (place + 1) a) (places_from word (place + 1) a) ++ places_from word (place + suc (length a)) b) [
        | true ↦ ap (λ ps. place ∷ ps) rest
        | false ↦ rest
      ]

  module _ (span : Span) where
    -- where no place is in the span
    none_inside : (place : ℕ) (ws : List (List ℕ)) → ((p : ℕ) → place ≤ p → p < place + length ws → is_inside span p ≡ false) → filter (is_inside span) (places_from word place ws) ≡ []
    none_inside place [] out = refl
    none_inside place (w ∷ ws) out =
        let rest = none_inside (place + 1) ws (λ p a b. out p (omega arith) (omega arith)) in
        let here = out place (omega arith) (omega arith) in
        elim (same_word w word) as (λ b. filter (is_inside span) (cond b (place ∷ places_from word (place + 1) ws) (places_from word (place + 1) ws)) ≡ []) [
          | true ↦ ap (λ b. cond b (place ∷ filter (is_inside span) (places_from word (place + 1) ws)) (filter (is_inside span) (places_from word (place + 1) ws))) here ∙ rest
          | false ↦ rest
        ]

    below_span : (ws : List (List ℕ)) → 1 + length ws ≤ span.from → filter (is_inside span) (places_from word 1 ws) ≡ []
    below_span ws h = none_inside 1 ws (λ p a b. and_left (nat_le span.from p) (nat_lt p span.to) (lt-leb span.from p (omega arith)))

    after_span : (place : ℕ) (ws : List (List ℕ)) → span.to ≤ place → filter (is_inside span) (places_from word place ws) ≡ []
    after_span place ws h = none_inside place ws (λ p a b. and_right (nat_le span.from p) (nat_lt p span.to) (le-ltb p span.to (omega arith)))

    -- a term has at most so many hits in a span as its word stands there
    few_inside : (ws : List (List ℕ)) → 1 ≤ span.from → span.from ≤ span.to → span.to ≤ length ws + 1
        → length (filter (is_inside span) (places_from word 1 ws)) ≤ count_by is_word (take (span.to - 1 - (span.from - 1)) (drop (span.from - 1) ws))
    few_inside ws first order last =
        let n = span.from - 1 in
        let m = span.to - 1 - (span.from - 1) in
        let prefix = take n ws in
        let inner = take m (drop n ws) in
        let rest = drop m (drop n ws) in
        let short = length-take n ws in
        let left = length-drop n ws in
        let size = length-take m (drop n ws) in
        let whole : ws ≡ prefix ++ (inner ++ rest) = sym (ap (λ l. prefix ++ l) (take-append-drop m (drop n ws)) ∙ take-append-drop n ws) in
        let parts : filter (is_inside span) (places_from word 1 ws) ≡ filter (is_inside span) (places_from word (1 + length prefix) inner) =
        ap (λ l. filter (is_inside span) (places_from word 1 l)) whole
        ∙ ap (filter (is_inside span)) (places-append 1 prefix (inner ++ rest) ∙ ap (λ l. places_from word 1 prefix ++ l) (places-append (1 + length prefix) inner rest))
        ∙ filter-append (is_inside span) (places_from word 1 prefix) (places_from word (1 + length prefix) inner ++ places_from word (1 + length prefix + length inner) rest)
        ∙ ap (λ l. l ++ filter (is_inside span) (places_from word (1 + length prefix) inner ++ places_from word (1 + length prefix + length inner) rest)) (below_span prefix (omega (arith, short)))
        ∙ filter-append (is_inside span) (places_from word (1 + length prefix) inner) (places_from word (1 + length prefix + length inner) rest)
        ∙ ap (λ l. filter (is_inside span) (places_from word (1 + length prefix) inner) ++ l) (after_span (1 + length prefix + length inner) rest (omega (arith, short, left, size, first, order, last)))
        ∙ append-nil (filter (is_inside span) (places_from word (1 + length prefix) inner)) in
        let some = length-filter (is_inside span) (places_from word (1 + length prefix) inner) in
        let most = count_by-le-length (is_inside span) (places_from word (1 + length prefix) inner) in
        let all = length-places (1 + length prefix) inner in
        omega (arith, ap length parts, some, most, all)

-- ---- a word is that of one term at most

once : (w : List ℕ) (es : List Entry) → is_sorted es ≡ true → All (λ e. e.key ≡ key_of e.word) es → count_by (λ e. same_word e.word w) es ≤ 1
once w [] sorted keyed = omega arith
once w (e ∷ es) sorted keyed =
    let parts = and_parts (is_below e es) (is_sorted es) sorted in
    let rest = once w es parts.1 (λ k d h. keyed (suc k) d (omega arith)) in
    let count = count_by-cons (λ (f : Entry). same_word f.word w) e es in
    by_test (same_word e.word w) refl rest count parts.0
  where
    same_key : (f : Entry) → f.word ≡ w → e.word ≡ w → f.key ≡ key_of f.word → e ≡ f
    same_key f there here own = λ i. entry ((keyed 0 e (omega arith) ∙ ap key_of (here ∙ sym there) ∙ sym own) i) ((here ∙ sym there) i)

    by_test : (b : Bool) → same_word e.word w ≡ b → count_by (λ f. same_word f.word w) es ≤ 1 → count_by (λ f. same_word f.word w) (e ∷ es) ≡ cond (same_word e.word w) 1 0 + count_by (λ f. same_word f.word w) es
        → is_below e es ≡ true → count_by (λ f. same_word f.word w) (e ∷ es) ≤ 1
    by_test false is rest count below = omega (arith, rest, count, ap {B = ℕ} (λ b. cond b 1 0) is)
    by_test true is rest count below = omega (arith, count, ap {B = ℕ} (λ b. cond b 1 0) is, none es below (λ k d h. keyed (suc k) d (omega arith)))
      where
        none : (fs : List Entry) → is_below e fs ≡ true → All (λ f. f.key ≡ key_of f.word) fs → count_by (λ f. same_word f.word w) fs ≡ 0
        none [] below own = refl
        none (f ∷ fs) below own =
            let parts = and_parts (is_lt (entry_cmp e f)) (is_below e fs) below in
            let rest = none fs parts.1 (λ k d h. own (suc k) d (omega arith)) in
            let here : same_word f.word w ≡ false = false_from_ne_true (same_word f.word w)
            (λ same. true≢false (sym parts.0 ∙ ap (λ g. is_lt (entry_cmp e g)) (sym (same_key f (same_word_is f.word w same) (same_word_is e.word w is) (own 0 f (omega arith)))) ∙ ap is_lt (tied_itself entry_total e))) in
            count_by-cons (λ (g : Entry). same_word g.word w) f fs ∙ (λ i. cond (here i) 1 0 + rest i)

-- tests of a list's elements, by their numbers
by_number : {X : Type 0} (q : X → Bool) (d : X) (xs : List X) → count_by (λ n. q (get_or xs n d)) (range_with_len 0 (length xs)) ≡ count_by q xs
by_number q d [] = refl
by_number q d (x ∷ xs) =
    first_number (λ n. q (get_or (x ∷ xs) n d)) (length xs)
    ∙ ap (λ n. cond (q x) 1 0 + n) (by_number q d xs)
    ∙ sym (count_by-cons q x xs)

-- those that pass a test have another one's number only where it passes
among_passing : (p q : ℕ → Bool) (b : Bool) (ns : List ℕ) → ((n : ℕ) → q n ≡ true → p n ≡ b) → count_by q (filter p ns) ≤ cond b (count_by q ns) 0
among_passing p q true [] same = omega arith
among_passing p q false [] same = omega arith
among_passing p q b (n ∷ ns) same =
    let rest = among_passing p q b ns same in
    let all = count_by-cons q n ns in
    let kept = count_by-cons q n (filter p ns) in
    by_tests (p n) (q n) b rest all kept (same n)
  where
    by_tests : (t u b : Bool) → count_by q (filter p ns) ≤ cond b (count_by q ns) 0 → count_by q (n ∷ ns) ≡ cond u 1 0 + count_by q ns → count_by q (n ∷ filter p ns) ≡ cond u 1 0 + count_by q (filter p ns)
        → (u ≡ true → t ≡ b) → count_by q (cond t (n ∷ filter p ns) (filter p ns)) ≤ cond b (count_by q (n ∷ ns)) 0
    by_tests true true true rest all kept same = omega (arith, rest, all, kept)
    by_tests true true false rest all kept same = absurd (true≢false (same refl))
    by_tests true false true rest all kept same = omega (arith, rest, all, kept)
    by_tests true false false rest all kept same = omega (arith, rest, all, kept)
    by_tests false true true rest all kept same = absurd (true≢false (sym (same refl)))
    by_tests false true false rest all kept same = omega (arith, rest)
    by_tests false false true rest all kept same = omega (arith, rest, all)
    by_tests false false false rest all kept same = omega (arith, rest)

module _ (version : List Numbered) (test : List ℕ → Bool) where
  keyed : All (λ e. e.key ≡ key_of e.word) (terms_of version)
  keyed = All-from_get_or (λ (e : Entry). e.key ≡ key_of e.word) (terms_of version) (entry [] []) (term_keyed version)

  -- so many terms pass
  terms_count : length (terms_for test version) ≡ count_by (λ term. test term.word) (terms_of version)
  terms_count =
      length-filter (λ number. test (term_at number version).word) (range_with_len 0 (length (terms_of version)))
      ∙ by_number (λ (term : Entry). test term.word) (entry [] []) (terms_of version)

  one_term : (word : List ℕ) → count_by (λ number. same_word (term_at number version).word word) (terms_for test version) ≤ cond (test word) 1 0
  one_term word =
      let most = among_passing (λ number. test (term_at number version).word) (λ number. same_word (term_at number version).word word) (test word) (range_with_len 0 (length (terms_of version)))
      (λ number same. ap test (same_word_is (term_at number version).word word same)) in
      let all = by_number (λ (term : Entry). same_word term.word word) (entry [] []) (terms_of version) in
      let single = once word (terms_of version) (terms_sorted version) keyed in
      by_test (test word) most all single
    where
      by_test : (b : Bool) → count_by (λ number. same_word (term_at number version).word word) (terms_for test version)
          ≤ cond b (count_by (λ number. same_word (term_at number version).word word) (range_with_len 0 (length (terms_of version)))) 0
          → count_by (λ number. same_word (term_at number version).word word) (range_with_len 0 (length (terms_of version))) ≡ count_by (λ term. same_word term.word word) (terms_of version)
          → count_by (λ term. same_word term.word word) (terms_of version) ≤ 1
          → count_by (λ number. same_word (term_at number version).word word) (terms_for test version) ≤ cond b 1 0
      by_test true most all single = omega (arith, most, all, single)
      by_test false most all single = omega (arith, most)

  -- words are those of terms that pass at most as often as they pass themselves
  words_count : (numbers : List ℕ) (text : List (List ℕ)) → ((word : List ℕ) → count_by (λ number. same_word (term_at number version).word word) numbers ≤ cond (test word) 1 0)
      → sum_by (λ number. count_by (λ word. same_word (term_at number version).word word) text) numbers ≤ count_by test text
  words_count numbers [] one = omega (arith, nothing numbers)
    where
      nothing : (ns : List ℕ) → sum_by (λ (number : ℕ). 0) ns ≡ 0
      nothing [] = refl
      nothing (n ∷ ns) = nothing ns
  words_count numbers (word ∷ text) one =
      let rest = words_count numbers text one in
      let own = one word in
      let split : sum_by (λ number. count_by (λ w. same_word (term_at number version).word w) (word ∷ text)) numbers
      ≡ sum_by (λ number. cond (same_word (term_at number version).word word) 1 0 + count_by (λ w. same_word (term_at number version).word w) text) numbers =
      λ i. sum_by (λ number. count_by-cons (λ w. same_word (term_at number version).word w) word text i) numbers in
      let both = sum_of_two (λ number. cond (same_word (term_at number version).word word) 1 0) (λ number. count_by (λ w. same_word (term_at number version).word w) text) numbers in
      let all = count_by-cons test word text in
      omega (arith, rest, own, split, both, all)

-- ---- the price of a test

pub item_law : (place : AskedPlace) (looks : Looks) (stems : List Stem) (test : ItemTest)
    → moves_for place (opened_item looks stems place.version.now test) + term_count (opened_item looks stems place.version.now test) ≤ compiled_price looks stems (terms_of place.version.now) (text_at place) test
item_law place looks stems test =
    elim (asks_nothing test) as (λ b. moves_for place (cond b Terms.Any (Terms.Of (map (version_term version) numbers))) + term_count (cond b Terms.Any (Terms.Of (map (version_term version) numbers))) ≤ compiled_price looks stems (terms_of version) text test) [
      | true ↦ omega arith
      | false ↦
          let terms = terms_count version passes in
          let hits = sum_by-le-sum_by (λ number. length (hits_at place number)) (λ number. count_by (λ word. same_word (term_at number version).word word) text) numbers few in
          let words = words_count version passes numbers text (one_term version passes) in
          let many = length-map numbers (version_term version) in
          let same = ap (sum_by (λ number. length (hits_at place number))) (numbers_again version numbers) in
          omega (arith, terms, hits, words, many, same)
    ]
  where
    version : List Numbered
    version = place.version.now

    text : List (List ℕ)
    text = text_at place

    passes : List ℕ → Bool
    passes = word_test looks stems test

    numbers : List ℕ
    numbers = terms_for passes version

    few : (number : ℕ) → length (hits_at place number) ≤ count_by (λ word. same_word (term_at number version).word word) text
    few number =
        let document = document_at place.doc.0 version in
        let word = (term_at number version).word in
        let size = length-map (filter (is_inside place.span) (places word document)) (word_hit (breaks_of document)) in
        let inside = few_inside word place.span (words_of document) place.first place.order place.last in
        let turned = count_by-alike (λ w. same_word w word) (λ w. same_word word w) text (λ w. equal_turned w word) in
        omega (arith, size, inside, turned)
