-- Terms of a version: the words that pass a test, by numbers.
use Rattle.std.proofs.Common.{◌≡◌, ℕ, ◌+◌, ◌-◌, ◌<◌, ◌≤◌, zero, suc, Bool, true, false, cond, ◌&&◌, ◌||◌, ◌==◌, List, [], ◌∷◌, length, map, filter, flat_map, get_or, Some, None, refl, ap, sym, ◌∙◌, arith}
use Rattle.std.specs.List.{list_any, range_with_len}
use Rattle.std.specs.Ordering.{is_lt, is_le, is_eq}
use Rattle.std.specs.declared.cmp.Ordering.TheVariants.{Equal}
use Rattle.std.proofs.Math.Bool.{and-true, or-false}
use Rattle.std.proofs.lemmas.Bool.{eqb-true, or_left, or_right, ne_eqb, false_from_ne_true}
use Rattle.std.proofs.lemmas.Cmp.{nat_list_cmp_total, tied_itself}
use Rattle.std.proofs.lemmas.List.{get_or_default}
use Rattle.std.proofs.lemmas.List.Folds.{Any-from_list_any, list_any-append, list_any_at}
use Rattle.std.proofs.lemmas.List.FromFn.{get_or-range_with_len, length-range_with_len}
use Rattle.std.proofs.lemmas.Map.Views.{any-filter_same}
use Rattle.all_matches.proofs.ListTests.{list_any-map}
use Rattle.ft_base.specs.declared.span.Span.{Span}
use Rattle.text_forms.specs.Forms.{key_of}
use Rattle.index_meaning.specs.Documents.{Numbered, document_at, has_document, token_count, words_of}
use Rattle.index_meaning.specs.Entries.{Entry, entry, entry_cmp, text_cmp, found, has_entry, is_sorted, same_keys, smaller_keys, span}
use Rattle.index_meaning.specs.Index.{term_of}
use Rattle.index_meaning.specs.Postings.{same_word}
use Rattle.term_dict.specs.declared.places.Place.TheVariants.{AtKey, AfterKey}
use Rattle.term_dict.proofs.RankLemmas.{rank_above, rank_upto, rank_within, upto_key}
use Rattle.index_versions.specs.Terms.{version_term}
use Rattle.index_versions.specs.Versions.{term_at, terms_of}
use Rattle.index_versions.proofs.EntryLemmas.{equal_is, equal_same}
use Rattle.index_versions.proofs.NamingLemmas.{has_with_entries}
use Rattle.index_versions.proofs.PlacesLemmas.{same_word_is, same_word_same}
use Rattle.index_versions.proofs.TermsLemmas.{sorted_all}
use Rattle.plan_runs.specs.steps.ChosenTerms.{is_among, numbers_in, numbers_of, passing, terms_for}

-- ---- the terms of a version

-- the numbers with which terms were made
pub numbers_again : (version : List Numbered) (numbers : List ℕ) → numbers_of (map (version_term version) numbers) ≡ numbers
numbers_again version [] = refl
numbers_again version (number ∷ numbers) = λ i. number ∷ numbers_again version numbers i

-- the words of all documents
abbrev all_words : List Numbered → List (List ℕ)
all_words version = flat_map (λ d. words_of d.document) version

word_there : (p : List ℕ → Bool) (version : List Numbered) (doc k : ℕ) → k < token_count (document_at doc version)
    → p (get_or (words_of (document_at doc version)) k []) ≡ true → list_any p (all_words version) ≡ true
word_there p [] doc k within passes = absurd (omega (arith, within))
word_there p (d ∷ version) doc k within passes =
    let own = list_any p (words_of d.document) in
    let others = list_any p (all_words version) in
    let one_has : (own || others) ≡ true =
    elim (d.id == doc) as (λ b. k < token_count (cond b d.document (document_at doc version)) → p (get_or (words_of (cond b d.document (document_at doc version))) k []) ≡ true → (own || others) ≡ true) [
      | true ↦ λ there is. or_left own others (list_any_at p (words_of d.document) k [] there is)
      | false ↦ λ there is. or_right own others (word_there p version doc k there is)
    ] within passes in
    list_any-append p (words_of d.document) (all_words version) ∙ one_has

-- the terms are the entries of these words
abbrev is_of : Entry → List ℕ → Bool
is_of e word = is_eq (entry_cmp e (term_of key_of word))

among_terms : (e : Entry) (version : List Numbered) → has_entry e (terms_of version) ≡ list_any (is_of e) (all_words version)
among_terms e version =
    has_with_entries e (map (term_of key_of) (all_words version)) []
    ∙ or-false (has_entry e (map (term_of key_of) (all_words version)))
    ∙ list_any-map (λ (f : Entry). is_eq (entry_cmp e f)) (term_of key_of) (all_words version)

-- the number of a term
number_there : (version : List Numbered) (e : Entry) → has_entry e (terms_of version) ≡ true → (n : ℕ) × (n < length (terms_of version)) × (term_at n version ≡ e)
number_there version e there =
    let at = Any-from_list_any (λ (f : Entry). is_eq (entry_cmp e f)) (terms_of version) there in
    (at.0, at.2, get_or_default (terms_of version) at.0 (entry [] []) at.1 at.2 ∙ at.3 ∙ sym (equal_is e at.1 at.4))

-- the key of a term is that of its word
pub term_keyed : (version : List Numbered) (n : ℕ) → n < length (terms_of version) → (term_at n version).key ≡ key_of (term_at n version).word
term_keyed version n within =
    let e = term_at n version in
    let there : has_entry e (terms_of version) ≡ true = list_any_at (λ (f : Entry). is_eq (entry_cmp e f)) (terms_of version) n (entry [] []) within (equal_same e) in
    let at = Any-from_list_any (is_of e) (all_words version) (sym (among_terms e version) ∙ there) in
    let is : e ≡ term_of key_of at.1 = equal_is e (term_of key_of at.1) at.4 in
    ap (λ (f : Entry). f.key) is ∙ sym (ap (λ (f : Entry). key_of f.word) is)

pub terms_sorted : (version : List Numbered) → is_sorted (terms_of version) ≡ true
terms_sorted version = sorted_all (map (term_of key_of) (all_words version)) [] refl

-- a word of a document is among the terms whose words pass a test exactly where it passes
pub word_law : (version : List Numbered) (test : List ℕ → Bool) (doc k : ℕ) → has_document doc version ≡ true → k < token_count (document_at doc version)
    → is_among version (terms_for test version) (get_or (words_of (document_at doc version)) k []) ≡ test (get_or (words_of (document_at doc version)) k [])
word_law version test doc k there within =
    let word = get_or (words_of (document_at doc version)) k [] in
    let own = term_of key_of word in
    let size = length (terms_of version) in
    let is_own = λ (number : ℕ). same_word (term_at number version).word word in
    let at = number_there version own (among_terms own version ∙ word_there (is_of own) version doc k within (equal_same own)) in
    let number : 0 + at.0 ≡ at.0 = omega arith in
    let numbered : list_any is_own (range_with_len 0 size) ≡ true =
    list_any_at is_own (range_with_len 0 size) at.0 0 (omega (arith, at.1, length-range_with_len 0 size))
    (ap is_own (get_or-range_with_len 0 size at.0 0 at.1 ∙ number) ∙ ap (λ (e : Entry). same_word e.word word) at.2 ∙ same_word_same word) in
    any-filter_same is_own (λ number. test (term_at number version).word) (test word) (λ number same. ap test (same_word_is (term_at number version).word word same)) (range_with_len 0 size)
    ∙ ap (λ b. test word && b) numbered
    ∙ and-true (test word)

-- ---- numbers of which only those from one on up to another can pass a test

module _ (p : ℕ → Bool) where
  none_before : (a k n : ℕ) → ((i : ℕ) → a ≤ i → i < a + k → p i ≡ false) → filter p (range_with_len a (k + n)) ≡ filter p (range_with_len (a + k) n)
  none_before a zero n fails =
      let start : a ≡ a + 0 = omega arith in
      let size : 0 + n ≡ n = omega arith in
      λ i. filter p (range_with_len (start i) (size i))
  none_before a (suc k) n fails =
      let size : suc k + n ≡ suc (k + n) = omega arith in
      let start : (a + 1) + k ≡ a + suc k = omega arith in
      let first : p a ≡ false = fails a (omega arith) (omega arith) in
      ap (λ m. filter p (range_with_len a m)) size
      ∙ ap (λ b. cond b (a ∷ filter p (range_with_len (a + 1) (k + n))) (filter p (range_with_len (a + 1) (k + n)))) first
      ∙ none_before (a + 1) k n (λ (i : ℕ) (from : a + 1 ≤ i) (to : i < (a + 1) + k). fails i (omega arith) (omega arith))
      ∙ ap (λ b. filter p (range_with_len b n)) start

  none_after : (a m n : ℕ) → ((i : ℕ) → a + m ≤ i → i < (a + m) + n → p i ≡ false) → filter p (range_with_len a (m + n)) ≡ filter p (range_with_len a m)
  none_after a zero zero fails = refl
  none_after a zero (suc n) fails =
      let size : 0 + suc n ≡ suc (0 + n) = omega arith in
      let first : p a ≡ false = fails a (omega arith) (omega arith) in
      ap (λ m. filter p (range_with_len a m)) size
      ∙ ap (λ b. cond b (a ∷ filter p (range_with_len (a + 1) (0 + n))) (filter p (range_with_len (a + 1) (0 + n)))) first
      ∙ none_after (a + 1) zero n (λ (i : ℕ) (from : (a + 1) + 0 ≤ i) (to : i < ((a + 1) + 0) + n). fails i (omega arith) (omega arith))
  none_after a (suc m) n fails =
      let size : suc m + n ≡ suc (m + n) = omega arith in
      ap (λ k. filter p (range_with_len a k)) size
      ∙ ap (λ rest. cond (p a) (a ∷ rest) rest)
      (none_after (a + 1) m n (λ (i : ℕ) (from : (a + 1) + m ≤ i) (to : i < ((a + 1) + m) + n). fails i (omega arith) (omega arith)))

  only_between : (s m all : ℕ) → s + m ≤ all → ((i : ℕ) → i < all → p i ≡ true → (s ≤ i) × (i < s + m)) → filter p (range_with_len s m) ≡ filter p (range_with_len 0 all)
  only_between s m all within only =
      let left = all - (s + m) in
      let sum : all ≡ s + (m + left) = omega arith in
      let start : 0 + s ≡ s = omega arith in
      sym (
      ap (λ n. filter p (range_with_len 0 n)) sum
      ∙ none_before 0 s (m + left) (λ (i : ℕ) (from : 0 ≤ i) (to : i < 0 + s). false_from_ne_true (p i) (λ passes. omega (arith, to, (only i (omega arith) passes).0)))
      ∙ ap (λ a. filter p (range_with_len a (m + left))) start
      ∙ none_after s m left (λ (i : ℕ) (from : s + m ≤ i) (to : i < (s + m) + left). false_from_ne_true (p i) (λ passes. omega (arith, from, (only i (omega arith) passes).1)))
      )

-- ---- the numbers of a key

numbers_found : (s m : ℕ) → numbers_in (cond (m == 0) None (Some (span s (s + m)))) ≡ range_with_len s m
numbers_found s zero = refl
numbers_found s (suc m) =
    let some : (suc m == 0) ≡ false = ne_eqb (suc m) 0 (λ none. omega (arith, none)) in
    let size : (s + suc m) - s ≡ suc m = omega arith in
    ap (λ b. numbers_in (cond b None (Some (span s (s + suc m))))) some ∙ ap (range_with_len s) size

-- in a list in order an entry with the key has one of them
key_between : (key : List ℕ) (es : List Entry) (n : ℕ) (d : Entry) → is_sorted es ≡ true → n < length es → (get_or es n d).key ≡ key
    → (smaller_keys key es ≤ n) × (n < smaller_keys key es + same_keys key es)
key_between key es n d sorted within is =
    let tied : text_cmp (get_or es n d).key key ≡ Equal = ap (λ other. text_cmp other key) is ∙ tied_itself nat_list_cmp_total key in (
      rank_upto AtKey (entry key []) es n d sorted within (ap is_lt tied),
      omega (arith, rank_above AfterKey (entry key []) es n d sorted within (ap is_le tied), upto_key (entry key []) es),
    )

-- where words that pass have one key, the terms of the key are enough
pub key_law : (version : List Numbered) (test : List ℕ → Bool) (key : List ℕ) → ((word : List ℕ) → test word ≡ true → key_of word ≡ key)
    → passing test version (numbers_in (found key (terms_of version))) ≡ terms_for test version
key_law version test key one =
    let es = terms_of version in
    ap (λ numbers. passing test version numbers) (numbers_found (smaller_keys key es) (same_keys key es))
    ∙ only_between (λ number. test (term_at number version).word) (smaller_keys key es) (same_keys key es) (length es)
    (omega (arith, rank_within AfterKey (entry key []) es, upto_key (entry key []) es))
    (λ n within passes. key_between key es n (entry [] []) (terms_sorted version) within (term_keyed version n within ∙ one (term_at n version).word passes))

-- the number of a term is one of those that are found by its key
pub number_found : (version : List Numbered) (key : List ℕ) (n : ℕ) → n < length (terms_of version) → (term_at n version).key ≡ key
    → (s : Span) × (found key (terms_of version) ≡ Some s) × (s.from ≤ n) × (n < s.to)
number_found version key n within is = go (same_keys key es == 0) refl
  where
    es : List Entry
    es = terms_of version

    from : ℕ
    from = smaller_keys key es

    to : ℕ
    to = smaller_keys key es + same_keys key es

    between : (from ≤ n) × (n < to)
    between = key_between key es n (entry [] []) (terms_sorted version) within is

    go : (none : Bool) → (same_keys key es == 0) ≡ none → (s : Span) × (cond none None (Some (span from to)) ≡ Some s) × (s.from ≤ n) × (n < s.to)
    go true e = absurd (omega (arith, between.0, between.1, eqb-true (same_keys key es) 0 e))
    go false e = (span from to, refl, between.0, between.1)
