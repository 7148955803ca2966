-- The hits of a phrase in the part of a span that bounds leave are those of the span that lie in the bounds.
use Rattle.std.proofs.Common.{◌≡◌, refl, ap, sym, ◌∙◌, ℕ, zero, suc, ◌+◌, ◌-◌, ◌<◌, ◌≤◌, ◌==◌, Bool, true, false, not, cond, ◌&&◌, ◌||◌, List, [], ◌∷◌, ◌++◌, map, filter, flat_map, length, arith, inl, inr}
use Rattle.std.specs.Prelude.{nat_le, nat_lt}
use Rattle.std.specs.List.{list_any, range_with_len}
use Rattle.std.proofs.lemmas.Bool.{and_from, and_right, cases_lt, eqb-true, le-leb, lt-ltb, not-false, not-true}
use Rattle.std.proofs.lemmas.List.{length-map}
use Rattle.std.proofs.lemmas.Map.Views.{any-filter_same}
use Rattle.ft_base.specs.declared.hit.Hit.{Hit}
use Rattle.ft_base.specs.declared.places.Breaks.{Breaks}
use Rattle.ft_base.specs.declared.span.Span.{Span}
use Rattle.all_matches.proofs.ListTests.{list_any-alike, list_any-map}
use Rattle.ft_operators.specs.Bounds.{is_before, lies_in}
use Rattle.ft_operators.specs.declared.bounds.Bounds.{Bounds}
use Rattle.index_meaning.specs.Documents.{Numbered, breaks_of, document_at}
use Rattle.index_meaning.specs.Postings.{places}
use Rattle.index_cursors.specs.SpanHits.{is_inside, word_hit}
use Rattle.index_versions.specs.Terms.{VersionTerm}
use Rattle.index_versions.specs.Versions.{term_at, term_hits}
use Rattle.place_merges.specs.Places.{Wanted, fits, stands_at, stands_before}
use Rattle.place_merges.specs.Spots.{some_at, spot, spots_at, spots_between}
use Rattle.place_merges.specs.declared.spot.Spot.{Spot}
use Rattle.index_phrases.specs.Parts.{hits_in_part, may_begin, may_end}
use Rattle.index_phrases.specs.Phrases.{hits_in_span, last_place, numbered_hit, own_number, wanted_at}
use Rattle.index_phrases.specs.declared.word_terms.WordTerms.{WordTerms}
use Rattle.index_phrases.specs.declared.word_terms.WordTerms.TheVariants as Terms
use Rattle.index_phrases.specs.steps.Parting.{IsPart}

-- ---- filters of lists

filter-append : {X : Type 0} (p : X → Bool) (xs ys : List X) → filter p (xs ++ ys) ≡ filter p xs ++ filter p ys
filter-append p [] ys = refl
filter-append p (x ∷ xs) ys = by_test (p x) (filter-append p xs ys)
  where
    by_test : (b : Bool) → filter p (xs ++ ys) ≡ filter p xs ++ filter p ys → cond b (x ∷ filter p (xs ++ ys)) (filter p (xs ++ ys)) ≡ cond b (x ∷ filter p xs) (filter p xs) ++ filter p ys
    by_test true same = ap (λ rest. x ∷ rest) same
    by_test false same = same

filter_twice : {X Y : Type 0} (p : Y → Bool) (h : X → Y) (q : X → Bool) (xs : List X) → filter p (map h (filter q xs)) ≡ map h (filter (λ x. p (h x) && q x) xs)
filter_twice p h q [] = refl
filter_twice {X = X} p h q (x ∷ xs) = by_test (q x) (p (h x)) (filter_twice p h q xs)
  where
    by_test : (b c : Bool) → filter p (map h (filter q xs)) ≡ map h (filter (λ x. p (h x) && q x) xs)
        → filter p (map h (cond b (x ∷ filter q xs) (filter q xs))) ≡ map h (cond (p (h x) && b) (x ∷ filter (λ x. p (h x) && q x) xs) (filter (λ x. p (h x) && q x) xs))
    by_test b c same = of b (p (h x)) refl
      where
        of : (b d : Bool) → p (h x) ≡ d → filter p (map h (cond b (x ∷ filter q xs) (filter q xs))) ≡ map h (cond (p (h x) && b) (x ∷ filter (λ x. p (h x) && q x) xs) (filter (λ x. p (h x) && q x) xs))
        of true true is = (λ i. cond (is i) (h x ∷ same i) (same i)) ∙ (λ i. map h (cond (sym is i && true) (x ∷ filter (λ x. p (h x) && q x) xs) (filter (λ x. p (h x) && q x) xs)))
        of true false is = (λ i. cond (is i) (h x ∷ same i) (same i)) ∙ (λ i. map h (cond (sym is i && true) (x ∷ filter (λ x. p (h x) && q x) xs) (filter (λ x. p (h x) && q x) xs)))
        of false true is = same ∙ (λ i. map h (cond (sym is i && false) (x ∷ filter (λ x. p (h x) && q x) xs) (filter (λ x. p (h x) && q x) xs)))
        of false false is = same ∙ (λ i. map h (cond (sym is i && false) (x ∷ filter (λ x. p (h x) && q x) xs) (filter (λ x. p (h x) && q x) xs)))

-- ---- spots

one_place : (from to : ℕ) → spots_between from to ≡ spots_at to from ++ spots_between (from + 1) to
one_place from to = by_size (to - from) refl
  where
    by_size : (n : ℕ) → to - from ≡ n → spots_between from to ≡ spots_at to from ++ spots_between (from + 1) to
    by_size zero e =
        let later : to - (from + 1) ≡ 0 = omega (arith, e) in
        ap (λ n. flat_map (spots_at to) (range_with_len from n)) e
        ∙ sym (λ i. map (spot from) (range_with_len 1 (e i)) ++ flat_map (spots_at to) (range_with_len (from + 1) (later i)))
    by_size (suc m) e =
        let later : m ≡ to - (from + 1) = omega (arith, e) in
        ap (λ n. flat_map (spots_at to) (range_with_len from n)) e
        ∙ ap (λ n. spots_at to from ++ flat_map (spots_at to) (range_with_len (from + 1) n)) later

no_spots : (from to : ℕ) → to ≤ from → spots_between from to ≡ []
no_spots from to h = let none : to - from ≡ 0 = omega (arith, h) in ap (λ n. flat_map (spots_at to) (range_with_len from n)) none

module _ (test other : Spot → Bool) where
  row_same : (place n k : ℕ) → ((m : ℕ) → n ≤ m → m < n + k → test (spot place m) ≡ other (spot place m))
      → filter test (map (spot place) (range_with_len n k)) ≡ filter other (map (spot place) (range_with_len n k))
  row_same place n zero same = refl
  row_same place n (suc k) same =
      let rest = row_same place (n + 1) k (λ m a b. same m (omega (arith, a)) (omega (arith, b))) in
      λ i. cond (same n (omega arith) (omega arith) i) (spot place n ∷ rest i) (rest i)

  -- tests that are alike on the spots between two places
  spots_same : (to k from : ℕ) → to - from ≡ k → ((p n : ℕ) → from ≤ p → 1 ≤ n → p + n ≤ to → test (spot p n) ≡ other (spot p n)) → filter test (spots_between from to) ≡ filter other (spots_between from to)
  spots_same to zero from e same = let none = no_spots from to (omega (arith, e)) in ap (filter test) none ∙ sym (ap (filter other) none)
  spots_same to (suc k) from e same =
      let here = row_same from 1 (to - from) (λ m a b. same from m (omega arith) a (omega (arith, b, e))) in
      let later = spots_same to k (from + 1) (omega (arith, e)) (λ p n a b c. same p n (omega (arith, a)) b c) in
      ap (filter test) (one_place from to)
      ∙ filter-append test (spots_at to from) (spots_between (from + 1) to)
      ∙ (λ i. here i ++ later i)
      ∙ sym (filter-append other (spots_at to from) (spots_between (from + 1) to))
      ∙ sym (ap (filter other) (one_place from to))

module _ (test : Spot → Bool) where
  row_fails : (place n k : ℕ) → ((m : ℕ) → n ≤ m → m < n + k → test (spot place m) ≡ false) → filter test (map (spot place) (range_with_len n k)) ≡ []
  row_fails place n zero fails = refl
  row_fails place n (suc k) fails =
      let rest = row_fails place (n + 1) k (λ m a b. fails m (omega (arith, a)) (omega (arith, b))) in
      λ i. cond (fails n (omega arith) (omega arith) i) (spot place n ∷ rest i) (rest i)

  row_cut : (place n a b : ℕ) → ((m : ℕ) → n + a ≤ m → m < (n + a) + b → test (spot place m) ≡ false)
      → filter test (map (spot place) (range_with_len n (a + b))) ≡ filter test (map (spot place) (range_with_len n a))
  row_cut place n zero b fails =
      let size : 0 + b ≡ b = omega arith in
      ap (λ k. filter test (map (spot place) (range_with_len n k))) size ∙ row_fails place n b (λ m x y. fails m (omega (arith, x)) (omega (arith, y)))
  row_cut place n (suc a) b fails =
      let size : suc a + b ≡ suc (a + b) = omega arith in
      let rest = row_cut place (n + 1) a b (λ m x y. fails m (omega (arith, x)) (omega (arith, y))) in
      ap (λ k. filter test (map (spot place) (range_with_len n k))) size
      ∙ (λ i. cond (test (spot place n)) (spot place n ∷ rest i) (rest i))

  -- the places before another are left out
  later_spots : (to k from : ℕ) → ((p n : ℕ) → from ≤ p → p < from + k → p + n ≤ to → 1 ≤ n → test (spot p n) ≡ false) → filter test (spots_between from to) ≡ filter test (spots_between (from + k) to)
  later_spots to zero from fails = let e : from ≡ from + 0 = omega arith in ap (λ p. filter test (spots_between p to)) e
  later_spots to (suc k) from fails =
      let e : (from + 1) + k ≡ from + suc k = omega arith in
      let none = row_fails from 1 (to - from) (λ m a b. fails from m (omega arith) (omega arith) (omega (arith, a, b)) a) in
      ap (filter test) (one_place from to)
      ∙ filter-append test (spots_at to from) (spots_between (from + 1) to)
      ∙ ap (λ xs. xs ++ filter test (spots_between (from + 1) to)) none
      ∙ later_spots to k (from + 1) (λ p n a b c d. fails p n (omega (arith, a)) (omega (arith, b)) c d)
      ∙ ap (λ p. filter test (spots_between p to)) e

  -- the spots that end behind another place are left out
  earlier_spots : (end to k from : ℕ) → end ≤ to → to - from ≡ k → ((p n : ℕ) → from ≤ p → 1 ≤ n → end < p + n → p + n ≤ to → test (spot p n) ≡ false)
      → filter test (spots_between from to) ≡ filter test (spots_between from end)
  earlier_spots end to zero from less e fails = ap (filter test) (no_spots from to (omega (arith, e)) ∙ sym (no_spots from end (omega (arith, e, less))))
  earlier_spots end to (suc k) from less e fails =
      let size : to - from ≡ (end - from) + ((to - from) - (end - from)) = omega (arith, less) in
      let here = ap (λ n. filter test (map (spot from) (range_with_len 1 n))) size
      ∙ row_cut from 1 (end - from) ((to - from) - (end - from)) (λ m a b. fails from m (omega arith) (omega (arith, a)) (omega (arith, a)) (omega (arith, a, b, e, less))) in
      let later = earlier_spots end to k (from + 1) less (omega (arith, e)) (λ p n a b c d. fails p n (omega (arith, a)) b c d) in
      ap (filter test) (one_place from to)
      ∙ filter-append test (spots_at to from) (spots_between (from + 1) to)
      ∙ (λ i. here i ++ later i)
      ∙ sym (filter-append test (spots_at end from) (spots_between (from + 1) end))
      ∙ sym (ap (filter test) (one_place from end))

-- ---- what is wanted at a place, by the places of a part

module _ (version : List Numbered) (doc : ℕ) where
  there_in : (span : Span) (p number : ℕ) → is_inside span p ≡ true
      → list_any (λ (hit : Hit). hit.from == p) (term_hits number doc span version) ≡ list_any (λ q. q == p) (places (term_at number version).word (document_at doc version))
  there_in span p number inside =
      let document = document_at doc version in
      let word = (term_at number version).word in
      list_any-map (λ (hit : Hit). hit.from == p) (word_hit (breaks_of document)) (filter (is_inside span) (places word document))
      ∙ any-filter_same (λ q. q == p) (is_inside span) true (λ q same. ap (is_inside span) (eqb-true q p same) ∙ inside) (places word document)

  wanted_in : (span : Span) (p : ℕ) (sources : List VersionTerm) → is_inside span p ≡ true
      → fits p (wanted_at version doc span (Terms.Of sources)) ≡ list_any (λ (source : VersionTerm). list_any (λ q. q == p) (places (term_at source.term version).word (document_at doc version))) sources
  wanted_in span p sources inside =
      list_any-map (λ places. list_any (λ other. other == p) places) (λ (source : VersionTerm). map (λ (hit : Hit). hit.from) (term_hits source.term doc span version)) sources
      ∙ list_any-alike (λ (source : VersionTerm). list_any (λ other. other == p) (map (λ (hit : Hit). hit.from) (term_hits source.term doc span version)))
      (λ (source : VersionTerm). list_any (λ q. q == p) (places (term_at source.term version).word (document_at doc version))) sources
      (λ (source : VersionTerm). list_any-map (λ other. other == p) (λ (hit : Hit). hit.from) (term_hits source.term doc span version) ∙ there_in span p source.term inside)

  fits_in : (span part : Span) (p : ℕ) (terms : WordTerms) → is_inside span p ≡ true → is_inside part p ≡ true → fits p (wanted_at version doc span terms) ≡ fits p (wanted_at version doc part terms)
  fits_in span part p Terms.Any a b = refl
  fits_in span part p (Terms.Of sources) a b = wanted_in span p sources a ∙ sym (wanted_in part p sources b)

  module _ (span part : Span) (first : span.from ≤ part.from) (last : part.to ≤ span.to) where
    inside_both : (p : ℕ) → part.from ≤ p → p < part.to → (is_inside span p ≡ true) × (is_inside part p ≡ true)
    inside_both p a b = (
      and_from (nat_le span.from p) (nat_lt p span.to) (le-leb span.from p (omega (arith, a, first))) (lt-ltb p span.to (omega (arith, b, last))),
      and_from (nat_le part.from p) (nat_lt p part.to) (le-leb part.from p a) (lt-ltb p part.to b),
    )

    words_in : (words : List WordTerms) (p : ℕ) → part.from ≤ p → p + length words ≤ part.to → stands_at p (map (wanted_at version doc span) words) ≡ stands_at p (map (wanted_at version doc part) words)
    words_in [] p a b = refl
    words_in (word ∷ words) p a b =
        let both = inside_both p a (omega (arith, b)) in
        λ i. fits_in span part p word both.0 both.1 i && words_in words (p + 1) (omega (arith, a)) (omega (arith, b)) i

    variant_in : (words : List WordTerms) (p n : ℕ) → part.from ≤ p → p + n ≤ part.to
        → ((length (map (wanted_at version doc span) words) == n) && stands_before span.to p (map (wanted_at version doc span) words))
        ≡ ((length (map (wanted_at version doc part) words) == n) && stands_before part.to p (map (wanted_at version doc part) words))
    variant_in words p n a b = by_size (length words == n) refl
      where
        wide : Bool → Bool
        wide size = size && (nat_le (p + length words) span.to && stands_at p (map (wanted_at version doc span) words))

        narrow : Bool → Bool
        narrow size = size && (nat_le (p + length words) part.to && stands_at p (map (wanted_at version doc part) words))

        many : (length words == n) ≡ true → length words ≡ n
        many e = eqb-true (length words) n e

        by_size : (size : Bool) → (length words == n) ≡ size
            → ((length (map (wanted_at version doc span) words) == n) && stands_before span.to p (map (wanted_at version doc span) words))
            ≡ ((length (map (wanted_at version doc part) words) == n) && stands_before part.to p (map (wanted_at version doc part) words))
        by_size size e =
            (λ i. (length-map words (wanted_at version doc span) i == n) && (nat_le (p + length-map words (wanted_at version doc span) i) span.to && stands_at p (map (wanted_at version doc span) words)))
            ∙ ap wide e ∙ of size e ∙ sym (ap narrow e)
            ∙ sym (λ i. (length-map words (wanted_at version doc part) i == n) && (nat_le (p + length-map words (wanted_at version doc part) i) part.to && stands_at p (map (wanted_at version doc part) words)))
          where
            of : (size : Bool) → (length words == n) ≡ size → wide size ≡ narrow size
            of true is =
                let size = many is in
                let outer : nat_le (p + length words) span.to ≡ true = le-leb (p + length words) span.to (omega (arith, size, b, last)) in
                let inner : nat_le (p + length words) part.to ≡ true = le-leb (p + length words) part.to (omega (arith, size, b)) in
                (λ i. outer i && words_in words p a (omega (arith, size, b)) i) ∙ sym (λ i. inner i && stands_at p (map (wanted_at version doc part) words))
            of false is = refl

    some_in : (terms : List (List WordTerms)) (p n : ℕ) → part.from ≤ p → p + n ≤ part.to
        → some_at span.to (map (map (wanted_at version doc span)) terms) (spot p n) ≡ some_at part.to (map (map (wanted_at version doc part)) terms) (spot p n)
    some_in terms p n a b =
        list_any-map (λ (ws : List Wanted). (length ws == n) && stands_before span.to p ws) (map (wanted_at version doc span)) terms
        ∙ list_any-alike (λ words. (length (map (wanted_at version doc span) words) == n) && stands_before span.to p (map (wanted_at version doc span) words))
        (λ words. (length (map (wanted_at version doc part) words) == n) && stands_before part.to p (map (wanted_at version doc part) words)) terms (λ words. variant_in words p n a b)
        ∙ sym (list_any-map (λ (ws : List Wanted). (length ws == n) && stands_before part.to p ws) (map (wanted_at version doc part)) terms)

-- ---- hits in bounds

rearranged : (a b c d e f g : Bool) → ((a && b) && ((c && d) && ((e && f) && g))) ≡ ((a && ((c && e) && g)) && (b && (d && f)))
rearranged false b c d e f g = refl
rearranged true true true true true true true = refl
rearranged true true true true true true false = refl
rearranged true true true true true false true = refl
rearranged true true true true true false false = refl
rearranged true true true true false f g = refl
rearranged true true true false true f true = refl
rearranged true true true false true f false = refl
rearranged true true true false false f g = refl
rearranged true true false d e f g = refl
rearranged true false true d true f true = refl
rearranged true false true d true f false = refl
rearranged true false true d false f g = refl
rearranged true false false d e f g = refl

module _ (bounds : Bounds) (number : ℕ) (breaks : Breaks) (span : Span) where
  lies_by_places : (at : Spot) → lies_in bounds (numbered_hit number breaks span at) ≡ (may_begin bounds number breaks span at.place && may_end bounds breaks span (last_place at))
  lies_by_places at =
      rearranged (nat_le bounds.words.from (at.place - (span.from - 1))) (is_before bounds.words.to (last_place at - (span.from - 1)))
      (nat_le bounds.sentences.from (own_number breaks.sentences span.from at.place)) (is_before bounds.sentences.to (own_number breaks.sentences span.from (last_place at)))
      (nat_le bounds.paragraphs.from (own_number breaks.paragraphs span.from at.place)) (is_before bounds.paragraphs.to (own_number breaks.paragraphs span.from (last_place at)))
      (nat_le bounds.order.from (at.place - (span.from - 1)) || nat_le number bounds.order.query)

  module _ (version : List Numbered) (doc : ℕ) (terms : List (List WordTerms)) (part : Span) (s : IsPart bounds number breaks span part) where
    abbrev wide : Spot → Bool
    wide at = lies_in bounds (numbered_hit number breaks span at) && some_at span.to (map (map (wanted_at version doc span)) terms) at

    abbrev narrow : Spot → Bool
    narrow at = some_at part.to (map (map (wanted_at version doc part)) terms) at

    too_early : (p n : ℕ) → span.from ≤ p → p < part.from → wide (spot p n) ≡ false
    too_early p n a b =
        ap (λ x. x && some_at span.to (map (map (wanted_at version doc span)) terms) (spot p n))
        (lies_by_places (spot p n) ∙ ap (λ x. x && may_end bounds breaks span (last_place (spot p n))) (s.begins.before p a b))

    too_late : (p n : ℕ) → part.from ≤ p → 1 ≤ n → part.to < p + n → p + n ≤ span.to → wide (spot p n) ≡ false
    too_late p n a b c d =
        let first = s.first in
        let past = s.ends.there (p + (n - 1)) (omega (arith, b, c)) (omega (arith, b, d)) in
        ap (λ x. x && some_at span.to (map (map (wanted_at version doc span)) terms) (spot p n))
        (lies_by_places (spot p n) ∙ and_right (may_begin bounds number breaks span p) (may_end bounds breaks span (p + (n - 1))) (not-true (may_end bounds breaks span (p + (n - 1))) past))

    between : (p n : ℕ) → part.from ≤ p → 1 ≤ n → p + n ≤ part.to → wide (spot p n) ≡ narrow (spot p n)
    between p n a b c =
        let first = s.first in
        let last = s.last in
        let begins = s.begins.there p a (omega (arith, b, c, last)) in
        let ends = not-false (may_end bounds breaks span (p + (n - 1))) (s.ends.before (p + (n - 1)) (omega (arith, a, first)) (omega (arith, b, c))) in
        (λ i. (lies_by_places (spot p n) ∙ and_from (may_begin bounds number breaks span p) (may_end bounds breaks span (p + (n - 1))) begins ends) i
        && some_at span.to (map (map (wanted_at version doc span)) terms) (spot p n))
        ∙ some_in version doc span part s.first s.last terms p n a c

    pub part_law : filter (lies_in bounds) (hits_in_span number breaks span (map (map (wanted_at version doc span)) terms))
        ≡ hits_in_part number breaks span part (map (map (wanted_at version doc part)) terms)
    part_law =
        let first = s.first in
        let start : span.from + (part.from - span.from) ≡ part.from = omega (arith, first) in
        filter_twice (lies_in bounds) (numbered_hit number breaks span) (some_at span.to (map (map (wanted_at version doc span)) terms)) (spots_between span.from span.to)
        ∙ ap (map (numbered_hit number breaks span))
        (later_spots wide span.to (part.from - span.from) span.from (λ p n a b c d. too_early p n a (omega (arith, b, first)))
        ∙ ap (λ from. filter wide (spots_between from span.to)) start
        ∙ earlier_spots wide part.to span.to (span.to - part.from) part.from s.last refl too_late
        ∙ spots_same wide narrow part.to (part.to - part.from) part.from refl between)
